-- A safe registration for Elvish reads back.
use Rattle.std.proofs.Common.{◌≡◌, ℕ, List, ◌++◌, Some, map, option_map, drop, codes, refl, ◌∙◌, ap, arith, append-nil}
use Rattle.std.specs.Option.{option_and_then}
use Rattle.cc_base.specs.Bytes.{close_bracket, equals, space}
use Rattle.cc_base.specs.Found.{after, after_mark, between, cut_at, up_to, with_front, without_blanks, word_after, word_by}
use Rattle.cc_base.specs.Joined.{joined}
use Rattle.cc_base.proofs.Finding.{past_free, past_lacking}
use Rattle.cc_quote.specs.ElvishQuote.{elvish_word_of}
use Rattle.cc_registrations.specs.Names.{before_space, elvish_quoted, ending_at, identifier, if_identifier, is_identifier_byte, quoted_by, spaced}
use Rattle.cc_registrations.specs.SafeElvish.{names_begin, function_head, call_begins, call_ends, registration_front, safe_elvish, safe_elvish_names, safe_elvish_binaries, safe_elvish_function, safe_elvish_variable, safe_elvish_completer, SafeElvishReads}
use Rattle.cc_registrations.proofs.Identifiers.{identifier_found, identifier_lacks}
use Rattle.cc_registrations.proofs.ListedNames.{ReadsWords, listed, map_same}
use Rattle.cc_registrations.proofs.QuotedNames.{elvish_quoted_before, elvish_ends_at_bracket, elvish_ends_at_space}
use Rattle.cc_registrations.proofs.Regrouped.{regroup_seven}

module _ (variable name : List ℕ) (bins : List (List ℕ)) (completer : List ℕ) where
  abbrev v : List ℕ
  v = identifier variable

  abbrev names : List ℕ
  names = joined (codes " ") (map elvish_quoted bins)

  -- the text from the completer on
  abbrev completed : List ℕ
  completed = elvish_quoted completer ++ call_ends

  -- the text after the programs
  abbrev function : List ℕ
  function = function_head ++ (v ++ (call_begins ++ completed))

  in_turn : safe_elvish variable name bins completer ≡ names_begin ++ (names ++ function)
  unfolding safe_elvish registration_front
  in_turn = regroup_seven names_begin names function_head v call_begins (elvish_quoted completer) call_ends

  reads : ReadsWords elvish_quoted (λ text. text) (quoted_by elvish_word_of) (codes " ") close_bracket (drop 1 function)
  unfolding after function_head
  reads = record {
    before_more = λ word more. elvish_quoted_before space more (elvish_ends_at_space more) word;
    before_end = λ word. elvish_quoted_before close_bracket (drop 1 function) (elvish_ends_at_bracket (drop 1 function)) word;
    skips = λ more. refl;
    no_more = refl;
    no_word = refl;
    is_some = omega arith;
  }

  names_found : safe_elvish_names (safe_elvish variable name bins completer) ≡ Some (bins, drop 1 function)
  unfolding safe_elvish_names after_mark after with_front cut_at names_begin function_head
  names_found = ap safe_elvish_names in_turn ∙ ap (option_and_then (ending_at (codes "]"))) (listed reads bins) ∙ ap (λ words. Some (words, drop 1 function)) (map_same bins)

  binaries_found : safe_elvish_binaries (safe_elvish variable name bins completer) ≡ Some bins
  unfolding safe_elvish_binaries
  binaries_found = ap (option_map (λ listed. listed.0)) names_found

  function_found : safe_elvish_function (safe_elvish variable name bins completer) ≡ Some (drop 1 function)
  unfolding safe_elvish_function
  function_found = ap (option_map (λ listed. listed.1)) names_found

  variable_found : safe_elvish_variable (safe_elvish variable name bins completer) ≡ Some v
  unfolding safe_elvish_variable between up_to after_mark after with_front cut_at function_head call_begins is_identifier_byte
  variable_found =
      let ending = codes "=elvish " in
      ap (λ found. option_and_then if_identifier (option_and_then (between (codes " e:env ") ending) found)) function_found
      ∙ ap (λ found. option_and_then if_identifier (option_map (λ c. c.0) found)) (past_lacking equals (drop 1 ending) v (call_begins ++ completed) (identifier_lacks equals variable refl))
      ∙ ap if_identifier (append-nil v)
      ∙ identifier_found variable

  completer_found : safe_elvish_completer (safe_elvish variable name bins completer) ≡ Some completer
  unfolding safe_elvish_completer word_after after_mark after with_front cut_at word_by without_blanks function_head call_begins call_ends elvish_quoted is_identifier_byte
  completer_found =
      let mark = codes "=$values " in
      let rest = drop 1 call_ends in
      let head = drop 1 function_head in
      let reader = before_space (quoted_by elvish_word_of) in
      ap (option_and_then (word_after reader mark)) function_found
      ∙ ap (λ found. option_and_then (word_by reader) (option_map (λ c. c.1) found))
      (past_free mark head (v ++ (call_begins ++ completed)) refl
      ∙ ap (with_front head) (past_lacking equals (drop 1 mark) v (call_begins ++ completed) (identifier_lacks equals variable refl)))
      ∙ ap (λ read. option_map (λ read. read.0) (option_and_then spaced read)) (elvish_quoted_before space rest (elvish_ends_at_space rest) completer)

pub safe_elvish_reads : (variable name : List ℕ) (bins : List (List ℕ)) (completer : List ℕ) → SafeElvishReads variable name bins completer
safe_elvish_reads variable name bins completer = record {
  variable_read = variable_found variable name bins completer;
  completer_read = completer_found variable name bins completer;
  binaries_read = binaries_found variable name bins completer;
}
