-- A safe registration for PowerShell reads back.
use Rattle.std.proofs.Common.{◌≡◌, ℕ, List, [], ◌∷◌, ◌++◌, Some, map, option_map, drop, codes, refl, ◌∙◌, ap, arith, append-nil}
use Rattle.std.specs.Option.{option_and_then}
use Rattle.cc_base.specs.Bytes.{space}
use Rattle.cc_base.specs.Found.{after, after_mark, between, cut_at, up_to, with_front, without_blanks, word_after, word_by}
use Rattle.cc_base.specs.Joined.{joined}
use Rattle.cc_base.proofs.Finding.{past_free, past_lacking}
use Rattle.cc_registrations.specs.AllQuotes.{all_quotes_word_of}
use Rattle.cc_registrations.specs.Names.{before_space, ending_at, identifier, if_identifier, is_identifier_byte, powershell_quoted, quoted_by, spaced}
use Rattle.cc_registrations.specs.SafePowershell.{names_begin, script_head, variable_kept, call_begins, call_ends, registration_head, call, registration_tail, safe_powershell, safe_powershell_names, safe_powershell_binaries, safe_powershell_script, safe_powershell_variable, safe_powershell_completer, SafePowershellReads}
use Rattle.cc_registrations.proofs.Identifiers.{identifier_found, identifier_lacks}
use Rattle.cc_registrations.proofs.ListedNames.{ReadsWords, listed, map_same}
use Rattle.cc_registrations.proofs.QuotedNames.{powershell_quoted_before, powershell_ends_at_comma, powershell_ends_at_space}
use Rattle.cc_registrations.proofs.Regrouped.{regroup_nine}

module _ (variable name : List ℕ) (bins : List (List ℕ)) (completer : List ℕ) where
  abbrev v : List ℕ
  v = identifier variable

  abbrev names : List ℕ
  names = joined (codes ", ") (map powershell_quoted bins)

  -- the text from the completer on
  abbrev completed : List ℕ
  completed = powershell_quoted completer ++ registration_tail variable

  -- the text from the second occurrence of the variable on
  abbrev called : List ℕ
  called = v ++ (call_begins ++ completed)

  -- the text after the programs
  abbrev script : List ℕ
  script = script_head ++ (v ++ (variable_kept ++ called))

  in_turn : safe_powershell variable name bins completer ≡ names_begin ++ (names ++ script)
  unfolding safe_powershell registration_head call
  in_turn = regroup_nine names_begin names script_head v variable_kept v call_begins (powershell_quoted completer) (registration_tail variable)

  reads : ReadsWords powershell_quoted (λ text. text) (quoted_by all_quotes_word_of) (codes ", ") space (drop 1 script)
  unfolding after script_head
  reads = record {
    before_more = λ word more. powershell_quoted_before 44 (space ∷ more) (powershell_ends_at_comma (space ∷ more)) word;
    before_end = λ word. powershell_quoted_before space (drop 1 script) (powershell_ends_at_space (drop 1 script)) word;
    skips = λ more. refl;
    no_more = refl;
    no_word = refl;
    is_some = omega arith;
  }

  names_found : safe_powershell_names (safe_powershell variable name bins completer) ≡ Some (bins, drop 14 script)
  unfolding safe_powershell_names after_mark after with_front cut_at names_begin script_head
  names_found = ap safe_powershell_names in_turn ∙ ap (option_and_then (ending_at (codes " -ScriptBlock "))) (listed reads bins) ∙ ap (λ words. Some (words, drop 14 script)) (map_same bins)

  binaries_found : safe_powershell_binaries (safe_powershell variable name bins completer) ≡ Some bins
  unfolding safe_powershell_binaries
  binaries_found = ap (option_map (λ listed. listed.0)) names_found

  script_found : safe_powershell_script (safe_powershell variable name bins completer) ≡ Some (drop 14 script)
  unfolding safe_powershell_script
  script_found = ap (option_map (λ listed. listed.1)) names_found

  variable_found : safe_powershell_variable (safe_powershell variable name bins completer) ≡ Some v
  unfolding safe_powershell_variable between up_to after_mark after with_front cut_at script_head variable_kept is_identifier_byte
  variable_found =
      ap (λ found. option_and_then if_identifier (option_and_then (between (codes "$env:") (codes ",")) found)) script_found
      ∙ ap (λ found. option_and_then if_identifier (option_map (λ c. c.0) found)) (past_lacking 44 [] v (variable_kept ++ called) (identifier_lacks 44 variable refl))
      ∙ ap if_identifier (append-nil v)
      ∙ identifier_found variable

  completer_found : safe_powershell_completer (safe_powershell variable name bins completer) ≡ Some completer
  unfolding safe_powershell_completer word_after after_mark after with_front cut_at word_by without_blanks script_head variable_kept call_begins call_ends registration_tail powershell_quoted is_identifier_byte
  completer_found =
      let mark = codes "| &" in
      let rest = drop 1 (registration_tail variable) in
      let head = drop 14 script_head in
      let reader = before_space (quoted_by all_quotes_word_of) in
      ap (option_and_then (word_after reader mark)) script_found
      ∙ ap (λ found. option_and_then (word_by reader) (option_map (λ c. c.1) found))
      (past_free mark head (v ++ (variable_kept ++ called)) refl
      ∙ ap (with_front head) (past_lacking 124 (drop 1 mark) v (variable_kept ++ called) (identifier_lacks 124 variable refl))
      ∙ ap (λ found. with_front head (with_front v found)) (past_free mark variable_kept called refl)
      ∙ ap (λ found. with_front head (with_front v (with_front variable_kept found))) (past_lacking 124 (drop 1 mark) v (call_begins ++ completed) (identifier_lacks 124 variable refl)))
      ∙ ap (λ read. option_map (λ read. read.0) (option_and_then spaced read)) (powershell_quoted_before space rest (powershell_ends_at_space rest) completer)

pub safe_powershell_reads : (variable name : List ℕ) (bins : List (List ℕ)) (completer : List ℕ) → SafePowershellReads variable name bins completer
safe_powershell_reads variable name bins completer = record {
  variable_read = variable_found variable name bins completer;
  completer_read = completer_found variable name bins completer;
  binaries_read = binaries_found variable name bins completer;
}
