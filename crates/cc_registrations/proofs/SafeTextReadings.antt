-- A safe registration for bash, zsh or fish reads back, if its fixed texts fit the reader's marks.
use Rattle.std.proofs.Common.{◌≡◌, ℕ, List, ◌∷◌, ◌++◌, Some, map, option_map, codes, ◌∙◌, ap}
use Rattle.std.specs.Option.{option_and_then}
use Rattle.cc_base.specs.Bytes.{line_feed}
use Rattle.cc_base.specs.Found.{after, after_mark, between, up_to, word_after, word_by}
use Rattle.cc_base.specs.Joined.{joined}
use Rattle.cc_registrations.specs.Names.{ending_at, identifier, if_identifier, listed_by}
use Rattle.cc_registrations.specs.Quoted.{quoted}
use Rattle.cc_registrations.specs.SafeText.{ReadsSafely, SafeMarks, function_front, function_text, names_line, safe_binaries, safe_completer, safe_function, safe_name, safe_names, safe_text, safe_variable}
use Rattle.cc_registrations.specs.declared.safe_text.SafeFrame.{SafeFrame}
use Rattle.cc_registrations.proofs.Identifiers.{identifier_found}
use Rattle.cc_registrations.proofs.ListedNames.{ReadsWords, listed, map_same}
use Rattle.cc_registrations.proofs.Regrouped.{regroup_twelve}

-- the fixed texts contain the marks, and each mark first occurs at its part
pub record IsMarked (frame : SafeFrame) (marks : SafeMarks) : Type 0 where
  pub begins_name : (rest : List ℕ) → after_mark marks.name_begins (frame.names_begin ++ rest) ≡ Some rest
  pub ends_name : (name rest : List ℕ) → up_to marks.name_ends (identifier name ++ (frame.names_follow ++ rest)) ≡ Some (identifier name)
  pub begins_names : (name rest : List ℕ) → after_mark marks.names_begin (identifier name ++ (frame.names_follow ++ rest)) ≡ Some rest
  pub same_between : frame.names_between ≡ marks.names_between
  pub reads_names : (rest : List ℕ) → ReadsWords (quoted frame.quoting) (λ text. text) marks.word_of marks.names_between line_feed rest
  pub begins_variable : (name rest : List ℕ) → after_mark marks.variable_begins (frame.function_begins ++ (identifier name ++ (frame.function_head ++ rest))) ≡ Some rest
  pub ends_variable : (variable rest : List ℕ) → up_to marks.variable_ends (identifier variable ++ (frame.call_begins ++ rest)) ≡ Some (identifier variable)
  pub begins_completer : (variable name rest : List ℕ)
      → after_mark marks.completer_begins (frame.function_begins ++ (identifier name ++ (frame.function_head ++ (identifier variable ++ (frame.call_begins ++ rest))))) ≡ Some rest
  pub reads_completer : (completer : List ℕ) → word_by marks.word_of (quoted frame.quoting completer ++ frame.call_ends) ≡ Some completer

module _ {frame : SafeFrame} {marks : SafeMarks} (fits : IsMarked frame marks) (variable name : List ℕ) (bins : List (List ℕ)) (completer : List ℕ) where
  abbrev text : List ℕ
  text = safe_text frame variable name bins completer

  abbrev names : List ℕ
  names = joined frame.names_between (map (quoted frame.quoting) bins)

  -- the text from the completer on
  abbrev completed : List ℕ
  completed = quoted frame.quoting completer ++ frame.call_ends

  -- the text from the variable on
  abbrev called : List ℕ
  called = identifier variable ++ (frame.call_begins ++ completed)

  -- the text after the first line
  abbrev function : List ℕ
  function = frame.function_begins ++ (identifier name ++ (frame.function_head ++ called))

  -- the text after the name in the first line
  abbrev listing : List ℕ
  listing = frame.names_follow ++ (names ++ line_feed ∷ function)

  in_turn : text ≡ frame.names_begin ++ (identifier name ++ listing)
  unfolding safe_text names_line function_text function_front
  in_turn = regroup_twelve frame.names_begin (identifier name) frame.names_follow names (codes "\n") frame.function_begins (identifier name) frame.function_head (identifier variable) frame.call_begins (quoted frame.quoting completer) frame.call_ends

  name_found : safe_name marks text ≡ Some (identifier name)
  unfolding safe_name between
  name_found =
      ap (safe_name marks) in_turn
      ∙ ap (λ found. option_and_then if_identifier (option_and_then (up_to marks.name_ends) found)) (fits.begins_name (identifier name ++ listing))
      ∙ ap (option_and_then if_identifier) (fits.ends_name name (names ++ line_feed ∷ function))
      ∙ identifier_found name

  names_found : safe_names marks text ≡ Some (bins, function)
  unfolding safe_names after
  names_found =
      let listed_in : List ℕ → _ = listed_by marks.word_of marks.names_between in
      let to_line_end : List (List ℕ) × List ℕ → _ = ending_at (codes "\n") in
      ap (safe_names marks) in_turn
      ∙ ap (λ found. option_and_then to_line_end (option_and_then listed_in (option_and_then (after_mark marks.names_begin) found))) (fits.begins_name (identifier name ++ listing))
      ∙ ap (λ found. option_and_then to_line_end (option_and_then listed_in found)) (fits.begins_names name (names ++ line_feed ∷ function))
      ∙ ap (λ separator. option_and_then to_line_end (listed_in (joined separator (map (quoted frame.quoting) bins) ++ line_feed ∷ function))) fits.same_between
      ∙ ap (option_and_then to_line_end) (listed (fits.reads_names function) bins)
      ∙ ap (λ words. Some (words, function)) (map_same bins)

  binaries_found : safe_binaries marks text ≡ Some bins
  unfolding safe_binaries
  binaries_found = ap (option_map (λ listed. listed.0)) names_found

  function_found : safe_function marks text ≡ Some function
  unfolding safe_function
  function_found = ap (option_map (λ listed. listed.1)) names_found

  variable_found : safe_variable marks text ≡ Some (identifier variable)
  unfolding safe_variable between
  variable_found =
      ap (λ found. option_and_then if_identifier (option_and_then (between marks.variable_begins marks.variable_ends) found)) function_found
      ∙ ap (λ found. option_and_then if_identifier (option_and_then (up_to marks.variable_ends) found)) (fits.begins_variable name called)
      ∙ ap (option_and_then if_identifier) (fits.ends_variable variable completed)
      ∙ identifier_found variable

  completer_found : safe_completer marks text ≡ Some completer
  unfolding safe_completer word_after
  completer_found =
      ap (option_and_then (word_after marks.word_of marks.completer_begins)) function_found
      ∙ ap (option_and_then (word_by marks.word_of)) (fits.begins_completer variable name completed)
      ∙ fits.reads_completer completer

  pub reads_safely : ReadsSafely marks text variable name bins completer
  reads_safely = record {
    variable_read = variable_found;
    name_read = name_found;
    completer_read = completer_found;
    binaries_read = binaries_found;
  }
