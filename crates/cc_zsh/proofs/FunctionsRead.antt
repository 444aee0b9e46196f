-- The reading of the functions of a script.
use Rattle.std.proofs.Common.{◌≡◌, ℕ, true, false, cond, List, [], ◌∷◌, ◌++◌, map, flat_map, Option, Some, None, option_map, codes, refl, sym, ◌∙◌, ap, append_assoc, append-nil}
use Rattle.std.specs.List.{AllByRecursion}
use Rattle.std.proofs.lemmas.List.{map-append}
use Rattle.cc_base.specs.Bytes.{backslash, close_parenthesis, colon, open_parenthesis, underscore}
use Rattle.cc_base.proofs.Lines.{IsLine}
use Rattle.cc_base.proofs.Lines.IsLine.{line}
use Rattle.cc_generator.proofs.ReadInTurn.{in_parts, in_turn, items_begin}
use Rattle.cc_quote.specs.PosixSigns.{sign, byte_of}
use Rattle.cc_quote.specs.PosixTokens.{cut, between, in_bare, in_single}
use Rattle.cc_quote.specs.QuotedWord.{line_feeds_as_spaces}
use Rattle.cc_quote.specs.Tokens.{is_word}
use Rattle.cc_quote.specs.Tokens.Piece.{bare}
use Rattle.cc_quote.specs.Escapes.{marked}
use Rattle.cc_quote.specs.ZshQuote.{is_help_marked, marks, marks_from, zsh_escaped_help, zsh_unescaped, unmarked}
use Rattle.cc_quote.proofs.PosixCutting.{tokens_from, bare_run}
use Rattle.cc_quote.proofs.ZshWords.{help_composed, marks-kept, marked_unescaped}
use Rattle.cc_zsh.specs.Functions.{Entry, Function, unless_defined, function_begins, commands_begin, describe_begins, describe_ends, entry_text, entries_end, entries_text, function_text}
use Rattle.cc_zsh.specs.Nested.{function_label}
use Rattle.cc_zsh.specs.Reader.{Block, Description, Parts, State, entry_from, entry_of, function_name, next, next_function, read, text_before, with_description, word_of}
use Rattle.cc_zsh.specs.Reader.State.{at_list, between_functions, in_list, malformed}
use Rattle.cc_zsh.specs.Table.{description_of, entry_row}
use Rattle.cc_zsh.proofs.Cutting.{Escapes, escapes_append, escapes_same, NoQuote, quoted_token, single_cut, single_run, token_quoted, not_word, word_of-quoted}
use Rattle.cc_zsh.proofs.OptionWords.{AreNameBytes, name_byte-differs}
use Rattle.cc_zsh.proofs.LastBytes.{before-last, before-other}
use Rattle.cc_zsh.proofs.LinesRead.{reading}
use Rattle.cc_zsh.proofs.PlainNames.{name_other, name_no_quote}

-- ---- one description

entry_name : (name rest word : List ℕ) → AreNameBytes name →
    entry_from word (marks_from false (name ++ rest))
    ≡ entry_from (word ++ name) (marks_from false rest)
unfolding entry_from
entry_name [] rest word h =
    ap (λ w. entry_from w (marks_from false rest)) (sym (append-nil word))
entry_name (byte ∷ name) rest word (h, hs) =
    ap (entry_from word) (marks-kept byte (name ++ rest) (name_byte-differs backslash byte refl h))
    ∙ ap (λ b. elim b as (λ x. Option Entry) [
      | true ↦ option_map (λ help. let e : Entry = record { word = word; help = help } in e)
          (unmarked (marks_from false (name ++ rest)))
      | false ↦ entry_from (word ++ byte ∷ []) (marks_from false (name ++ rest))
    ]) (name_byte-differs colon byte refl h)
    ∙ entry_name name rest (word ++ byte ∷ []) hs
    ∙ ap (λ w. entry_from w (marks_from false rest)) (append_assoc word (byte ∷ []) name)

abbrev entry_word : Entry → List ℕ
entry_word e = e.word ++ (codes ":" ++ marked is_help_marked (line_feeds_as_spaces e.help))

colon_read : (word help : List ℕ) →
    entry_from word (marks_from false (codes ":" ++ marked is_help_marked help))
    ≡ Some (record { word = word; help = help })
unfolding entry_from marks_from zsh_unescaped marks
colon_read word help =
    ap (option_map (λ help. let e : Entry = record { word = word; help = help } in e))
    (marked_unescaped is_help_marked refl help)

entry_told : (e : Entry) → AreNameBytes e.word → entry_of (entry_word e) ≡ Some (entry_row e)
unfolding entry_of marks
entry_told e h =
    entry_name e.word (codes ":" ++ marked is_help_marked (line_feeds_as_spaces e.help)) [] h
    ∙ colon_read e.word (line_feeds_as_spaces e.help)

entry_escapes : (e : Entry) → AreNameBytes e.word →
    Escapes (e.word ++ (codes ":" ++ zsh_escaped_help e.help)) (entry_word e)
entry_escapes e h =
    escapes_append e.word (codes ":" ++ zsh_escaped_help e.help) e.word
    (codes ":" ++ marked is_help_marked (line_feeds_as_spaces e.help))
    (escapes_same e.word (name_no_quote e.word h))
    (escapes_append (codes ":") (zsh_escaped_help e.help) (codes ":")
    (marked is_help_marked (line_feeds_as_spaces e.help)) (escapes_same (codes ":") (refl, tt))
    (record { is = help_composed e.help }))

-- ---- a list

module _ (blocks : List Block) (ds : List Description) (label : List ℕ) where
  -- after some entries
  abbrev listing : List Entry → List ℕ → Option Parts
  listing es text = reading (in_list blocks ds label (map entry_row es)) between text

  entry_next : (es : List Entry) (e : Entry) → AreNameBytes e.word →
      next (in_list blocks ds label (map entry_row es)) (quoted_token (entry_word e))
      ≡ in_list blocks ds label (map entry_row (es ++ e ∷ []))
  unfolding next
  entry_next es e h =
      ap (λ b. cond b (between_functions blocks (with_description ds label (map entry_row es)))
      (elim (entry_of (word_of (quoted_token (entry_word e)))) as (λ x. State) [
        | Some entry ↦ in_list blocks ds label (map entry_row es ++ entry ∷ [])
        | None ↦ malformed
      ])) (not_word (codes ")") (quoted_token (entry_word e)) (token_quoted (entry_word e)))
      ∙ ap (λ o. elim o as (λ x. State) [
        | Some entry ↦ in_list blocks ds label (map entry_row es ++ entry ∷ [])
        | None ↦ malformed
      ]) (ap entry_of (word_of-quoted (entry_word e)) ∙ entry_told e h)
      ∙ ap (in_list blocks ds label) (sym (map-append entry_row es (e ∷ [])))

  entry_line : (e : Entry) (rest : List ℕ) → IsLine (entry_text e ++ rest)
  unfolding entry_text
  entry_line e rest = line _

  regroup_entry : (a b c d e rest : List ℕ) →
      ((((a ++ b) ++ c) ++ d) ++ e) ++ rest ≡ a ++ ((b ++ (c ++ d)) ++ (e ++ rest))
  regroup_entry a b c d e rest = simp append_assoc

  entry_read : (es : List Entry) (e : Entry) (rest : List ℕ) → AreNameBytes e.word →
      IsLine rest → listing es (entry_text e ++ rest) ≡ listing (es ++ e ∷ []) rest
  unfolding entry_text sign cut read
  entry_read es e rest h (line tail) =
      ap (listing es)
      (regroup_entry (codes "\n'") e.word (codes ":") (zsh_escaped_help e.help) (codes "' \\") (10 ∷ tail)
      ∙ ap (λ t. codes "\n'" ++ (t ++ (codes "' \\\n" ++ tail))) (entry_escapes e h).is)
      ∙ ap (read (in_list blocks ds label (map entry_row es)))
      (single_cut (entry_word e) tail [] [])
      ∙ ap (λ s. read s (tokens_from between tail)) (entry_next es e h)

  -- the list ends
  end_read : (es : List Entry) (rest : List ℕ) →
      listing es (entries_end ++ (describe_begins ++ rest))
      ≡ reading (between_functions blocks (with_description ds label (map entry_row es)))
      (in_single [] []) rest
  unfolding entries_end describe_begins sign byte_of cut is_word next next_function function_name text_before read
  end_read es rest = refl

  end_line : (rest : List ℕ) → IsLine (entries_end ++ rest)
  unfolding entries_end
  end_line rest = line _

  -- from the bracket on
  list_read : (es : List Entry) (rest : List ℕ) → AllByRecursion (λ e. AreNameBytes e.word) es →
      reading (at_list blocks ds label) (in_bare [] (codes "commands=("))
      (entries_text es ++ (describe_begins ++ rest))
      ≡ reading (between_functions blocks (with_description ds label (map entry_row es)))
      (in_single [] []) rest
  unfolding entries_text describe_begins sign byte_of cut is_word next next_function function_name text_before read
  list_read [] rest h = refl
  list_read (e ∷ es) rest h =
      let end : List ℕ = entries_end ++ (describe_begins ++ rest) in
      ap (reading (at_list blocks ds label) (in_bare [] (codes "commands=(")))
      (append_assoc (flat_map entry_text (e ∷ es)) entries_end (describe_begins ++ rest))
      ∙ opens (flat_map entry_text (e ∷ es) ++ end)
      (items_begin IsLine entry_text entry_line (e ∷ es) end (end_line (describe_begins ++ rest)))
      ∙ in_turn listing entry_text (λ e. AreNameBytes e.word) entry_line entry_read [] (e ∷ es) end
      h (end_line (describe_begins ++ rest))
      ∙ end_read (e ∷ es) rest
    where
      opens : (text : List ℕ) → IsLine text →
          reading (at_list blocks ds label) (in_bare [] (codes "commands=(")) text ≡ listing [] text
      opens text (line tail) = refl

-- ---- one function

-- the requirements on a function
pub record IsFunction (function : Function) : Type 0 where
  pub label : AreNameBytes (function_label function.name)
  pub name : NoQuote function.name
  pub words : AllByRecursion (λ e. AreNameBytes e.word) function.entries

abbrev by_name : List Block → List Description → Option (List ℕ) → State
by_name blocks ds found = elim found as (λ x. State) [
  | Some label ↦ at_list blocks ds label
  | None ↦ between_functions blocks ds
]

-- a bare token that does not end in a bracket is passed over
pub passed : (blocks : List Block) (ds : List Description) (run : List ℕ) →
    text_before close_parenthesis run ≡ None →
    next (between_functions blocks ds) (bare run ∷ []) ≡ between_functions blocks ds
unfolding next next_function function_name
passed blocks ds run e = ap (λ o. by_name blocks ds (elim o as (λ x. Option (List ℕ)) [
  | Some front ↦ text_before open_parenthesis front
  | None ↦ None
])) e

-- a bare token that ends in `()` begins a function
begins : (blocks : List Block) (ds : List Description) (label : List ℕ) →
    next (between_functions blocks ds) (bare ((label ++ codes "(") ++ codes ")") ∷ [])
    ≡ at_list blocks ds label
unfolding next next_function function_name
begins blocks ds label =
    ap (λ o. by_name blocks ds (elim o as (λ x. Option (List ℕ)) [
      | Some front ↦ text_before open_parenthesis front
      | None ↦ None
    ])) (before-last 41 (label ++ codes "(") refl)
    ∙ ap (by_name blocks ds) (before-last 40 label refl)

module _ (blocks : List Block) (ds : List Description) where
  -- up to the second label
  first_read : (label rest : List ℕ) → AreNameBytes label →
      reading (between_functions blocks ds) between (unless_defined ++ (label ++ (function_begins ++ rest)))
      ≡ reading (between_functions blocks ds) (in_bare [] (codes "_")) rest
  unfolding unless_defined function_begins sign byte_of cut next next_function function_name text_before read
  first_read label rest h =
      ap (read (between_functions blocks ds))
      (bare_run label (function_begins ++ rest) [] (codes "$+functions[_") (name_other label h))
      ∙ ap (λ s. read s (tokens_from between (codes " )) ||\n_" ++ rest)))
      (passed blocks ds ((codes "$+functions[_" ++ label) ++ codes "]")
      (before-other 41 93 (codes "$+functions[_" ++ label) refl))

  second_read : (label rest : List ℕ) → AreNameBytes label →
      reading (between_functions blocks ds) (in_bare [] (codes "_")) (label ++ (commands_begin ++ rest))
      ≡ reading (at_list blocks ds (underscore ∷ label)) (in_bare [] (codes "commands=(")) rest
  unfolding commands_begin sign byte_of cut is_word next read
  second_read label rest h =
      ap (read (between_functions blocks ds))
      (bare_run label (commands_begin ++ rest) [] (codes "_") (name_other label h))
      ∙ ap (λ s. read s (tokens_from between (codes " {\n    local commands; commands=(" ++ rest)))
      (begins blocks ds (underscore ∷ label))

  describe_read : (name rest : List ℕ) → NoQuote name →
      reading (between_functions blocks ds) (in_single [] []) (name ++ (describe_ends ++ rest))
      ≡ reading (between_functions blocks ds) between rest
  unfolding describe_ends sign byte_of cut next next_function function_name text_before read
  describe_read name rest h =
      ap (read (between_functions blocks ds)) (single_run name (describe_ends ++ rest) [] [] h)

-- a function is read
pub function_read : (blocks : List Block) (ds : List Description) (function : Function)
    (rest : List ℕ) → IsFunction function →
    reading (between_functions blocks ds) between (function_text function ++ rest)
    ≡ reading (between_functions blocks (ds ++ description_of function ∷ [])) between rest
unfolding function_text
function_read blocks ds function rest is =
    let label : List ℕ = function_label function.name in
    let named : List ℕ = function.name ++ (describe_ends ++ rest) in
    let listed : List ℕ = entries_text function.entries ++ (describe_begins ++ named) in
    ap (reading (between_functions blocks ds) between)
    (in_parts unless_defined (label ∷ function_begins ∷ label ∷ commands_begin
    ∷ entries_text function.entries ∷ describe_begins ∷ function.name ∷ describe_ends ∷ []) rest)
    ∙ first_read blocks ds label (label ++ (commands_begin ++ listed)) is.label
    ∙ second_read blocks ds label listed is.label
    ∙ list_read blocks ds (underscore ∷ label) function.entries named is.words
    ∙ describe_read blocks (ds ++ description_of function ∷ []) function.name rest is.name

-- functions are read one after another
pub functions_read : (blocks : List Block) (functions : List Function) (ds : List Description)
    (rest : List ℕ) → AllByRecursion IsFunction functions →
    reading (between_functions blocks ds) between (flat_map function_text functions ++ rest)
    ≡ reading (between_functions blocks (ds ++ map description_of functions)) between rest
functions_read blocks [] ds rest h =
    ap (λ more. reading (between_functions blocks more) between rest) (sym (append-nil ds))
functions_read blocks (function ∷ functions) ds rest (h, hs) =
    ap (reading (between_functions blocks ds) between)
    (append_assoc (function_text function) (flat_map function_text functions) rest)
    ∙ function_read blocks ds function (flat_map function_text functions ++ rest) h
    ∙ functions_read blocks functions (ds ++ description_of function ∷ []) rest hs
    ∙ ap (λ more. reading (between_functions blocks more) between rest)
    (append_assoc ds (description_of function ∷ []) (map description_of functions))
