-- A registration for fish reads back.
use Rattle.std.proofs.Common.{◌≡◌, ℕ, IsTrue, List, [], ◌∷◌, ◌++◌, Some, option_map, drop, codes, refl, sym, ◌∙◌, ap, append_assoc, append-nil}
use Rattle.std.specs.Option.{option_and_then}
use Rattle.cc_base.proofs.Lines.{regroup_six}
use Rattle.cc_base.specs.Bytes.{dash, equals, space}
use Rattle.cc_base.specs.PlainName.{is_plain_name, name_byte}
use Rattle.cc_base.proofs.NameBytes.{plain_bytes, name_lacks, no_joiner_first, plain_some}
use Rattle.cc_quote.proofs.SafeNames.{fish_plain, fish_safe_bytes}
use Rattle.cc_quote.specs.FishQuote.{fish_sign, fish_quoted, fish_quoted_for_eval, fish_double_from, fish_double_of, fish_word_of}
use Rattle.cc_quote.specs.FishQuote.{in_double}
use Rattle.cc_quote.proofs.FishWords.{safe_double_escaped}
use Rattle.cc_quote.proofs.FishReaders.{double_from}
use Rattle.cc_quote.proofs.BeforeBlanks.{fish_before_space, bare_first}
use Rattle.cc_base.specs.Found.{after, with_front, cut_at, up_to, after_mark, between, without_blanks, word_by, word_after}
use Rattle.cc_registrations.specs.FishRegistration.{registration_begins, registration_front, arguments_begin, shell_set, registration_ends, fish_registration, fish_binary, fish_arguments, fish_variable, fish_completer, FishRegistrationReads, FishReads}
use Rattle.cc_base.proofs.Finding.{cut_at-none, after-none, past_lacking, past_free}

-- the search passes over the space before the binary, which does not begin with `-`
past_space : (bin rest : List ℕ) → IsTrue (is_plain_name bin) → cut_at (codes " --arguments") (space ∷ (bin ++ rest)) ≡ with_front (codes " ") (cut_at (codes " --arguments") (bin ++ rest))
unfolding after name_byte
past_space [] rest h = absurd (plain_some [] h refl)
past_space (byte ∷ bin) rest h = cut_at-none (codes " --arguments") (byte ∷ bin ++ rest) space (after-none dash byte (codes "-arguments") (bin ++ rest) (no_joiner_first dash byte bin refl h))

abbrev command : List ℕ
command = codes "complete --keep-order --exclusive --command"

module _ (variable bin completer : List ℕ) where
  -- the text after the completer, before the quote
  abbrev closing : List ℕ
  closing = codes " -- (commandline --current-process --tokenize --cut-at-cursor) (commandline --current-token))"

  -- the text after the variable
  abbrev after_variable : List ℕ
  after_variable = shell_set ++ (fish_quoted_for_eval completer ++ registration_ends)

  in_turn : fish_registration variable bin completer
      ≡ registration_begins ++ (fish_quoted bin ++ (arguments_begin ++ (variable ++ after_variable)))
  unfolding fish_registration registration_front
  in_turn =
      regroup_six (registration_begins ++ fish_quoted bin) arguments_begin variable shell_set (fish_quoted_for_eval completer) registration_ends
      ∙ append_assoc registration_begins (fish_quoted bin) (arguments_begin ++ (variable ++ after_variable))

  binary_found : fish_binary (fish_registration variable bin completer) ≡ Some bin
  unfolding fish_binary word_after after_mark word_by after with_front cut_at without_blanks registration_begins arguments_begin
  binary_found =
      let rest = drop 1 (arguments_begin ++ (variable ++ after_variable)) in
      let read = fish_before_space bin rest in
      ap (word_after fish_word_of (codes "--command")) in_turn
      ∙ ap (λ text. option_map (λ read. read.0) (fish_word_of text)) (bare_first (fish_quoted bin ++ space ∷ rest) read.0)
      ∙ ap (option_map (λ read. read.0)) read.1

  module _ (variable_plain : IsTrue (is_plain_name variable)) (bin_plain : IsTrue (is_plain_name bin)) where
    -- the text in the quotes
    abbrev held : List ℕ
    held = (((codes "(" ++ variable) ++ codes "=fish ") ++ fish_quoted completer) ++ closing

    held_in_turn : held ≡ codes "(" ++ (variable ++ (codes "=fish" ++ (space ∷ (fish_quoted completer ++ closing))))
    held_in_turn =
        append_assoc ((codes "(" ++ variable) ++ codes "=fish ") (fish_quoted completer) closing
        ∙ append_assoc (codes "(" ++ variable) (codes "=fish ") (fish_quoted completer ++ closing)

    quotes_read : fish_double_of (codes "\"(" ++ (variable ++ after_variable)) ≡ Some (held, codes "\n")
    unfolding fish_sign shell_set fish_quoted_for_eval registration_ends
    quotes_read =
        ap (λ text. fish_double_from (in_double (codes "(")) (text ++ after_variable)) (sym (safe_double_escaped variable (fish_safe_bytes variable (plain_bytes variable variable_plain))))
        ∙ double_from variable (codes "(") after_variable
        ∙ double_from (codes "=fish ") (codes "(" ++ variable) (fish_quoted_for_eval completer ++ registration_ends)
        ∙ double_from (fish_quoted completer) ((codes "(" ++ variable) ++ codes "=fish ") registration_ends
        ∙ double_from closing (((codes "(" ++ variable) ++ codes "=fish ") ++ fish_quoted completer) (codes "\"\n")

    arguments_found : fish_arguments (fish_registration variable bin completer) ≡ Some held
    unfolding fish_arguments word_after after_mark word_by after with_front cut_at without_blanks registration_begins arguments_begin name_byte
    arguments_found =
        let rest = arguments_begin ++ (variable ++ after_variable) in
        ap (word_after fish_double_of (codes " --arguments")) (in_turn ∙ ap (λ text. registration_begins ++ (text ++ rest)) (fish_plain bin bin_plain))
        ∙ ap (λ found. option_and_then (word_by fish_double_of) (option_map (λ c. c.1) found))
        (past_free (codes " --arguments") command (space ∷ (bin ++ rest)) refl
        ∙ ap (with_front command) (past_space bin rest bin_plain)
        ∙ ap (λ found. with_front command (with_front (codes " ") found)) (past_lacking space (codes "--arguments") bin rest (name_lacks space bin refl (plain_bytes bin bin_plain))))
        ∙ ap (option_map (λ read. read.0)) quotes_read

    variable_found : fish_variable (fish_registration variable bin completer) ≡ Some variable
    unfolding fish_variable between up_to after_mark after with_front cut_at name_byte
    variable_found =
        ap (option_and_then (between (codes "(") (codes "=fish"))) (arguments_found ∙ ap Some held_in_turn)
        ∙ ap (option_map (λ c. c.0)) (past_lacking equals (codes "fish") variable (codes "=fish" ++ (space ∷ (fish_quoted completer ++ closing))) (name_lacks equals variable refl (plain_bytes variable variable_plain)))
        ∙ ap Some (append-nil variable)

    completer_found : fish_completer (fish_registration variable bin completer) ≡ Some completer
    unfolding fish_completer word_after after_mark word_by after with_front cut_at without_blanks name_byte
    completer_found =
        let rest = codes "=fish" ++ (space ∷ (fish_quoted completer ++ closing)) in
        let read = fish_before_space completer (drop 1 closing) in
        ap (option_and_then (word_after fish_word_of (codes "=fish"))) (arguments_found ∙ ap Some held_in_turn)
        ∙ ap (λ found. option_and_then (word_by fish_word_of) (option_map (λ c. c.1) (with_front (codes "(") found)))
        (past_lacking equals (codes "fish") variable rest (name_lacks equals variable refl (plain_bytes variable variable_plain)))
        ∙ ap (λ text. option_map (λ read. read.0) (fish_word_of text)) (bare_first (fish_quoted completer ++ closing) read.0)
        ∙ ap (option_map (λ read. read.0)) read.1

    reads : FishRegistrationReads variable bin completer
    reads = record {
      variable_read = variable_found;
      completer_read = completer_found;
      binary_read = binary_found;
    }

pub fish_reads : (variable bin completer : List ℕ) → FishReads variable bin completer
unfolding FishReads
fish_reads = reads
