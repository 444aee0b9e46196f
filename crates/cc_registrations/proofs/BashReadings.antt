-- A registration for bash reads back.
use Rattle.std.proofs.Common.{◌≡◌, ◌==◌, ℕ, IsTrue, List, [], ◌∷◌, ◌++◌, Some, option_map, drop, codes, refl, sym, ◌∙◌, ap, append_assoc, append-nil}
use Rattle.std.specs.Option.{option_and_then}
use Rattle.cc_base.proofs.Lines.{regroup_six}
use Rattle.cc_base.specs.Bytes.{equals, line_feed, open_parenthesis, space}
use Rattle.cc_base.specs.PlainName.{is_plain_name, name_byte}
use Rattle.cc_base.proofs.NameBytes.{plain_bytes, AreNameBytes, name_lacks, name_no_blanks, name_no_line_feeds, plain_some}
use Rattle.cc_quote.specs.BashDouble.{bash_doubled}
use Rattle.cc_quote.specs.PosixQuote.{posix_word_of}
use Rattle.cc_quote.proofs.BashDoubles.{doubled_is_word}
use Rattle.cc_base.specs.Found.{after, with_front, cut_at, up_to, after_mark, between, without_blanks, after_last_from, last_line, word_by, word_after, words_from, before_last}
use Rattle.cc_registrations.specs.Names.{underscored}
use Rattle.cc_registrations.specs.BashRegistration.{function_begins, function_head, call_begins, call_ends, name_ends, otherwise, registration_ends, registration_front, sorted_call, plain_call, registration_tail, bash_registration, variable_ends, bash_variable, bash_completer, bash_name, bash_binary, BashRegistrationReads, BashReads}
use Rattle.cc_base.proofs.Finding.{past_lacking, past_free, run_on, no_blanks, before_fi}
use Rattle.cc_registrations.proofs.Underscored.{underscored_bytes}

-- ---- the registration, piece after piece

module _ (variable name bin completer : List ℕ) where
  abbrev n : List ℕ
  n = underscored name

  -- the text after the variable's line
  abbrev call : List ℕ
  call = codes "        \"" ++ (bash_doubled completer ++ registration_tail name bin)

  in_turn : bash_registration variable name bin completer
      ≡ function_begins ++ (n ++ (function_head ++ (variable ++ (variable_ends ++ call))))
  unfolding bash_registration registration_front call_begins variable_ends
  in_turn =
      regroup_six (function_begins ++ n) function_head variable call_begins (bash_doubled completer) (registration_tail name bin)
      ∙ append_assoc function_begins n (function_head ++ (variable ++ (variable_ends ++ call)))

  -- the text before the last occurrence of the binary
  abbrev before_bin : List ℕ
  before_bin = (registration_front variable name ++ bash_doubled completer) ++ (((((call_ends ++ n) ++ name_ends) ++ bin) ++ otherwise) ++ n)

  up_to_bin : bash_registration variable name bin completer ≡ before_bin ++ space ∷ (bin ++ registration_ends)
  unfolding bash_registration sorted_call plain_call registration_tail name_ends
  up_to_bin =
      let front = registration_front variable name ++ bash_doubled completer in
      let middle = (((call_ends ++ n) ++ name_ends) ++ bin) ++ otherwise in
      ap (λ t. front ++ (middle ++ t)) (append_assoc (n ++ name_ends) bin registration_ends ∙ append_assoc n name_ends (bin ++ registration_ends))
      ∙ ap (λ t. front ++ t) (sym (append_assoc middle n (space ∷ (bin ++ registration_ends))))
      ∙ sym (append_assoc front (middle ++ n) (space ∷ (bin ++ registration_ends)))

  module _ (variable_plain : IsTrue (is_plain_name variable)) (name_plain : IsTrue (is_plain_name name)) (bin_plain : IsTrue (is_plain_name bin)) where
    of_name : AreNameBytes n
    of_name = underscored_bytes name (plain_bytes name name_plain)

    -- the text before the line's end
    abbrev before : List ℕ
    before = function_begins ++ (n ++ (function_head ++ (variable ++ [])))

    cut : cut_at variable_ends (bash_registration variable name bin completer) ≡ Some (before, call)
    unfolding after with_front cut_at function_begins function_head variable_ends name_byte
    cut =
        ap (cut_at variable_ends) in_turn
        ∙ past_free variable_ends function_begins (n ++ (function_head ++ (variable ++ (variable_ends ++ call)))) refl
        ∙ ap (with_front function_begins) (past_lacking equals (drop 1 variable_ends) n (function_head ++ (variable ++ (variable_ends ++ call))) (name_lacks equals n refl of_name))
        ∙ ap (λ found. with_front function_begins (with_front n found)) (past_free variable_ends function_head (variable ++ (variable_ends ++ call)) refl)
        ∙ ap (λ found. with_front function_begins (with_front n (with_front function_head found))) (past_lacking equals (drop 1 variable_ends) variable (variable_ends ++ call) (name_lacks equals variable refl (plain_bytes variable variable_plain)))

    last : last_line before ≡ codes "        " ++ variable
    unfolding last_line after_last_from function_begins function_head
    last =
        run_on (λ byte. byte == line_feed) (codes "_clap_complete_") n (function_head ++ (variable ++ [])) (name_no_line_feeds n of_name)
        ∙ run_on (λ byte. byte == line_feed) (codes "        ") variable [] (name_no_line_feeds variable (plain_bytes variable variable_plain))

    variable_found : bash_variable (bash_registration variable name bin completer) ≡ Some variable
    unfolding bash_variable up_to without_blanks
    variable_found =
        ap (λ found. option_map (λ b. without_blanks (last_line b)) (option_map (λ c. c.0) found)) cut
        ∙ ap (λ line. Some (without_blanks line)) last
        ∙ ap Some (no_blanks variable (name_no_blanks variable (plain_bytes variable variable_plain)))

    completer_found : bash_completer (bash_registration variable name bin completer) ≡ Some completer
    unfolding bash_completer word_after after_mark word_by without_blanks sorted_call registration_tail call_ends
    completer_found =
        ap (λ found. option_and_then (word_by posix_word_of) (option_map (λ c. c.1) found)) cut
        ∙ ap (option_map (λ read. read.0)) (doubled_is_word completer (drop 2 (registration_tail name bin)))

    name_found : bash_name (bash_registration variable name bin completer) ≡ Some n
    unfolding bash_name between up_to after_mark after with_front cut_at function_begins function_head name_byte
    name_found =
        ap (between (codes "_clap_complete_") (codes "() {")) in_turn
        ∙ ap (option_map (λ c. c.0)) (past_lacking open_parenthesis (codes ") {") n (function_head ++ (variable ++ (variable_ends ++ call))) (name_lacks open_parenthesis n refl of_name))
        ∙ ap Some (append-nil n)

    binary_found : bash_binary (bash_registration variable name bin completer) ≡ Some bin
    unfolding bash_binary registration_ends
    binary_found =
        ap (λ text. before_last (codes "fi") (words_from [] text)) up_to_bin
        ∙ before_fi before_bin bin (name_no_blanks bin (plain_bytes bin bin_plain)) (plain_some bin bin_plain)

    reads : BashRegistrationReads variable name bin completer
    reads = record {
      variable_read = variable_found;
      completer_read = completer_found;
      name_read = name_found;
      binary_read = binary_found;
    }

pub bash_reads : (variable name bin completer : List ℕ) → BashReads variable name bin completer
unfolding BashReads
bash_reads = reads
