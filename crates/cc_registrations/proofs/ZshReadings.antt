-- A registration for zsh reads back.
use Rattle.std.proofs.Common.{◌≡◌, ◌==◌, ℕ, IsTrue, List, [], ◌∷◌, ◌++◌, Some, option_map, drop, codes, refl, ◌∙◌, ap, append-nil}
use Rattle.std.specs.Option.{option_and_then}
use Rattle.cc_base.proofs.Lines.{regroup_five, regroup_six}
use Rattle.cc_base.specs.Bytes.{equals, line_feed, open_parenthesis, space, underscore}
use Rattle.cc_base.specs.PlainName.{is_plain_name, name_byte}
use Rattle.cc_base.proofs.NameBytes.{plain_bytes, AreNameBytes, name_lacks, name_no_blanks, name_no_line_feeds, no_joiner_first, plain_some}
use Rattle.cc_quote.proofs.SafeNames.{posix_plain}
use Rattle.cc_quote.specs.PosixQuote.{posix_quoted, posix_word_of}
use Rattle.cc_quote.proofs.BeforeBlanks.{posix_before_space, posix_before_line_feed, bare_first}
use Rattle.cc_base.specs.Found.{after, with_front, cut_at, up_to, after_mark, between, without_blanks, after_last_from, last_line, word_by, word_after}
use Rattle.cc_registrations.specs.Names.{underscored}
use Rattle.cc_registrations.specs.ZshRegistration.{registration_begins, function_begins, function_head, call_begins, call_ends, registration_head, registration_front, registration_tail, zsh_registration, variable_ends, zsh_variable, zsh_completer, zsh_name, zsh_binary, ZshRegistrationReads, ZshReads}
use Rattle.cc_base.proofs.Finding.{cut_at-none, after-none, with_front-append, past_lacking, past_free, run_on, no_blanks}
use Rattle.cc_registrations.proofs.Underscored.{underscored_bytes}

-- the search passes over the text before the binary, which does not begin with `_`
past_first : (bin rest : List ℕ) → IsTrue (is_plain_name bin) → cut_at (codes " _clap_dynamic_completer_") (registration_begins ++ (bin ++ rest)) ≡ with_front registration_begins (cut_at (codes " _clap_dynamic_completer_") (bin ++ rest))
unfolding after name_byte registration_begins
past_first [] rest h = absurd (plain_some [] h refl)
past_first (byte ∷ bin) rest h =
    past_free (codes " _clap_dynamic_completer_") (codes "#compdef") (space ∷ byte ∷ bin ++ rest) refl
    ∙ ap (with_front (codes "#compdef")) (cut_at-none (codes " _clap_dynamic_completer_") (byte ∷ bin ++ rest) space (after-none underscore byte (codes "clap_dynamic_completer_") (bin ++ rest) (no_joiner_first underscore byte bin refl h)))
    ∙ with_front-append (codes "#compdef") (codes " ") (cut_at (codes " _clap_dynamic_completer_") (byte ∷ bin ++ rest))

module _ (variable name bin completer : List ℕ) where
  abbrev n : List ℕ
  n = underscored name

  -- the text after the variable's line
  abbrev call : List ℕ
  call = codes "        " ++ (posix_quoted completer ++ registration_tail name bin)

  -- the text from the name on
  abbrev after_name : List ℕ
  after_name = function_head ++ (variable ++ (variable_ends ++ call))

  in_turn : zsh_registration variable name bin completer
      ≡ registration_begins ++ (posix_quoted bin ++ (function_begins ++ (n ++ after_name)))
  unfolding zsh_registration registration_head registration_front call_begins variable_ends
  in_turn =
      regroup_six (((registration_begins ++ posix_quoted bin) ++ function_begins) ++ n) function_head variable call_begins (posix_quoted completer) (registration_tail name bin)
      ∙ regroup_five registration_begins (posix_quoted bin) function_begins n after_name

  binary_found : zsh_binary (zsh_registration variable name bin completer) ≡ Some bin
  unfolding zsh_binary word_after after_mark word_by after with_front cut_at without_blanks registration_begins function_begins
  binary_found =
      let rest = drop 1 (function_begins ++ (n ++ after_name)) in
      let read = posix_before_line_feed bin rest in
      ap (word_after posix_word_of (codes "#compdef")) in_turn
      ∙ ap (λ text. option_map (λ read. read.0) (posix_word_of text)) (bare_first (posix_quoted bin ++ line_feed ∷ rest) read.0)
      ∙ ap (option_map (λ read. read.0)) read.1

  module _ (variable_plain : IsTrue (is_plain_name variable)) (name_plain : IsTrue (is_plain_name name)) (bin_plain : IsTrue (is_plain_name bin)) where
    of_name : AreNameBytes n
    of_name = underscored_bytes name (plain_bytes name name_plain)

    -- a plain binary is written unchanged
    plainly : zsh_registration variable name bin completer ≡ registration_begins ++ (bin ++ (function_begins ++ (n ++ after_name)))
    plainly = in_turn ∙ ap (λ text. registration_begins ++ (text ++ (function_begins ++ (n ++ after_name)))) (posix_plain bin bin_plain)

    -- the text before the line's end
    abbrev before : List ℕ
    before = registration_begins ++ (bin ++ (function_begins ++ (n ++ (function_head ++ (variable ++ [])))))

    cut : cut_at variable_ends (zsh_registration variable name bin completer) ≡ Some (before, call)
    unfolding after with_front cut_at registration_begins function_begins function_head variable_ends name_byte
    cut =
        ap (cut_at variable_ends) plainly
        ∙ past_free variable_ends registration_begins (bin ++ (function_begins ++ (n ++ after_name))) refl
        ∙ ap (with_front registration_begins) (past_lacking equals (drop 1 variable_ends) bin (function_begins ++ (n ++ after_name)) (name_lacks equals bin refl (plain_bytes bin bin_plain)))
        ∙ ap (λ found. with_front registration_begins (with_front bin found)) (past_free variable_ends function_begins (n ++ after_name) refl)
        ∙ ap (λ found. with_front registration_begins (with_front bin (with_front function_begins found))) (past_lacking equals (drop 1 variable_ends) n after_name (name_lacks equals n refl of_name))
        ∙ ap (λ found. with_front registration_begins (with_front bin (with_front function_begins (with_front n found)))) (past_free variable_ends function_head (variable ++ (variable_ends ++ call)) refl)
        ∙ ap (λ found. with_front registration_begins (with_front bin (with_front function_begins (with_front n (with_front function_head found))))) (past_lacking equals (drop 1 variable_ends) variable (variable_ends ++ call) (name_lacks equals variable refl (plain_bytes variable variable_plain)))

    last : last_line before ≡ codes "        " ++ variable
    unfolding last_line after_last_from registration_begins function_begins function_head
    last =
        run_on (λ byte. byte == line_feed) (codes "#compdef ") bin (function_begins ++ (n ++ (function_head ++ (variable ++ [])))) (name_no_line_feeds bin (plain_bytes bin bin_plain))
        ∙ run_on (λ byte. byte == line_feed) (codes "function _clap_dynamic_completer_") n (function_head ++ (variable ++ [])) (name_no_line_feeds n of_name)
        ∙ run_on (λ byte. byte == line_feed) (codes "        ") variable [] (name_no_line_feeds variable (plain_bytes variable variable_plain))

    variable_found : zsh_variable (zsh_registration variable name bin completer) ≡ Some variable
    unfolding zsh_variable up_to without_blanks
    variable_found =
        ap (λ found. option_map (λ b. without_blanks (last_line b)) (option_map (λ c. c.0) found)) cut
        ∙ ap (λ line. Some (without_blanks line)) last
        ∙ ap Some (no_blanks variable (name_no_blanks variable (plain_bytes variable variable_plain)))

    completer_found : zsh_completer (zsh_registration variable name bin completer) ≡ Some completer
    unfolding zsh_completer word_after after_mark word_by without_blanks registration_tail call_ends
    completer_found =
        let rest = drop 1 (registration_tail name bin) in
        let read = posix_before_space completer rest in
        ap (λ found. option_and_then (word_by posix_word_of) (option_map (λ c. c.1) found)) cut
        ∙ ap (λ text. option_map (λ read. read.0) (posix_word_of text)) (bare_first (posix_quoted completer ++ space ∷ rest) read.0)
        ∙ ap (option_map (λ read. read.0)) read.1

    name_found : zsh_name (zsh_registration variable name bin completer) ≡ Some n
    unfolding zsh_name between up_to after_mark after with_front cut_at registration_begins function_begins function_head name_byte
    name_found =
        let mark = codes " _clap_dynamic_completer_" in
        let found_closing = option_and_then (up_to (codes "() {")) in
        ap (between mark (codes "() {")) plainly
        ∙ ap (λ found. found_closing (option_map (λ c. c.1) found))
        (past_first bin (function_begins ++ (n ++ after_name)) bin_plain
        ∙ ap (with_front registration_begins) (past_lacking space (drop 1 mark) bin (function_begins ++ (n ++ after_name)) (name_lacks space bin refl (plain_bytes bin bin_plain))))
        ∙ ap (option_map (λ c. c.0)) (past_lacking open_parenthesis (codes ") {") n after_name (name_lacks open_parenthesis n refl of_name))
        ∙ ap Some (append-nil n)

    reads : ZshRegistrationReads variable name bin completer
    reads = record {
      variable_read = variable_found;
      completer_read = completer_found;
      name_read = name_found;
      binary_read = binary_found;
    }

pub zsh_reads : (variable name bin completer : List ℕ) → ZshReads variable name bin completer
unfolding ZshReads
zsh_reads = reads
