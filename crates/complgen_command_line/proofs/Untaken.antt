-- The command line accepts no request of a shell.
use Rattle.std.proofs.Common.{◌≡◌, refl, subst, sym, Bool, true, false, ℕ, List, [], ◌∷◌, codes, Option}
use Rattle.std.specs.Prelude.{◌&&◌}
use Rattle.std.proofs.lemmas.Slice.Eq.{bytes_eq-Decides}
use Rattle.std.proofs.Math.Bool.{and-false}
use Rattle.clap.specs.Words.{Text, takes}
use Rattle.clap.proofs.OnLiterals.{clap_on_literals}
use Rattle.cc_replies.specs.Requests.{begins_request, is_request, names_shell}
use Rattle.complgen_command_line.specs.CommandLine.{program_line}

untaken_none : takes program_line [] ≡ false
unfolding clap_on_literals
untaken_none = refl

pub untaken_alone : (program : Text) → takes program_line (program ∷ []) ≡ false
unfolding clap_on_literals
untaken_alone program = refl

pub untaken_dashes : (program : Text) (words : List Text)
    → takes program_line (program ∷ codes "--" ∷ words) ≡ false
unfolding clap_on_literals
untaken_dashes program [] = refl
untaken_dashes program (word ∷ words) = and-false _

untaken_words : (words : List Text) → begins_request words ≡ true
    → takes program_line words ≡ false
untaken_words [] begins = untaken_none
untaken_words (program ∷ []) begins = untaken_alone program
untaken_words (program ∷ (word ∷ words)) begins =
    subst (λ w. takes program_line (program ∷ (w ∷ words)) ≡ false)
    (sym ((bytes_eq-Decides word (codes "--")).0 begins)) (untaken_dashes program words)

second : (one other : Bool) → (one && other) ≡ true → other ≡ true
second true other both = both
second false other both = cc

pub untaken_request : (value : Option (List ℕ)) (words : List Text)
    → is_request value words ≡ true → takes program_line words ≡ false
untaken_request value words is =
    untaken_words words (second (names_shell value) (begins_request words) is)
