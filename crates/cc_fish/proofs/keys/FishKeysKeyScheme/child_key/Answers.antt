use Rattle.std.proofs.Common.{◌≡◌, ℕ, List, [], ◌∷◌, Bool, false, length, codes, ◌∙◌, Result, Ok, Err, IfOk, append_assoc, nat_eq}
use Rattle.cc_generator.specs.Visits.{joined}
use Rattle.cc_fish.specs.Script.{fish_key}
use Rattle.cc_fish.proofs.keys.FishKeysKeyScheme.child_key.Goals as goal

-- a key that is not empty grows by one more name of its path
further_key : {E : Type 0} {empty : Bool} (key name : List ℕ) (result : Result (List ℕ) E)
    → empty ≡ nat_eq (length key) 0 → empty ≡ false
    → IfOk result (λ text. text ≡ joined (codes "; and __fish_seen_subcommand_from ") key name)
    → IfOk result (λ text. text ≡ fish_key key name)
further_key [] name (Ok text) is kept made = cc
further_key (byte ∷ bytes) name (Ok text) is kept made =
    made ∙ append_assoc (byte ∷ bytes) (codes "; and __fish_seen_subcommand_from ") name
further_key key name (Err failed) is kept made = tt

pub returns : goal.returns
returns c = further_key c.args.key.now c.args.name.now c.child_key-2.result (c.is_empty.ensures) c.if-is_empty.false c.child_key-2.ensures
