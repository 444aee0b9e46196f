use Rattle.std.proofs.Common.{◌≡◌, ◌-◌, ◌∙◌, ℕ, List, [], ◌∷◌, Some, None, length, slice_get, ap, refl, sub-one}
use Rattle.std.specs.List.{last_or}
use Rattle.cc_engine.specs.Numbers.{is_some_e}
use Rattle.cc_engine.proofs.gathering.negative_numbers.ends_in_e.Goals as goal

last_after : (byte : ℕ) (bytes : List ℕ) → slice_get (byte ∷ bytes) (length bytes) ≡ last_or (Some byte) bytes
last_after byte [] = refl
last_after byte (next ∷ bytes) = last_after next bytes

last_is : (bytes : List ℕ) → slice_get bytes (length bytes - 1) ≡ last_or None bytes
last_is [] = refl
last_is (byte ∷ bytes) = rw sub-one (last_after byte bytes)

pub returns-in-Some : goal.returns-in-Some
returns-in-Some c = ap is_some_e (c.in-Some.ensures.value ∙ last_is c.args.bytes.now)

pub returns-in-None : goal.returns-in-None
returns-in-None c = ap is_some_e (c.in-None.ensures.value ∙ last_is c.args.bytes.now)
