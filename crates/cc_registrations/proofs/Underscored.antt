-- The bytes of a name with `_` for each `-`.
use Rattle.std.proofs.Common.{◌≢◌, ◌==◌, Bool, true, false, cond, ℕ, List, [], ◌∷◌}
use Rattle.cc_base.specs.Bytes.{dash, underscore}
use Rattle.cc_base.proofs.Members.{AllByRecursion-append}
use Rattle.cc_base.specs.PlainName.{foreign, name_byte}
use Rattle.cc_base.proofs.NameBytes.{AreNameBytes}
use Rattle.cc_registrations.specs.Names.{underscored}

pub underscored_bytes : (text : List ℕ) → AreNameBytes text → AreNameBytes (underscored text)
unfolding name_byte
underscored_bytes [] h = tt
underscored_bytes (byte ∷ text) h =
    AllByRecursion-append (λ b. name_byte b ≢ foreign) (cond (byte == dash) (underscore ∷ []) (byte ∷ [])) (underscored text) (by_test (byte == dash)) (underscored_bytes text h.1)
  where
    by_test : (q : Bool) → AreNameBytes (cond q (underscore ∷ []) (byte ∷ []))
    by_test true = (λ e. cc, tt)
    by_test false = (h.0, tt)
