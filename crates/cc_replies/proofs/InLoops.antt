-- Beginnings of texts that loops write in two parts, or space by space.
use Rattle.std.proofs.Common.{◌≡◌, ◌<◌, ◌+◌, ◌-◌, ap, ℕ, suc, ◌∷◌, replicate, arith}
use Rattle.cc_base.specs.Partly.{partly_split}
use Rattle.cc_base.proofs.WrittenTexts.{in_steps, within_byte}
use Rattle.cc_replies.specs.BashList.{space}

pub ruleset in_parts = (in_steps, partly_split)

-- the next of the spaces that are left
pub next_space : (count done : ℕ) → done < count
    → replicate (count - done) space ≡ space ∷ replicate (count - (done + 1)) space
next_space count done less =
    let e : count - done ≡ suc (count - (done + 1)) = omega arith in
    ap (λ left. replicate left space) e

pub ruleset in_spaces = (in_steps, within_byte, next_space)
