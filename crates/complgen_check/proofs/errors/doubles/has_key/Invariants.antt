use Rattle.std.specs.Prelude.{◌≡◌, drop}
use Rattle.json.specs.Value.{members_view}
use Rattle.complgen_check.specs.Doubles.{has_key}
use Rattle.complgen_check.proofs.errors.doubles.has_key.Given as goal

-- the key is among the members that are left if it is among all
abbrev pub invariant-loop-member : goal.invariant-loop-member
invariant-loop-member l =
    has_key l.key (members_view (drop l.member-index l.members)) ≡ has_key l.key (members_view l.members)
