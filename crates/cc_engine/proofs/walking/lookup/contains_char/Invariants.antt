use Rattle.std.proofs.Common.{◌≡◌, ◌==◌, drop}
use Rattle.std.specs.List.{list_any}
use Rattle.cc_engine.proofs.walking.lookup.contains_char.Given as goal

abbrev pub invariant-loop-one : goal.invariant-loop-one
invariant-loop-one l =
    list_any (λ c. c == l.character) (drop l.one-index l.characters) ≡ list_any (λ c. c == l.character) l.characters
