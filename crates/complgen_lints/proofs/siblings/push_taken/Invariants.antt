use Rattle.std.proofs.Common.{◌≡◌, ◌++◌, [], ℕ, List, drop, take}
use Rattle.complgen_lints.specs.PlacedNames.{owner_in, owner_with, taken_from}
use Rattle.complgen_lints.proofs.siblings.push_taken.Given as goal

-- the map has the names so far; the findings so far and the remaining ones make the whole
abbrev pub invariant-loop-name : goal.invariant-loop-name
invariant-loop-name l = record {
  kept : (word : List ℕ) → owner_in l.seen word ≡ owner_with (take l.name-index l.names) word;
  whole : l.found ++ taken_from (take l.name-index l.names) (drop l.name-index l.names)
      ≡ l.initial.found ++ taken_from [] l.names;
}
