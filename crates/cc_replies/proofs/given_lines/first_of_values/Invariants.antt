use Rattle.std.proofs.Common.{◌≡◌, ◌++◌}
use Rattle.std.specs.Vec.Iter.{into_iter_items}
use Rattle.cc_replies.specs.GivenLines.{first_of_values}
use Rattle.cc_replies.proofs.FirstOfValues.{unseen}
use Rattle.cc_replies.proofs.given_lines.first_of_values.Given as goal

-- the kept entries, and those of the remaining ones whose value is new
abbrev pub invariant-loop-entry : goal.invariant-loop-entry
invariant-loop-entry l =
    l.kept.items ++ unseen l.seen (first_of_values (into_iter_items l.entry-iterator))
    ≡ first_of_values l.fn.entries.items
