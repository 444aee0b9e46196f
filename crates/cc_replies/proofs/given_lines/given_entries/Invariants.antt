use Rattle.std.proofs.Common.{◌≡◌, ◌++◌, length}
use Rattle.std.specs.Option.{option_copied}
use Rattle.cc_replies.specs.GivenLines.{given_entries}
use Rattle.cc_replies.proofs.given_lines.given_entries.Given as goal

-- the entries so far, and those of the remaining lines, are those of the text
abbrev pub invariant-loop-line : goal.invariant-loop-line
invariant-loop-line l =
    l.entries.items ++ given_entries (option_copied l.split) l.rest
    ≡ given_entries (option_copied l.split) l.text

abbrev pub decreases-loop-line : goal.decreases-loop-line
decreases-loop-line l = length l.rest
