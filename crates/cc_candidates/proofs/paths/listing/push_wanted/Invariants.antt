use Rattle.std.proofs.Common.{◌≡◌, ◌++◌, drop, map, filter}
use Rattle.cc_candidates.specs.PathCandidates.{is_wanted, path_candidate}
use Rattle.cc_candidates.proofs.paths.listing.push_wanted.Given as goal

abbrev pub invariant-loop-entry : goal.invariant-loop-entry
invariant-loop-entry l =
    l.found.items ++ map (path_candidate l.prefix) (filter is_wanted (drop l.entry-index l.entries))
    ≡ l.initial.found.items ++ map (path_candidate l.prefix) (filter is_wanted l.entries)
