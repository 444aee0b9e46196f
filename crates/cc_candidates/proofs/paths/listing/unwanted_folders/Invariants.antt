use Rattle.std.proofs.Common.{◌≡◌, ◌++◌, drop, map, filter}
use Rattle.cc_candidates.specs.PathCandidates.{is_unwanted_folder, path_candidate}
use Rattle.cc_candidates.proofs.paths.listing.unwanted_folders.Given as goal

abbrev pub invariant-loop-entry : goal.invariant-loop-entry
invariant-loop-entry l =
    l.found.items ++ map (path_candidate l.prefix) (filter is_unwanted_folder (drop l.entry-index l.entries))
    ≡ map (path_candidate l.prefix) (filter is_unwanted_folder l.entries)
