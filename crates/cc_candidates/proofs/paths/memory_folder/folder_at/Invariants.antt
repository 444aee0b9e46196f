use Rattle.std.proofs.Common.{◌≡◌, drop}
use Rattle.cc_candidates.specs.InMemory.{folder_at}
use Rattle.cc_candidates.proofs.paths.memory_folder.folder_at.Given as goal

abbrev pub invariant-loop-folder : goal.invariant-loop-folder
invariant-loop-folder l =
    folder_at (drop l.folder-index l.folders) l.path ≡ folder_at l.folders l.path
