use Rattle.std.proofs.Common.{◌≡◌, drop}
use Rattle.cc_candidates.specs.InMemory.{has_file}
use Rattle.cc_candidates.proofs.paths.memory_folder.has_file.Given as goal

abbrev pub invariant-loop-file : goal.invariant-loop-file
invariant-loop-file l = has_file (drop l.file-index l.files) l.path ≡ has_file l.files l.path
