use Rattle.std.proofs.Common.{◌≡◌, ◌++◌, drop, map}
use Rattle.std.specs.String.{string_bytes}
use Rattle.complgen_live.specs.TreeFiles.{tree_path}
use Rattle.complgen_live.proofs.files.paths_of.Given as goal

abbrev pub invariant-loop-folder : goal.invariant-loop-folder
invariant-loop-folder l = map string_bytes l.paths.items
    ++ map (λ folder. tree_path folder l.name) (map string_bytes (drop l.folder-index l.folders))
    ≡ map (λ folder. tree_path folder l.name) (map string_bytes l.folders)
