use Rattle.std.proofs.Common.{◌≡◌, ◌++◌, drop, map, filter}
use Rattle.std.specs.String.{string_bytes}
use Rattle.cc_candidates.specs.PathTexts.{is_absolute}
use Rattle.complgen_live.specs.Folders.{data_folder}
use Rattle.complgen_live.proofs.folders.push_data_folders.Given as goal

abbrev pub invariant-loop-dir : goal.invariant-loop-dir
invariant-loop-dir l = map string_bytes l.folders.items
    ++ map data_folder (filter is_absolute (map (λ dir. dir.now) (drop l.dir-index l.dirs)))
    ≡ map string_bytes l.initial.folders.items
    ++ map data_folder (filter is_absolute (map (λ dir. dir.now) l.dirs))
