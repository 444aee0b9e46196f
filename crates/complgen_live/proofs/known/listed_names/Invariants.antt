use Rattle.std.proofs.Common.{◌++◌, ℕ, List, drop, map}
use Rattle.std.specs.String.{string_bytes}
use Rattle.complgen_live.specs.KnownNames.{AreListed}
use Rattle.complgen_live.proofs.known.listed_names.Given as goal

-- the names so far and names in the remaining directories are names in all directories
abbrev pub invariant-loop-path : goal.invariant-loop-path
invariant-loop-path g l = (others : List (List ℕ))
    → AreListed (g.D.Folder.facts l.folder).names (map string_bytes (drop l.path-index l.folders)) others
    → AreListed (g.D.Folder.facts l.folder).names (map string_bytes l.folders)
    (map string_bytes l.names.items ++ others)
