use Rattle.std.proofs.Common.{◌≡◌, ◌++◌, drop, map}
use Rattle.std.specs.String.{string_bytes}
use Rattle.complgen_live.specs.TreeFiles.{stems}
use Rattle.complgen_live.proofs.known.stems_of.Given as goal

abbrev pub invariant-loop-name : goal.invariant-loop-name
invariant-loop-name l = map string_bytes l.found.items
    ++ stems (map string_bytes (drop l.name-index l.names)) ≡ stems (map string_bytes l.names)
