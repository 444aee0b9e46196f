use Rattle.std.proofs.Common.{◌≡◌, ◌++◌, map, filter}
use Rattle.std.specs.String.{string_bytes}
use Rattle.std.specs.Vec.Iter.{into_iter_items}
use Rattle.cc_base.specs.PlainName.{is_plain_name}
use Rattle.complgen_live.proofs.files.plain_names.Given as goal

abbrev pub invariant-loop-name : goal.invariant-loop-name
invariant-loop-name l = map string_bytes l.kept.items
    ++ filter is_plain_name (map string_bytes (into_iter_items l.name-iterator))
    ≡ filter is_plain_name (map string_bytes l.fn.names.items)
