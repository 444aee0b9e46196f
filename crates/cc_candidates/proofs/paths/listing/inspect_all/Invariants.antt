use Rattle.std.proofs.Common.{◌≡◌, ◌++◌, map, filter}
use Rattle.std.specs.List.{AllByRecursion}
use Rattle.std.specs.String.{string_bytes}
use Rattle.std.specs.Vec.Iter.{into_iter_items}
use Rattle.cc_candidates.specs.PathCandidates.{IsEntry, begins, entry_name}
use Rattle.cc_candidates.proofs.paths.listing.inspect_all.Given as goal

abbrev pub invariant-loop-name : goal.invariant-loop-name
invariant-loop-name g l = record {
  named : map entry_name l.entries.items
      ++ filter (begins l.start) (map string_bytes (into_iter_items l.name-iterator))
      ≡ filter (begins l.start) (map string_bytes l.fn.names.items);
  entries : AllByRecursion
      (IsEntry (g.D.Folder.facts l.folder).is_dir (g.T.PathTest.may_return l.test l.folder) l.root)
      l.entries.items;
}
