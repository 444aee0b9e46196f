use Rattle.std.proofs.Common.{◌≡◌, ◌++◌, map, take, drop}
use Rattle.cc_command.specs.ValueLists.{listed_tree}
use Rattle.cc_command.proofs.command.values.+listed.Given as goal

-- the visited siblings, then the others with the list, are the result
abbrev pub invariant-list_in_all-loop-sibling : goal.invariant-list_in_all-loop-sibling
invariant-list_in_all-loop-sibling l = record {
  unvisited : goal.unvisited-list_in_all-loop-sibling l;
  listed : take l.sibling-index l.siblings ++ map (listed_tree l.asked l.values) (drop l.sibling-index l.siblings)
      ≡ map (listed_tree l.asked l.values) l.fn.siblings;
}
