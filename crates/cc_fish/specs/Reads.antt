-- The records that the fish script of a tree reads back to.
use Rattle.std.specs.Prelude.{◌≡◌, ℕ, List, [], ◌++◌, None, Some, codes}
use Rattle.std.specs.List.{AllByRecursion}
use Rattle.cc_command.specs.Names.{full_name}
use Rattle.cc_command.specs.Tree.{Tree}
use Rattle.cc_generator.specs.Generators.{ShellSpec}
use Rattle.cc_generator.specs.Paths.{CoversPaths}
use Rattle.cc_generator.specs.Visits.{Keyed, path_visits, longer_path}
use Rattle.cc_fish.specs.Script.{fish_script}
use Rattle.cc_fish.specs.Table.{table, tables}
use Rattle.cc_fish.specs.Reader.{records}
use Rattle.cc_fish.specs.Records.{record_path}

-- The script reads back to exactly the tables of the visits, one after another. The visits are
-- exactly the visible paths, each once, with the nodes to which they lead. Each record of a table
-- holds at the path of its visit.
pub record FishReads (root : Tree) : Type 0 where
  pub tables : records (fish_script root) ≡ Some (tables root)
  pub covers : CoversPaths root (path_visits longer_path [] root)
  pub states : (visit : Keyed (List (List ℕ))) → AllByRecursion
      (λ read. record_path read ≡ visit.key) (table (full_name root.node) visit)

-- the specification of the scripts
abbrev pub fish_spec : ShellSpec
fish_spec = record {
  script = λ tree. fish_script tree;
  Reads = λ tree. FishReads tree;
  clash = λ tree. None;
  file = λ name. name ++ codes ".fish";
}
