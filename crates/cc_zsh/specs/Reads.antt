-- The options, names and functions that the zsh script of a tree reads back to.
use Rattle.std.specs.Prelude.{◌≡◌, [], ◌++◌, map, option_map, None, Some, codes}
use Rattle.cc_command.specs.Tree.{Tree}
use Rattle.cc_generator.specs.Generators.{ShellSpec}
use Rattle.cc_generator.specs.Paths.{CoversPaths}
use Rattle.cc_generator.specs.Visits.{longer_path, path_visits}
use Rattle.cc_zsh.specs.Functions.{tree_functions}
use Rattle.cc_zsh.specs.Reader.{zsh_parts, zsh_shown}
use Rattle.cc_zsh.specs.Script.{zsh_script}
use Rattle.cc_zsh.specs.Table.{all_shown_at, description_of}

-- The script reads back to what the tree offers at each visible path, path by path: its options and
-- flags, and the visible names of its children with their descriptions. Its functions are exactly
-- those of the tree. The visits are exactly the visible paths, each once, with the nodes to which
-- they lead.
pub record ZshReads (root : Tree) : Type 0 where
  pub shown : zsh_shown (zsh_script root) ≡ Some (all_shown_at root)
  pub functions : option_map (λ parts. parts.descriptions) (zsh_parts (zsh_script root))
      ≡ Some (map description_of (tree_functions root))
  pub covers : CoversPaths root (path_visits longer_path [] root)

-- the specification of the scripts
abbrev pub zsh_spec : ShellSpec
zsh_spec = record {
  script = λ tree. zsh_script tree;
  Reads = λ tree. ZshReads tree;
  clash = λ tree. None;
  file = λ name. codes "_" ++ name;
}
