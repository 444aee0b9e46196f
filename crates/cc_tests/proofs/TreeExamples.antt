-- Examples of the lists that generators share, of paths in a tree, and of a built tree that gets another
-- bin name.
use Rattle.std.proofs.Common.{◌≡◌, ℕ, List, [], ◌∷◌, ◌++◌, Option, None, Some, map, codes, refl}
use Rattle.std.specs.Option.{option_map}
use Rattle.cc_arg.specs.declared.parts.ArgParts.{ArgParts as Arg}
use Rattle.cc_arg.specs.declared.action.ArgAction.TheVariants.{SetTrue}
use Rattle.cc_arg.specs.Arguments.{new_arg}
use Rattle.cc_command.specs.ArgumentLists.{flags}
use Rattle.cc_command.specs.Built.{built_tree}
use Rattle.cc_command.specs.Generated.{help_argument, version_argument}
use Rattle.cc_command.specs.Made.{new_tree, with_argument, with_child, with_root}
use Rattle.cc_command.specs.Names.{full_name}
use Rattle.cc_command.specs.Texts.{help_name, version_name}
use Rattle.cc_command.specs.Tree.{Forest, more, none, Tree}
use Rattle.cc_generator.specs.ArgumentNames.{all_longs, all_shorts}
use Rattle.cc_generator.specs.Subcommands.{all_named, find_path, named, named_siblings}

-- ---- LISTS

-- a flag `-f`, `--file` with visible aliases `-p` and `--path`
abbrev file : Arg
file = record (new_arg (codes "file")) {
  short = Some 102;
  visible_short_aliases = 112 ∷ [];
  long = Some (codes "file");
  visible_aliases = codes "path" ∷ [];
  action = Some SetTrue;
}

-- `myapp` 3.0 as `my-cmd`, with the children `test`, which has that flag and a child `config`, and
-- `hello`; built
abbrev my_cmd : Tree
my_cmd =
    let test = with_child (new_tree (codes "test")) (new_tree (codes "config")) in
    let with_file = record test { node = with_argument test.node file } in
    let myapp = with_child (with_child (new_tree (codes "myapp")) with_file) (new_tree (codes "hello")) in
    built_tree (with_root (λ node. record node { bin_name = Some (codes "my-cmd"); version = Some (codes "3.0") }) myapp)

-- the names of all commands below it, with their full names
below : all_named my_cmd.children
    ≡ (codes "test", codes "my-cmd test") ∷ (codes "hello", codes "my-cmd hello") ∷ (codes "help", codes "my-cmd help")
    ∷ (codes "config", codes "my-cmd test config") ∷ (codes "help", codes "my-cmd test help")
    ∷ (codes "config", codes "my-cmd test help config") ∷ (codes "help", codes "my-cmd test help help")
    ∷ (codes "test", codes "my-cmd help test") ∷ (codes "hello", codes "my-cmd help hello") ∷ (codes "help", codes "my-cmd help help")
    ∷ (codes "config", codes "my-cmd help test config") ∷ []
unfolding named help_name
below = refl

-- the longs of the flags of a command
abbrev flag_longs : Tree → List (Option (List ℕ))
flag_longs tree = map (λ argument. argument.long) (flags tree.node)

-- its shorts `h` and `V`, its longs, and those of its flags
options :
    (all_shorts my_cmd.node.arguments ≡ 104 ∷ 86 ∷ [])
    × (all_longs my_cmd.node.arguments ≡ codes "help" ∷ codes "version" ∷ [])
    × (flag_longs my_cmd ≡ Some (codes "help") ∷ Some (codes "version") ∷ [])
unfolding all_longs all_shorts help_argument version_argument help_name version_name
options = (refl, refl, refl)

-- the child `test`
abbrev test : Option Tree
test = find_path my_cmd (codes "test" ∷ [])

-- the shorts `p`, `f` and `h` of `test`, its longs, those of its flags, and its children
options_of_test :
    (option_map (λ tree. all_shorts tree.node.arguments) test ≡ Some (112 ∷ 102 ∷ 104 ∷ []))
    × (option_map (λ tree. all_longs tree.node.arguments) test
    ≡ Some (codes "path" ∷ codes "file" ∷ codes "help" ∷ []))
    × (option_map flag_longs test ≡ Some (Some (codes "file") ∷ Some (codes "help") ∷ []))
    × (option_map (λ tree. named_siblings tree.children) test
    ≡ Some ((codes "config", codes "my-cmd test config") ∷ (codes "help", codes "my-cmd test help") ∷ []))
unfolding all_longs all_shorts help_argument help_name named
options_of_test = (refl, refl, refl, refl)

-- ---- PATHS AND NAMES

-- `app` with a child `run`, which is also shown as `r` and has a child `job`
abbrev app : Tree
app =
    let run = with_child (new_tree (codes "run")) (new_tree (codes "job")) in
    let aliased = record run { node = record run.node { visible_aliases = codes "r" ∷ [] } } in
    with_child (new_tree (codes "app")) aliased

-- the name of the command to which a path leads
abbrev led_to : List (List ℕ) → Option (List ℕ)
led_to path = option_map (λ tree. tree.node.name) (find_path app path)

-- a path of visible names, one that begins with a name of no child, and an empty one
led :
    (led_to (codes "r" ∷ codes "job" ∷ []) ≡ Some (codes "job"))
    × (led_to (codes "run" ∷ codes "job" ∷ []) ≡ Some (codes "job"))
    × (led_to (codes "job" ∷ []) ≡ None)
    × (led_to [] ≡ Some (codes "app"))
led = (refl, refl, refl, refl)

-- the full names of some siblings and of all commands below them: a sibling, those below it, the
-- next
full_names : Forest → List (List ℕ)
full_names none = []
full_names (more node below rest) = full_name node ∷ full_names below ++ full_names rest

-- the built tree with the bin name `z`, as `set_bin_name` sets it
abbrev renamed : Tree
renamed = with_root (λ node. record node { bin_name = Some (codes "z") }) (built_tree app)

children_renamed : full_names (built_tree renamed).children
    ≡ codes "z run" ∷ codes "z run job" ∷ codes "z run help" ∷ codes "z run help job" ∷ codes "z run help help"
    ∷ codes "z help" ∷ codes "z help run" ∷ codes "z help run job" ∷ codes "z help help" ∷ []
unfolding full_names help_name
children_renamed = refl
