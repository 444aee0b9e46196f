-- Examples of built trees.
use Rattle.std.proofs.Common.{◌≡◌, ℕ, List, [], ◌∷◌, ◌++◌, Some, map, codes, true, false, refl}
use Rattle.cc_arg.specs.declared.parts.ArgParts.{ArgParts as Arg}
use Rattle.cc_arg.specs.declared.action.ArgAction.TheVariants.{SetTrue}
use Rattle.cc_arg.specs.Arguments.{new_arg}
use Rattle.cc_arg.specs.PossibleValues.{new_possible_value}
use Rattle.cc_command.specs.ArgumentLists.{conflicting}
use Rattle.cc_command.specs.Texts.{help_name, version_name}
use Rattle.cc_command.specs.Tree.{Forest, none, more, Tree}
use Rattle.cc_command.specs.Names.{full_name}
use Rattle.cc_command.specs.Made.{new_tree, with_argument, with_child}
use Rattle.cc_base.specs.PlainName.{is_joined, is_plain_name, name_byte}
use Rattle.cc_command.specs.Plain.{is_plain_tree, siblings_differ}
use Rattle.cc_command.specs.Quiet.{is_quiet_tree}
use Rattle.cc_command.specs.Generated.{help_argument, version_argument}
use Rattle.cc_command.specs.Built.{built_tree, built_under}

-- `app` in version 1, with a child `run` that holds `job`
abbrev app : Tree
app =
    let given = with_child (new_tree (codes "app")) (with_child (new_tree (codes "run")) (new_tree (codes "job"))) in
    record given { node = record given.node { version = Some (codes "1") } }

-- the full names of some siblings and of all commands below them: a sibling, those below it, the
-- next
full_names : Forest → List (List ℕ)
full_names none = []
full_names (more node below rest) = full_name node ∷ full_names below ++ full_names rest

-- the root has its two flags
flags_added : map (λ argument. argument.id) (built_tree app).node.arguments ≡ codes "help" ∷ codes "version" ∷ []
unfolding help_argument version_argument help_name version_name
flags_added = refl

-- each child is named after its parent, and each `help` has copies of the children and a `help`
children_named : full_names (built_tree app).children
    ≡ codes "app run" ∷ codes "app run job" ∷ codes "app run help" ∷ codes "app run help job" ∷ codes "app run help help"
    ∷ codes "app help" ∷ codes "app help run" ∷ codes "app help run job" ∷ codes "app help help" ∷ []
unfolding full_names help_name
children_named = refl

-- a new bin name renames all of them
children_renamed : full_names (built_under (Some (codes "z")) app).children
    ≡ codes "z run" ∷ codes "z run job" ∷ codes "z run help" ∷ codes "z run help job" ∷ codes "z run help help"
    ∷ codes "z help" ∷ codes "z help run" ∷ codes "z help run job" ∷ codes "z help help" ∷ []
unfolding full_names help_name
children_renamed = refl

-- a plain tree stays plain when it is built
plain_when_built : is_plain_tree (built_under (Some (codes "app")) app) ≡ true
unfolding help_argument version_argument help_name version_name siblings_differ is_plain_name is_joined name_byte
plain_when_built = refl

-- an option whose possible values have these names
abbrev chooses : List (List ℕ) → Arg
chooses names = record (new_arg (codes "format")) { long = Some (codes "format"); possible_values = Some (map new_possible_value names) }

abbrev app_choosing : List (List ℕ) → Tree
app_choosing names = record app { node = with_argument app.node (chooses names) }

-- a built tree with such values is quiet
quiet_when_built : is_quiet_tree (built_under (Some (codes "app")) (app_choosing (codes "x86_64" ∷ codes "a+b=c" ∷ []))) ≡ true
unfolding help_argument version_argument help_name version_name
quiet_when_built = refl

-- with a space in a value, or an empty value, it is not quiet
not_quiet_with_blank : is_quiet_tree (app_choosing (codes "x86_64" ∷ codes "a b" ∷ [])) ≡ false
not_quiet_with_blank = refl

not_quiet_when_empty : is_quiet_tree (app_choosing ([] ∷ [])) ≡ false
not_quiet_when_empty = refl

-- with a quote in an id it is not plain
not_plain_with_quote : is_plain_tree (record app { node = with_argument app.node (new_arg (codes "it's")) }) ≡ false
unfolding siblings_differ is_plain_name is_joined name_byte
not_plain_with_quote = refl

-- with two children of the same name it is not plain either
not_plain_with_twins : is_plain_tree (with_child app (new_tree (codes "run"))) ≡ false
unfolding siblings_differ is_plain_name is_joined name_byte
not_plain_with_twins = refl

-- ---- global arguments

abbrev flag : List ℕ → Arg
flag id = record (new_arg id) { long = Some id; action = Some SetTrue }

abbrev global_flag : List ℕ → Arg
global_flag id = record (flag id) { global = true }

abbrev with_flag : Tree → Arg → Tree
with_flag tree argument = record tree { node = with_argument tree.node argument }

-- the ids of the arguments of a tree: a list for each node, in the order of the full names
ids_below : Forest → List (List (List ℕ))
ids_below none = []
ids_below (more node below rest) =
    map (λ argument. argument.id) node.arguments ∷ ids_below below ++ ids_below rest

abbrev ids : Tree → List (List (List ℕ))
ids tree = map (λ argument. argument.id) tree.node.arguments ∷ ids_below tree.children

-- the global flag `--json`, which conflicts with `--yaml`
abbrev json : Arg
json = record (global_flag (codes "json")) { conflicts = codes "yaml" ∷ [] }

-- `app` with `--json` and `--yaml`, and with a child `run`
abbrev with_json : Tree
with_json = with_flag (with_flag (with_child (new_tree (codes "app")) (new_tree (codes "run"))) json)
    (flag (codes "yaml"))

-- the child gets a global argument before its `help`, and generated commands do not get it
global_propagated : ids (built_tree with_json)
    ≡ (codes "json" ∷ codes "yaml" ∷ codes "help" ∷ []) ∷ (codes "json" ∷ codes "help" ∷ [])
    ∷ [] ∷ [] ∷ [] ∷ []
unfolding ids_below help_argument help_name
global_propagated = refl

-- its conflicts are looked up among the arguments of the parent
conflict_found : map (λ argument. argument.id) (conflicting with_json.node.arguments json)
    ≡ codes "yaml" ∷ []
conflict_found = refl

-- if one is added after a build, the child gets it after all arguments that it has by then
global_added_late : ids (built_tree (with_flag (built_tree with_json) (global_flag (codes "late"))))
    ≡ (codes "json" ∷ codes "yaml" ∷ codes "help" ∷ codes "late" ∷ [])
    ∷ (codes "json" ∷ codes "help" ∷ codes "late" ∷ []) ∷ [] ∷ [] ∷ [] ∷ []
unfolding ids_below help_argument help_name
global_added_late = refl

-- if a command has an argument of its own with the id, and it is not global, the children do not
-- get it
global_held_back : ids (built_tree (with_flag (with_child (new_tree (codes "app"))
    (with_flag (with_child (new_tree (codes "run")) (new_tree (codes "job"))) (flag (codes "json")))) json))
    ≡ (codes "json" ∷ codes "help" ∷ []) ∷ (codes "json" ∷ codes "help" ∷ []) ∷ (codes "help" ∷ [])
    ∷ [] ∷ [] ∷ [] ∷ [] ∷ [] ∷ [] ∷ [] ∷ []
unfolding ids_below help_argument help_name
global_held_back = refl
