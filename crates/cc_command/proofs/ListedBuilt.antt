-- A tree with values for the arguments of one source, built, is the built tree with these values.
use Rattle.std.proofs.Common.{◌≡◌, ◌∙◌, ℕ, suc, List, [], ◌∷◌, ◌++◌, Bool, true, false, cond, not, ◌&&◌, ◌||◌, Option, Some, is_some, map, refl, ap, sym, subst, IsTrue}
use Rattle.std.proofs.lemmas.List.{map-append}
use Rattle.std.specs.Str.{bytes_eq}
use Rattle.cc_arg.specs.declared.parts.ArgParts.{ArgParts as Arg}
use Rattle.cc_arg.specs.Arguments.{filled}
use Rattle.cc_arg.specs.ValueSources.{has_source, listed, same_lines, same_origin, same_source, with_values}
use Rattle.cc_arg.specs.declared.value_source.SourceValues.{SourceValues}
use Rattle.cc_arg.specs.declared.value_source.SourceValues.TheVariants.{Listed, Paths}
use Rattle.cc_command.specs.declared.node.Node.{Node}
use Rattle.cc_command.specs.Texts.{help_name}
use Rattle.cc_command.specs.Tree.{Forest, none, more, join, Tree}
use Rattle.cc_command.specs.Names.{full_name, has_child, has_id, has_name, joined_name}
use Rattle.cc_command.specs.Generated.{copies, generated_arguments, generated_help, generated_node, generated_version, help_argument, help_child, help_command, needs_help_child, version_argument}
use Rattle.cc_command.specs.Built.{built_arguments, built_forest, built_node, built_tree, given_arguments, globals, indexed, inherited_by, lacks_index, next_index, propagated, with_index, with_missing}
use Rattle.cc_command.specs.Marked.{StaysIfMarked}
use Rattle.cc_command.specs.ValueLists.{listed_forest, listed_node, listed_tree}

-- ---- what values leave as it is

id_with : (values : SourceValues) (arg : Arg) → (with_values values arg).id ≡ arg.id
id_with (Listed list) arg = refl
id_with (Paths hint) arg = refl

global_with : (values : SourceValues) (arg : Arg) → (with_values values arg).global ≡ arg.global
global_with (Listed list) arg = refl
global_with (Paths hint) arg = refl

filled_with : (values : SourceValues) (arg : Arg) → with_values values (filled arg) ≡ filled (with_values values arg)
filled_with (Listed list) arg = refl
filled_with (Paths hint) arg = refl

lacks_with : (values : SourceValues) (arg : Arg) → lacks_index (with_values values arg) ≡ lacks_index arg
lacks_with (Listed list) arg = refl
lacks_with (Paths hint) arg = refl

index_with : (values : SourceValues) (number : ℕ) (arg : Arg)
    → with_values values (record arg { index = Some number }) ≡ record (with_values values arg) { index = Some number }
index_with (Listed list) number arg = refl
index_with (Paths hint) number arg = refl

module _ (asked : Arg) (list : SourceValues) where
  -- the values at an argument for which the test is so
  abbrev on : Bool → Arg → Arg
  on same arg = cond same (with_values list arg) arg

  abbrev same : Arg → Bool
  same arg = same_source arg asked

  -- the argument with the list, if it has the source
  abbrev pub with_list : Arg → Arg
  with_list arg = listed asked list arg

  -- ---- one argument

  id_on : (s : Bool) (arg : Arg) → (on s arg).id ≡ arg.id
  id_on true arg = id_with list arg
  id_on false arg = refl

  global_on : (s : Bool) (arg : Arg) → (on s arg).global ≡ arg.global
  global_on true arg = global_with list arg
  global_on false arg = refl

  filled_on : (s : Bool) (arg : Arg) → on s (filled arg) ≡ filled (on s arg)
  filled_on true arg = filled_with list arg
  filled_on false arg = refl

  filled_listed : (arg : Arg) → with_list (filled arg) ≡ filled (with_list arg)
  filled_listed arg = filled_on (same arg) arg

  lacks_on : (s : Bool) (arg : Arg) → lacks_index (on s arg) ≡ lacks_index arg
  lacks_on true arg = lacks_with list arg
  lacks_on false arg = refl

  abbrev index_if : Bool → ℕ → Arg → Arg
  index_if lacks number arg = cond lacks (record arg { index = Some number }) arg

  same_with_index : (lacks : Bool) (number : ℕ) (arg : Arg) → same (index_if lacks number arg) ≡ same arg
  same_with_index true number arg = refl
  same_with_index false number arg = refl

  index_on : (s lacks : Bool) (number : ℕ) (arg : Arg) → on s (index_if lacks number arg) ≡ index_if lacks number (on s arg)
  index_on true true number arg = index_with list number arg
  index_on true false number arg = refl
  index_on false true number arg = refl
  index_on false false number arg = refl

  with_index_listed : (number : ℕ) (arg : Arg) → with_list (with_index number arg) ≡ with_index number (with_list arg)
  with_index_listed number arg =
      ap (λ s. on s (with_index number arg)) (same_with_index (lacks_index arg) number arg)
      ∙ index_on (same arg) (lacks_index arg) number arg
      ∙ ap (λ lacks. index_if lacks number (with_list arg)) (sym (lacks_on (same arg) arg))

  next_listed : (number : ℕ) (arg : Arg) → next_index number arg ≡ next_index number (with_list arg)
  next_listed number arg = ap (λ lacks. cond lacks (suc number) number) (sym (lacks_on (same arg) arg))

  -- two sources are the same one
  abbrev same_sources : Arg → Bool
  same_sources arg =
      same_origin arg.values_from arg.values_file arg.value_hint asked.values_from asked.values_file asked.value_hint
      && same_lines arg asked

  -- an argument without a source stays
  without_source : (arg : Arg) → has_source arg ≡ false → with_list arg ≡ arg
  without_source arg e =
      ap (λ s. on ((s && has_source asked) && same_sources arg) arg) e

  -- ---- some arguments

  abbrev all : List Arg → List Arg
  all args = map with_list args

  indexed_listed : (number : ℕ) (args : List Arg) → all (indexed number args) ≡ indexed number (all args)
  indexed_listed number [] = refl
  indexed_listed number (arg ∷ args) =
      ap (λ first. first ∷ all (indexed (next_index number arg) args)) (with_index_listed number arg)
      ∙ ap (λ rest. with_index number (with_list arg) ∷ rest)
      (indexed_listed (next_index number arg) args ∙ ap (λ next. indexed next (all args)) (next_listed number arg))

  all_filled : (args : List Arg) → all (map filled args) ≡ map filled (all args)
  all_filled [] = refl
  all_filled (arg ∷ args) =
      ap (λ first. first ∷ all (map filled args)) (filled_listed arg)
      ∙ ap (λ rest. filled (with_list arg) ∷ rest) (all_filled args)

  has_id_listed : (args : List Arg) (id : List ℕ) → has_id (all args) id ≡ has_id args id
  has_id_listed [] id = refl
  has_id_listed (arg ∷ args) id =
      ap (λ own. bytes_eq own id || has_id (all args) id) (id_on (same arg) arg)
      ∙ ap (λ rest. bytes_eq arg.id id || rest) (has_id_listed args id)

  abbrev added_if : Bool → List Arg → Arg → List Arg
  added_if there args other = cond there args (args ++ other ∷ [])

  added_listed : (there : Bool) (args : List Arg) (other : Arg) → all (added_if there args other) ≡ added_if there (all args) (with_list other)
  added_listed true args other = refl
  added_listed false args other = map-append with_list args (other ∷ [])

  with_missing_listed : (args others : List Arg) → all (with_missing args others) ≡ with_missing (all args) (all others)
  with_missing_listed args [] = refl
  with_missing_listed args (other ∷ others) =
      with_missing_listed (added_if (has_id args other.id) args other) others
      ∙ ap (λ first. with_missing first (all others)) (added_listed (has_id args other.id) args other)
      ∙ ap (λ there. with_missing (added_if there (all args) (with_list other)) (all others))
      (sym (has_id_listed args other.id) ∙ ap (has_id (all args)) (sym (id_on (same other) other)))

  -- one more argument, if it is global
  global_more : (global : Bool) (arg : Arg) (args others : List Arg) → all args ≡ others
      → all (cond global (arg ∷ args) args) ≡ cond global (with_list arg ∷ others) others
  global_more true arg args others e = ap (λ rest. with_list arg ∷ rest) e
  global_more false arg args others e = e

  globals_listed : (args : List Arg) → all (globals args) ≡ globals (all args)
  globals_listed [] = refl
  globals_listed (arg ∷ args) =
      global_more arg.global arg (globals args) (globals (all args)) (globals_listed args)
      ∙ ap (λ global. cond global (with_list arg ∷ globals (all args)) (globals (all args))) (sym (global_on (same arg) arg))

  -- ---- the arguments of a node

  flag_kept : (disabled : Bool) (flag : Arg) → has_source flag ≡ false → all (cond disabled [] (flag ∷ [])) ≡ cond disabled [] (flag ∷ [])
  flag_kept true flag e = refl
  flag_kept false flag e = ap (λ flag. flag ∷ []) (without_source flag e)

  version_kept : (shown : Bool) (flag : Arg) → has_source flag ≡ false → all (cond shown (flag ∷ []) []) ≡ cond shown (flag ∷ []) []
  version_kept true flag e = ap (λ flag. flag ∷ []) (without_source flag e)
  version_kept false flag e = refl

  no_help_source : has_source help_argument ≡ false
  unfolding help_argument
  no_help_source = refl

  no_version_source : has_source version_argument ≡ false
  unfolding version_argument
  no_version_source = refl

  generated_kept : (node : Node) → all (generated_arguments node) ≡ generated_arguments node
  generated_kept node =
      map-append with_list (generated_help node) (generated_version node)
      ∙ ap (λ first. first ++ all (generated_version node)) (flag_kept node.disable_help_flag help_argument no_help_source)
      ∙ ap (λ rest. generated_help node ++ rest)
      (version_kept (is_some node.version && not node.disable_version_flag) version_argument no_version_source)

  inherited_listed : (generated : Bool) (inherited : List Arg) → all (cond generated [] inherited) ≡ cond generated [] (all inherited)
  inherited_listed true inherited = refl
  inherited_listed false inherited = refl

  given_listed : (inherited : List Arg) (node : Node) → all (given_arguments inherited node) ≡ given_arguments (all inherited) (listed_node asked list node)
  given_listed inherited node =
      with_missing_listed node.arguments (inherited_by node inherited)
      ∙ ap (with_missing (all node.arguments)) (inherited_listed node.generated inherited)

  propagated_listed : (inherited : List Arg) (node : Node) → all (propagated inherited node) ≡ propagated (all inherited) (listed_node asked list node)
  propagated_listed inherited node = globals_listed (given_arguments inherited node) ∙ ap globals (given_listed inherited node)

  arguments_listed : (inherited : List Arg) (node : Node) → all (built_arguments inherited node) ≡ built_arguments (all inherited) (listed_node asked list node)
  arguments_listed inherited node =
      let given = given_arguments inherited node in
      let missing = generated_arguments node in
      indexed_listed 1 (map filled (with_missing given missing))
      ∙ ap (indexed 1)
      (all_filled (with_missing given missing)
      ∙ ap (map filled)
      (with_missing_listed given missing
      ∙ ap (with_missing (all given)) (generated_kept node)
      ∙ ap (λ given. with_missing given missing) (given_listed inherited node)))

  -- ---- nodes

  node_listed : (inherited : List Arg) (bin_name : Option (List ℕ)) (node : Node)
      → listed_node asked list (built_node inherited bin_name node) ≡ built_node (all inherited) bin_name (listed_node asked list node)
  node_listed inherited bin_name node =
      ap (λ args. let n : Node = record node { bin_name = bin_name; arguments = args; built = true } in n) (arguments_listed inherited node)

  join_listed : (first later : Forest) → listed_forest asked list (join first later) ≡ join (listed_forest asked list first) (listed_forest asked list later)
  join_listed none later = refl
  join_listed (more node below rest) later = ap (more (listed_node asked list node) (listed_forest asked list below)) (join_listed rest later)

  has_child_listed : (forest : Forest) (word : List ℕ) → has_child (listed_forest asked list forest) word ≡ has_child forest word
  has_child_listed none word = refl
  has_child_listed (more node below rest) word = ap (λ others. has_name node word || others) (has_child_listed rest word)

  needs_listed : (node : Node) (below : Forest) → needs_help_child (listed_node asked list node) (listed_forest asked list below) ≡ needs_help_child node below
  needs_listed node none = refl
  needs_listed node (more child below rest) =
      ap (λ there. not node.disable_help_subcommand && not there) (has_child_listed (more child below rest) help_name)

  copies_listed : (parent : List ℕ) (order : ℕ) (forest : Forest) → copies parent order (listed_forest asked list forest) ≡ copies parent order forest
  copies_listed parent order none = refl
  copies_listed parent order (more node below rest) =
      let copy = generated_node node.name (joined_name parent node.name) node.about order node.hide in
      ap (λ f. more copy f (copies parent (suc order) (listed_forest asked list rest))) (copies_listed (joined_name parent node.name) 0 below)
      ∙ ap (more copy (copies (joined_name parent node.name) 0 below)) (copies_listed parent (suc order) rest)

  -- copies have no arguments
  copies_kept : (parent : List ℕ) (order : ℕ) (forest : Forest) → listed_forest asked list (copies parent order forest) ≡ copies parent order forest
  copies_kept parent order none = refl
  copies_kept parent order (more node below rest) =
      let copy = generated_node node.name (joined_name parent node.name) node.about order node.hide in
      ap (λ f. more copy f (listed_forest asked list (copies parent (suc order) rest))) (copies_kept (joined_name parent node.name) 0 below)
      ∙ ap (more copy (copies (joined_name parent node.name) 0 below)) (copies_kept parent (suc order) rest)

  abbrev help_below : List ℕ → Forest → Forest
  help_below parent children =
      help_command parent (join (copies (joined_name parent help_name) 0 children) (help_command (joined_name parent help_name) none))

  help_below_listed : (parent : List ℕ) (below : Forest) → listed_forest asked list (help_below parent below) ≡ help_below parent (listed_forest asked list below)
  help_below_listed parent below =
      let name = joined_name parent help_name in
      ap (help_command parent)
      (join_listed (copies name 0 below) (help_command name none)
      ∙ ap (λ f. join f (help_command name none)) (copies_kept name 0 below ∙ sym (copies_listed name 0 below)))

  help_child_listed : (parent : List ℕ) (node : Node) (below : Forest)
      → listed_forest asked list (help_child parent node below) ≡ help_child parent (listed_node asked list node) (listed_forest asked list below)
  help_child_listed parent node below =
      by (needs_help_child node below)
      ∙ ap (λ needs. cond needs (help_below parent (listed_forest asked list below)) none) (sym (needs_listed node below))
    where
      by : (needs : Bool) → listed_forest asked list (cond needs (help_below parent below) none) ≡ cond needs (help_below parent (listed_forest asked list below)) none
      by true = help_below_listed parent below
      by false = refl

  -- the children of a built node
  abbrev children_of : List Arg → List ℕ → Node → Forest → Forest
  children_of inherited name node below = join (built_forest (propagated inherited node) name below) (help_child name node below)

  children_listed : (inherited : List Arg) (name : List ℕ) (node : Node) (below : Forest)
      → listed_forest asked list (built_forest (propagated inherited node) name below) ≡ built_forest (all (propagated inherited node)) name (listed_forest asked list below)
      → listed_forest asked list (children_of inherited name node below) ≡ children_of (all inherited) name (listed_node asked list node) (listed_forest asked list below)
  children_listed inherited name node below built =
      join_listed (built_forest (propagated inherited node) name below) (help_child name node below)
      ∙ ap (λ f. join f (listed_forest asked list (help_child name node below)))
      (built ∙ ap (λ args. built_forest args name (listed_forest asked list below)) (propagated_listed inherited node))
      ∙ ap (join (built_forest (propagated (all inherited) (listed_node asked list node)) name (listed_forest asked list below))) (help_child_listed name node below)

  forest_listed : (inherited : List Arg) (parent : List ℕ) (forest : Forest)
      → listed_forest asked list (built_forest inherited parent forest) ≡ built_forest (all inherited) parent (listed_forest asked list forest)
  forest_listed inherited parent none = refl
  forest_listed inherited parent (more node below rest) =
      let name = joined_name parent node.name in
      ap (λ n. more n (listed_forest asked list (children_of inherited name node below)) (listed_forest asked list (built_forest inherited parent rest)))
      (node_listed inherited (Some name) node)
      ∙ ap (λ f. more (built_node (all inherited) (Some name) (listed_node asked list node)) f (listed_forest asked list (built_forest inherited parent rest)))
      (children_listed inherited name node below (forest_listed (propagated inherited node) name below))
      ∙ ap (more (built_node (all inherited) (Some name) (listed_node asked list node)) (children_of (all inherited) name (listed_node asked list node) (listed_forest asked list below)))
      (forest_listed inherited parent rest)

  pub built_with_list : (tree : Tree) → listed_tree asked list (built_tree tree) ≡ built_tree (listed_tree asked list tree)
  built_with_list tree =
      ap (λ node. let t : Tree = record { node = node; children = listed_forest asked list (built_tree tree).children } in t)
      (node_listed [] tree.node.bin_name tree.node)
      ∙ ap (λ children. let t : Tree = record { node = (built_tree (listed_tree asked list tree)).node; children = children } in t)
      (children_listed [] (full_name tree.node) tree.node tree.children
      (forest_listed (propagated [] tree.node) (full_name tree.node) tree.children))

-- a tree that building leaves as it is stays one
pub listed_stays : (asked : Arg) (list : SourceValues) (tree new : Tree) → StaysIfMarked tree → new ≡ listed_tree asked list tree → StaysIfMarked new
listed_stays asked list tree new stays is marked =
    ap built_tree is ∙ sym (built_with_list asked list tree)
    ∙ ap (listed_tree asked list) (stays (subst (λ t. IsTrue t.node.built) is marked)) ∙ sym is
