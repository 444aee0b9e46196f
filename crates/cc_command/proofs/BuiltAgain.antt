-- Building a built tree changes nothing.
use Rattle.std.proofs.Common.{◌≡◌, ℕ, suc, List, [], ◌∷◌, ◌++◌, Bool, true, false, cond, not, ◌&&◌, ◌||◌, Option, Some, is_some, map, refl, ap, ◌∙◌, sym}
use Rattle.std.proofs.Math.Bool.{and-false, or-true, or-false, or_assoc}
use Rattle.std.specs.Str.{bytes_eq}
use Rattle.std.proofs.lemmas.Slice.Eq.{bytes_eq-Decides}
use Rattle.cc_arg.specs.declared.parts.ArgParts.{ArgParts as Arg}
use Rattle.cc_arg.specs.Arguments.{filled, is_positional}
use Rattle.cc_command.specs.declared.node.Node.{Node}
use Rattle.cc_command.specs.Texts.{help_name, help_about, last_order}
use Rattle.cc_command.specs.Tree.{Forest, none, more, join, Tree}
use Rattle.cc_command.specs.Names.{has_id, has_child, has_name, full_name, joined_name}
use Rattle.cc_command.specs.Generated.{help_argument, version_argument, generated_version, generated_arguments, generated_node, copies, help_command, needs_help_child, help_child}
use Rattle.cc_command.specs.Built.{with_missing, given_arguments, globals, propagated, built_arguments, built_below, lacks_index, with_index, next_index, indexed, inherited_by, built_node, built_forest, built_under, built_tree}

-- ---- arguments

-- each id of the first list is in the second
abbrev pub Within : List Arg → List Arg → Type 0
Within others arguments = (id : List ℕ) → has_id others id ≡ true → has_id arguments id ≡ true

Within-none : (xs : List Arg) → Within [] xs
Within-none xs id there = cc

has_id-append : (xs ys : List Arg) (id : List ℕ) → has_id (xs ++ ys) id ≡ (has_id xs id || has_id ys id)
has_id-append [] ys id = refl
has_id-append (x ∷ xs) ys id =
    ap (λ b. bytes_eq x.id id || b) (has_id-append xs ys id) ∙ sym (or_assoc (bytes_eq x.id id) (has_id xs id) (has_id ys id))

-- bytes are equal to themselves
bytes_eq-self : (bytes : List ℕ) → bytes_eq bytes bytes ≡ true
bytes_eq-self bytes = (bytes_eq-Decides bytes bytes).1 refl

-- one more argument adds its id, even if the id is in the list already
has_id-step : (xs : List Arg) (other : Arg) (id : List ℕ) (b s : Bool) → has_id xs other.id ≡ b → bytes_eq other.id id ≡ s →
    has_id (cond b xs (xs ++ other ∷ [])) id ≡ (has_id xs id || s)
has_id-step xs other id false s there is =
    has_id-append xs (other ∷ []) id ∙ ap (λ t. has_id xs id || (t || false)) is ∙ ap (λ t. has_id xs id || t) (or-false s)
has_id-step xs other id true false there is = sym (or-false (has_id xs id))
has_id-step xs other id true true there is =
    ap (has_id xs) (sym ((bytes_eq-Decides other.id id).0 is)) ∙ there ∙ sym (or-true (has_id xs id))

-- after adding, the ids are those of both lists
has_id-with_missing : (xs others : List Arg) (id : List ℕ) → has_id (with_missing xs others) id ≡ (has_id xs id || has_id others id)
has_id-with_missing xs [] id = sym (or-false (has_id xs id))
has_id-with_missing xs (other ∷ others) id =
    has_id-with_missing (cond (has_id xs other.id) xs (xs ++ other ∷ [])) others id ∙
    ap (λ b. b || has_id others id) (has_id-step xs other id (has_id xs other.id) (bytes_eq other.id id) refl refl) ∙
    or_assoc (has_id xs id) (bytes_eq other.id id) (has_id others id)

Within-with_missing : (xs others : List Arg) → Within others (with_missing xs others)
Within-with_missing xs others id there = has_id-with_missing xs others id ∙ ap (λ b. has_id xs id || b) there ∙ or-true (has_id xs id)

kept-with_missing : (xs others : List Arg) → Within xs (with_missing xs others)
kept-with_missing xs others id there = has_id-with_missing xs others id ∙ ap (λ b. b || has_id others id) there

-- if no id is missing, nothing is added
with_missing-there : (xs others : List Arg) → Within others xs → with_missing xs others ≡ xs
with_missing-there xs [] there = refl
with_missing-there xs (other ∷ others) there =
    ap (λ b. with_missing (cond b xs (xs ++ other ∷ [])) others)
    (there other.id (ap (λ b. b || has_id others other.id) (bytes_eq-self other.id))) ∙
    with_missing-there xs others (λ id is. there id (ap (λ b. bytes_eq other.id id || b) is ∙ or-true (bytes_eq other.id id)))

-- filling in keeps the ids
has_id-filled : (xs : List Arg) (id : List ℕ) → has_id (map filled xs) id ≡ has_id xs id
has_id-filled [] id = refl
has_id-filled (x ∷ xs) id = ap (λ b. bytes_eq x.id id || b) (has_id-filled xs id)

with_index-id : (position : ℕ) (x : Arg) → (with_index position x).id ≡ x.id
with_index-id position x = elim (lacks_index x) as (λ b. (let y : Arg = cond b (record x { index = Some position }) x in y.id) ≡ x.id) [ true ↦ refl | false ↦ refl ]

has_id-indexed : (position : ℕ) (xs : List Arg) (id : List ℕ) → has_id (indexed position xs) id ≡ has_id xs id
has_id-indexed position [] id = refl
has_id-indexed position (x ∷ xs) id =
    ap (λ i. bytes_eq i id || has_id (indexed (next_index position x) xs) id) (with_index-id position x) ∙
    ap (λ b. bytes_eq x.id id || b) (has_id-indexed (next_index position x) xs id)

-- an argument with an index does not lack one
lacks_index-with : (position : ℕ) (x : Arg) (b : Bool) → lacks_index x ≡ b → lacks_index (cond b (record x { index = Some position }) x) ≡ false
lacks_index-with position x true is = and-false (is_positional x)
lacks_index-with position x false is = is

with_index-again : (later position : ℕ) (x : Arg) → with_index later (with_index position x) ≡ with_index position x
with_index-again later position x =
    ap (λ b. cond b (record (with_index position x) { index = Some later }) (with_index position x)) (lacks_index-with position x (lacks_index x) refl)

-- indexes are set only once
indexed-again : (later position : ℕ) (xs : List Arg) → indexed later (indexed position xs) ≡ indexed position xs
indexed-again later position [] = refl
indexed-again later position (x ∷ xs) =
    ap (λ y. y ∷ indexed (next_index later (with_index position x)) (indexed (next_index position x) xs)) (with_index-again later position x) ∙
    ap (λ ys. with_index position x ∷ ys) (indexed-again (next_index later (with_index position x)) (next_index position x) xs)

-- values that were filled in do not change
filled-with_index : (position : ℕ) (x : Arg) → filled (with_index position (filled x)) ≡ with_index position (filled x)
filled-with_index position x =
    elim (lacks_index (filled x)) as (λ b. filled (cond b (record (filled x) { index = Some position }) (filled x)) ≡ cond b (record (filled x) { index = Some position }) (filled x)) [ true ↦ refl | false ↦ refl ]

filled-indexed : (position : ℕ) (xs : List Arg) → map filled (indexed position (map filled xs)) ≡ indexed position (map filled xs)
filled-indexed position [] = refl
filled-indexed position (x ∷ xs) =
    ap (λ y. y ∷ map filled (indexed (next_index position (filled x)) (map filled xs))) (filled-with_index position x) ∙
    ap (λ ys. with_index position (filled x) ∷ ys) (filled-indexed (next_index position (filled x)) xs)

-- ---- propagated arguments

with_index-global : (position : ℕ) (x : Arg) → (with_index position x).global ≡ x.global
with_index-global position x = elim (lacks_index x) as (λ b. (let y : Arg = cond b (record x { index = Some position }) x in y.global) ≡ x.global) [ true ↦ refl | false ↦ refl ]

-- one more argument before the global ones
abbrev has_before : Bool → List ℕ → List Arg → List ℕ → Bool
has_before global own rest id = cond global (bytes_eq own id || has_id (globals rest) id) (has_id (globals rest) id)

has_id-globals : (x : Arg) (xs : List Arg) (id : List ℕ) → has_id (globals (x ∷ xs)) id ≡ has_before x.global x.id xs id
has_id-globals x xs id = elim x.global as (λ b. has_id (cond b (x ∷ globals xs) (globals xs)) id ≡ has_before b x.id xs id) [ true ↦ refl | false ↦ refl ]

-- finishing keeps the ids of the global arguments
has_id-finished : (position : ℕ) (xs : List Arg) (id : List ℕ) → has_id (globals (indexed position (map filled xs))) id ≡ has_id (globals xs) id
has_id-finished position [] id = refl
has_id-finished position (x ∷ xs) id =
    let rest : List Arg = indexed (next_index position (filled x)) (map filled xs) in
    has_id-globals (with_index position (filled x)) rest id ∙
    ap (λ b. has_before b (with_index position (filled x)).id rest id) (with_index-global position (filled x)) ∙
    ap (λ own. has_before x.global own rest id) (with_index-id position (filled x)) ∙
    ap (λ b. cond x.global (bytes_eq x.id id || b) b) (has_id-finished (next_index position (filled x)) xs id) ∙
    sym (has_id-globals x xs id)

-- none of the generated arguments is global
abbrev AreLocal : List Arg → Type 0
AreLocal [] = Unit {0}
AreLocal (x ∷ xs) = (x.global ≡ false) × AreLocal xs

globals-pushed : (xs : List Arg) (other : Arg) → other.global ≡ false → globals (xs ++ other ∷ []) ≡ globals xs
globals-pushed [] other local = ap (λ b. cond b (other ∷ []) []) local
globals-pushed (x ∷ xs) other local = ap (λ ys. cond x.global (x ∷ ys) ys) (globals-pushed xs other local)

-- arguments that are not global add nothing to the propagated ones
pub globals-with_missing : (xs others : List Arg) → AreLocal others → globals (with_missing xs others) ≡ globals xs
globals-with_missing xs [] local = refl
globals-with_missing xs (other ∷ others) local =
    globals-with_missing (cond (has_id xs other.id) xs (xs ++ other ∷ [])) others local.1 ∙
    elim (has_id xs other.id) as (λ b. globals (cond b xs (xs ++ other ∷ [])) ≡ globals xs) [
      | true ↦ refl
      | false ↦ globals-pushed xs other local.0
    ]

pub AreLocal-generated : (node : Node) → AreLocal (generated_arguments node)
unfolding help_argument version_argument
AreLocal-generated node =
    elim node.disable_help_flag as (λ b. AreLocal (cond b [] (help_argument ∷ []) ++ generated_version node)) [
      | true ↦ elim (is_some node.version && not node.disable_version_flag) as (λ v. AreLocal (cond v (version_argument ∷ []) [])) [ true ↦ (refl, tt) | false ↦ tt ]
      | false ↦ (refl, elim (is_some node.version && not node.disable_version_flag) as (λ v. AreLocal (cond v (version_argument ∷ []) [])) [ true ↦ (refl, tt) | false ↦ tt ])
    ]

-- ---- the arguments of a built node

-- the ids of the given arguments are among those of the built ones
kept-built : (inherited : List Arg) (node : Node) → Within (given_arguments inherited node) (built_arguments inherited node)
kept-built inherited node id there =
    let all : List Arg = with_missing (given_arguments inherited node) (generated_arguments node) in
    has_id-indexed 1 (map filled all) id ∙ has_id-filled all id ∙ kept-with_missing (given_arguments inherited node) (generated_arguments node) id there

generated-built : (inherited : List Arg) (node : Node) → Within (generated_arguments node) (built_arguments inherited node)
generated-built inherited node id there =
    let all : List Arg = with_missing (given_arguments inherited node) (generated_arguments node) in
    has_id-indexed 1 (map filled all) id ∙ has_id-filled all id ∙ Within-with_missing (given_arguments inherited node) (generated_arguments node) id there

-- the ids of the inherited arguments, or of a part of them, are among those of the built ones
inherited-built : (again inherited : List Arg) (node : Node) (b : Bool) → node.generated ≡ b → Within again inherited →
    Within (cond b [] again) (built_arguments inherited node)
inherited-built again inherited node true is within id there = Within-none (built_arguments inherited node) id there
inherited-built again inherited node false is within id there =
    kept-built inherited node id
    (Within-with_missing node.arguments (inherited_by node inherited) id
    (ap (λ b. has_id (cond b [] inherited) id) is ∙ within id there))

-- a built node has all arguments that its parent propagates
given-again : (again inherited : List Arg) (bin_name : Option (List ℕ)) (node : Node) → Within again inherited →
    given_arguments again (built_node inherited bin_name node) ≡ built_arguments inherited node
given-again again inherited bin_name node within =
    with_missing-there (built_arguments inherited node) (inherited_by node again)
    (inherited-built again inherited node node.generated refl within)

finished-again : (xs : List Arg) → indexed 1 (map filled (indexed 1 (map filled xs))) ≡ indexed 1 (map filled xs)
finished-again xs = ap (indexed 1) (filled-indexed 1 xs) ∙ indexed-again 1 1 (map filled xs)

built_arguments-again : (again inherited : List Arg) (bin_name : Option (List ℕ)) (node : Node) → Within again inherited →
    built_arguments again (built_node inherited bin_name node) ≡ built_arguments inherited node
built_arguments-again again inherited bin_name node within =
    ap (λ xs. indexed 1 (map filled (with_missing xs (generated_arguments node)))) (given-again again inherited bin_name node within) ∙
    ap (λ xs. indexed 1 (map filled xs)) (with_missing-there (built_arguments inherited node) (generated_arguments node) (generated-built inherited node)) ∙
    finished-again (with_missing (given_arguments inherited node) (generated_arguments node))

built_node-again : (again inherited : List Arg) (bin_name : Option (List ℕ)) (node : Node) → Within again inherited →
    built_node again bin_name (built_node inherited bin_name node) ≡ built_node inherited bin_name node
built_node-again again inherited bin_name node within =
    ap (λ arguments. let n : Node = record node { bin_name = bin_name; arguments = arguments; built = true } in n)
    (built_arguments-again again inherited bin_name node within)

-- a built node propagates only ids that it propagated before
Within-propagated : (again inherited : List Arg) (bin_name : Option (List ℕ)) (node : Node) → Within again inherited →
    Within (propagated again (built_node inherited bin_name node)) (propagated inherited node)
Within-propagated again inherited bin_name node within id there =
    ap (λ xs. has_id xs id) (sym (globals-with_missing (given_arguments inherited node) (generated_arguments node) (AreLocal-generated node))) ∙
    sym (has_id-finished 1 (with_missing (given_arguments inherited node) (generated_arguments node)) id) ∙
    ap (λ xs. has_id (globals xs) id) (sym (given-again again inherited bin_name node within)) ∙ there

-- ---- forests

pub join-none : (forest : Forest) → join forest none ≡ forest
join-none none = refl
join-none (more node below rest) = ap (λ f. more node below f) (join-none rest)

pub built_forest-join : (inherited : List Arg) (parent : List ℕ) (a b : Forest) →
    built_forest inherited parent (join a b) ≡ join (built_forest inherited parent a) (built_forest inherited parent b)
built_forest-join inherited parent none b = refl
built_forest-join inherited parent (more node below rest) b =
    ap (λ f. more (built_node inherited (Some (joined_name parent node.name)) node)
    (join (built_forest (propagated inherited node) (joined_name parent node.name) below) (help_child (joined_name parent node.name) node below)) f)
    (built_forest-join inherited parent rest b)

has_child-join : (a b : Forest) (word : List ℕ) → has_child (join a b) word ≡ (has_child a word || has_child b word)
has_child-join none b word = refl
has_child-join (more node below rest) b word =
    ap (λ t. has_name node word || t) (has_child-join rest b word) ∙ sym (or_assoc (has_name node word) (has_child rest word) (has_child b word))

pub has_child-built : (inherited : List Arg) (parent : List ℕ) (forest : Forest) (word : List ℕ) →
    has_child (built_forest inherited parent forest) word ≡ has_child forest word
has_child-built inherited parent none word = refl
has_child-built inherited parent (more node below rest) word =
    ap (λ t. has_name node word || t) (has_child-built inherited parent rest word)

-- if the child `help` is disabled, it is not missing
needs_help_child-disabled : (node : Node) (forest : Forest) → node.disable_help_subcommand ≡ true → needs_help_child node forest ≡ false
needs_help_child-disabled node none disabled = refl
needs_help_child-disabled node (more child below rest) disabled =
    ap (λ b. not b && not (has_child (more child below rest) help_name)) disabled

help_child-disabled : (parent : List ℕ) (node : Node) (forest : Forest) → node.disable_help_subcommand ≡ true → help_child parent node forest ≡ none
help_child-disabled parent node forest disabled =
    ap (λ b. cond b (help_command parent (join (copies (joined_name parent help_name) 0 forest) (help_command (joined_name parent help_name) none))) none)
    (needs_help_child-disabled node forest disabled)

-- building does not change copies
pub built_forest-copies : (inherited : List Arg) (parent : List ℕ) (position : ℕ) (forest : Forest) →
    built_forest inherited parent (copies parent position forest) ≡ copies parent position forest
built_forest-copies inherited parent position none = refl
built_forest-copies inherited parent position (more node below rest) =
    let name : List ℕ = joined_name parent node.name in
    let copy : Node = generated_node node.name name node.about position node.hide in
    ap (λ f. more copy (join f (help_child name copy (copies name 0 below))) (built_forest inherited parent (copies parent (suc position) rest)))
    (built_forest-copies (propagated inherited copy) name 0 below) ∙
    ap (λ f. more copy (join (copies name 0 below) f) (built_forest inherited parent (copies parent (suc position) rest)))
    (help_child-disabled name copy (copies name 0 below) refl) ∙
    ap (λ f. more copy f (built_forest inherited parent (copies parent (suc position) rest))) (join-none (copies name 0 below)) ∙
    ap (λ f. more copy (copies name 0 below) f) (built_forest-copies inherited parent (suc position) rest)

-- the children of a generated `help`
abbrev pub helped : List ℕ → Forest → Forest
helped name forest = join (copies name 0 forest) (help_command name none)

-- the node of a generated `help`
abbrev the_help : List ℕ → Node
the_help parent = generated_node help_name (joined_name parent help_name) (Some help_about) last_order false

pub built_forest-helped : (inherited : List Arg) (name : List ℕ) (forest : Forest) →
    built_forest inherited name (helped name forest) ≡ helped name forest
built_forest-helped inherited name forest =
    built_forest-join inherited name (copies name 0 forest) (help_command name none) ∙
    ap (λ f. join f (help_command name none)) (built_forest-copies inherited name 0 forest)

-- building does not change a generated `help`
built_forest-help_command : (inherited : List Arg) (parent : List ℕ) (forest : Forest) →
    let name : List ℕ = joined_name parent help_name in
    built_forest inherited parent (help_command parent (helped name forest)) ≡ help_command parent (helped name forest)
built_forest-help_command inherited parent forest =
    let name : List ℕ = joined_name parent help_name in
    ap (λ f. help_command parent (join f (help_child name (the_help parent) (helped name forest)))) (built_forest-helped (propagated inherited (the_help parent)) name forest) ∙
    ap (λ f. help_command parent (join (helped name forest) f)) (help_child-disabled name (the_help parent) (helped name forest) refl) ∙
    ap (help_command parent) (join-none (helped name forest))

built_forest-help_child : (inherited : List Arg) (parent : List ℕ) (node : Node) (forest : Forest) →
    built_forest inherited parent (help_child parent node forest) ≡ help_child parent node forest
built_forest-help_child inherited parent node forest =
    let name : List ℕ = joined_name parent help_name in
    elim (needs_help_child node forest) as (λ b. built_forest inherited parent (cond b (help_command parent (helped name forest)) none) ≡ cond b (help_command parent (helped name forest)) none) [
      | true ↦ built_forest-help_command inherited parent forest
      | false ↦ refl
    ]

-- after building, no child `help` is missing
missing_no_more : (d h : Bool) (parent : List ℕ) (children : Forest) →
    (d && not (h || has_child (cond (d && not h) (help_command parent children) none) help_name)) ≡ false
unfolding help_name
missing_no_more true true parent children = refl
missing_no_more true false parent children = refl
missing_no_more false h parent children = refl

needs_help_child-built : (inherited : List Arg) (parent : List ℕ) (node again : Node) (forest : Forest) →
    again.disable_help_subcommand ≡ node.disable_help_subcommand →
    needs_help_child again (join (built_forest inherited parent forest) (help_child parent node forest)) ≡ false
needs_help_child-built inherited parent node again none same = refl
needs_help_child-built inherited parent node again (more child below rest) same =
    let forest : Forest = more child below rest in
    ap (λ b. not b && not (has_child (join (built_forest inherited parent forest) (help_child parent node forest)) help_name)) same ∙
    ap (λ b. not node.disable_help_subcommand && not b)
    (has_child-join (built_forest inherited parent forest) (help_child parent node forest) help_name ∙
    ap (λ b. b || has_child (help_child parent node forest) help_name) (has_child-built inherited parent forest help_name)) ∙
    missing_no_more (not node.disable_help_subcommand) (has_child forest help_name) parent (helped (joined_name parent help_name) forest)

-- building again does not change the children of a built node
children-again : (again inherited : List Arg) (parent : List ℕ) (node after : Node) (forest : Forest) →
    after.disable_help_subcommand ≡ node.disable_help_subcommand →
    built_forest again parent (built_forest inherited parent forest) ≡ built_forest inherited parent forest →
    let children : Forest = join (built_forest inherited parent forest) (help_child parent node forest) in
    join (built_forest again parent children) (help_child parent after children) ≡ children
children-again again inherited parent node after forest same hypothesis =
    let built : Forest = built_forest inherited parent forest in
    let help : Forest = help_child parent node forest in
    let children : Forest = join built help in
    let name : List ℕ = joined_name parent help_name in
    ap (λ f. join f (help_child parent after children))
    (built_forest-join again parent built help ∙ ap (λ f. join f (built_forest again parent help)) hypothesis ∙
    ap (λ f. join built f) (built_forest-help_child again parent node forest)) ∙
    ap (λ b. join children (cond b (help_command parent (helped name children)) none)) (needs_help_child-built inherited parent node after forest same) ∙
    join-none children

pub built_forest-again : (again inherited : List Arg) (parent : List ℕ) (forest : Forest) → Within again inherited →
    built_forest again parent (built_forest inherited parent forest) ≡ built_forest inherited parent forest
built_forest-again again inherited parent none within = refl
built_forest-again again inherited parent (more node below rest) within =
    let name : List ℕ = joined_name parent node.name in
    let built : Node = built_node inherited (Some name) node in
    let children : Forest = join (built_forest (propagated inherited node) name below) (help_child name node below) in
    ap (λ n. more n (join (built_forest (propagated again built) name children) (help_child name built children)) (built_forest again parent (built_forest inherited parent rest)))
    (built_node-again again inherited (Some name) node within) ∙
    ap (λ f. more built f (built_forest again parent (built_forest inherited parent rest)))
    (children-again (propagated again built) (propagated inherited node) name node built below refl
    (built_forest-again (propagated again built) (propagated inherited node) name below (Within-propagated again inherited (Some name) node within))) ∙
    ap (λ f. more built children f) (built_forest-again again inherited parent rest within)

-- building a built tree changes nothing, whatever arguments its parent propagated
pub built_below-again : (inherited : List Arg) (bin_name : Option (List ℕ)) (tree : Tree) →
    built_tree (built_below inherited bin_name tree) ≡ built_below inherited bin_name tree
built_below-again inherited bin_name tree =
    let name : List ℕ = full_name (record tree.node { bin_name = bin_name }) in
    let built : Node = built_node inherited bin_name tree.node in
    let children : Forest = join (built_forest (propagated inherited tree.node) name tree.children) (help_child name tree.node tree.children) in
    let within : Within [] inherited = Within-none inherited in
    ap (λ n. let t : Tree = record { node = n; children = join (built_forest (propagated [] built) name children) (help_child name built children) } in t)
    (built_node-again [] inherited bin_name tree.node within) ∙
    ap (λ f. let t : Tree = record { node = built; children = f } in t)
    (children-again (propagated [] built) (propagated inherited tree.node) name tree.node built tree.children refl
    (built_forest-again (propagated [] built) (propagated inherited tree.node) name tree.children (Within-propagated [] inherited bin_name tree.node within)))

pub built_tree-again : (bin_name : Option (List ℕ)) (tree : Tree) → built_tree (built_under bin_name tree) ≡ built_under bin_name tree
built_tree-again bin_name tree = built_below-again [] bin_name tree

-- building does not change a generated tree if it does not change the children
pub built_tree-generated : (name bin_name : List ℕ) (about : Option (List ℕ)) (position : ℕ) (hide : Bool) (children : Forest) →
    built_forest [] bin_name children ≡ children →
    let tree : Tree = record { node = generated_node name bin_name about position hide; children = children } in
    built_tree tree ≡ tree
built_tree-generated name bin_name about position hide children stay =
    let node : Node = generated_node name bin_name about position hide in
    ap (λ f. let t : Tree = record { node = node; children = join f (help_child bin_name node children) } in t) stay ∙
    ap (λ f. let t : Tree = record { node = node; children = join children f } in t) (help_child-disabled bin_name node children refl) ∙
    ap (λ f. let t : Tree = record { node = node; children = f } in t) (join-none children)
