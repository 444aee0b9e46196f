-- The arms of a script as each node is entered and left.
use Rattle.std.proofs.Common.{◌≡◌, ℕ, List, [], ◌∷◌, ◌++◌, map, refl, ap, ◌∙◌, append_assoc, append-nil}
use Rattle.std.specs.List.{flat_map}
use Rattle.std.proofs.lemmas.List.Concat.{flat_map-append}
use Rattle.cc_base.specs.Bytes.{line_feed}
use Rattle.cc_command.specs.declared.node.Node.{Node}
use Rattle.cc_command.specs.Names.{visible_names}
use Rattle.cc_command.specs.Tree.{Forest, none, more, Tree, has_nodes}
use Rattle.cc_generator.specs.Visits.{Keyed, keyed, Step, enter, leave, steps_below}
use Rattle.cc_zsh.specs.Functions.{entries_of, has_entries}
use Rattle.cc_zsh.specs.Nested.{arm_begins, arm_ends, arm_text, arms_text, block_text, nested_ends, nested_begins, nested_line}
use Rattle.cc_zsh.specs.Steps.{enter_text, last_name, leave_text, nested_closes, nested_opens, step_text}

-- a node has names to describe if and only if it has children
pub has_entries_of : (children : Forest) → has_entries (entries_of children) ≡ has_nodes children
has_entries_of none = refl
has_entries_of (more node below rest) = refl

regroup : (front begins arms ends last : List ℕ) →
    (front ++ begins) ++ (arms ++ ((ends ++ last) ++ [])) ≡ (front ++ ((begins ++ arms) ++ ends)) ++ last
regroup front begins arms ends last = simp (append_assoc, append-nil)

-- a node is entered, and left after the arms of its children
arm : (name : List ℕ) (above node : Node) (below : Forest) (arms : List ℕ) → arms ≡ arms_text node below →
    let tree : Tree = record { node = node; children = below } in
    enter_text (keyed name above tree) ++ (arms ++ (leave_text tree ++ []))
    ≡ arm_text (block_text above tree) (nested_line node below (arms_text node below)) name
unfolding enter_text leave_text nested_opens nested_closes arms_text
arm name above node none arms is =
    let tree : Tree = record { node = node; children = none } in
    ap (λ t. enter_text (keyed name above tree) ++ (t ++ (arm_ends ++ []))) is
    ∙ regroup (arm_begins name (block_text above tree)) [] [] [] arm_ends
arm name above node (more first under others) arms is =
    let below : Forest = more first under others in
    let tree : Tree = record { node = node; children = below } in
    ap (λ t. enter_text (keyed name above tree) ++ (t ++ (leave_text tree ++ []))) is
    ∙ regroup (arm_begins name (block_text above tree)) (line_feed ∷ nested_begins node)
    (arms_text node below) nested_ends arm_ends

-- the steps of one node below a key
abbrev steps_of : Node → Node → Forest → List ℕ → List (Step (List ℕ))
steps_of above node below child =
    let tree : Tree = record { node = node; children = below } in
    enter (keyed child above tree) ∷ (steps_below last_name child node below ++ leave (keyed child above tree) ∷ [])

-- the steps of a node under each of its names
names : (key : List ℕ) (above node : Node) (below : Forest) →
    ((child : List ℕ) → flat_map step_text (steps_below last_name child node below) ≡ arms_text node below) →
    (texts : List (List ℕ)) →
    flat_map step_text (flat_map (steps_of above node below) (map (last_name key) texts))
    ≡ flat_map (arm_text (block_text above (record { node = node; children = below }))
    (nested_line node below (arms_text node below))) texts
names key above node below each [] = refl
names key above node below each (name ∷ texts) =
    let tree : Tree = record { node = node; children = below } in
    let visit : Keyed (List ℕ) = keyed name above tree in
    let deeper : List (Step (List ℕ)) = steps_below last_name name node below in
    let later : List (Step (List ℕ)) = flat_map (steps_of above node below) (map (last_name key) texts) in
    let arm_of = arm_text (block_text above tree) (nested_line node below (arms_text node below)) in
    flat_map-append step_text (steps_of above node below name) later ∙
    ap (λ t. (enter_text visit ++ t) ++ flat_map step_text later) (flat_map-append step_text deeper (leave visit ∷ [])) ∙
    ap (λ t. t ++ flat_map step_text later) (arm name above node below (flat_map step_text deeper) (each name)) ∙
    ap (λ t. arm_of name ++ t) (names key above node below each texts)

-- the steps below a node give the arms of its children
pub steps_texts : (key : List ℕ) (above : Node) (children : Forest) →
    flat_map step_text (steps_below last_name key above children) ≡ arms_text above children
unfolding steps_below arms_text
steps_texts key above none = refl
steps_texts key above (more node below rest) =
    flat_map-append step_text (flat_map (steps_of above node below) (map (last_name key) (visible_names node))) (steps_below last_name key above rest) ∙
    ap (λ t. t ++ flat_map step_text (steps_below last_name key above rest))
    (names key above node below (λ child. steps_texts child node below) (visible_names node)) ∙
    ap (λ t. flat_map (arm_text (block_text above (record { node = node; children = below }))
    (nested_line node below (arms_text node below))) (visible_names node) ++ t) (steps_texts key above rest)
