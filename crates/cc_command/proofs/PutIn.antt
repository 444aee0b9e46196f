-- Putting the additions into a tree builds it.
use Rattle.std.proofs.Common.{◌≡◌, ℕ, suc, ◌+◌, ◌<◌, ◌≤◌, List, [], ◌∷◌, ◌++◌, length, get_or, take, drop, map, Option, Some, true, refl, ap, ◌∙◌, sym, subst, add-one, append_assoc, append-nil, arith}
use Rattle.std.proofs.Math.Seq.{drop-cons}
use Rattle.std.proofs.Math.ListN.{set, drop_of_length-le}
use Rattle.std.proofs.lemmas.List.{take_all, take_more_set, drop-set-lt}
use Rattle.cc_arg.specs.declared.parts.ArgParts.{ArgParts as Arg}
use Rattle.cc_arg.specs.Arguments.{filled}
use Rattle.cc_command.specs.declared.node.Node.{Node}
use Rattle.cc_command.specs.declared.command.build.additions.Addition.{Addition}
use Rattle.cc_command.specs.Tree.{Forest, none, more, join, Tree, forest_of}
use Rattle.cc_command.specs.Names.{full_name, joined_name}
use Rattle.cc_command.specs.Generated.{generated_arguments}
use Rattle.cc_command.specs.Built.{given_arguments, globals, propagated, indexed, built_node, built_forest, built_tree}
use Rattle.cc_command.specs.Additions.{sibling_count, HasRoom, IsAddition, Between, AreAdditions, AreOfTree, AreAfter, AreOfTreeAfter, Suit, SuitTree, AreBuiltBy, IsBuiltBy}
use Rattle.cc_command.proofs.BuiltAgain.{built_below-again, join-none, globals-with_missing, AreLocal-generated}
use Rattle.cc_command.proofs.Forests.{forest_of-append}

pub sibling_count-forest_of : (trees : List Tree) → sibling_count (forest_of trees) ≡ length trees
sibling_count-forest_of [] = refl
sibling_count-forest_of (tree ∷ trees) = ap suc (sibling_count-forest_of trees)

pub join_assoc : (a b c : Forest) → join (join a b) c ≡ join a (join b c)
join_assoc none b c = refl
join_assoc (more node below rest) b c = ap (more node below) (join_assoc rest b c)

-- ---- the list of the additions

AreAdditions-append : (inherited : List Arg) (parent : List ℕ) (siblings : Forest) (additions later more_later : List Addition) →
    AreAdditions inherited parent siblings additions later → AreAdditions inherited parent siblings (additions ++ more_later) (later ++ more_later)
AreAdditions-append inherited parent none additions later more_later fit = ap (λ all. all ++ more_later) fit
AreAdditions-append inherited parent (more node below rest) [] later more_later fit = absurd fit
AreAdditions-append inherited parent (more node below rest) (addition ∷ additions) later more_later fit = (
  fit.0,
  record {
    left = fit.1.left ++ more_later;
    ends = AreAdditions-append (propagated inherited node) (joined_name parent node.name) below additions fit.1.left more_later fit.1.ends;
    begins = AreAdditions-append inherited parent rest fit.1.left later more_later fit.1.begins;
  },
)

AreAdditions-join : (inherited : List Arg) (parent : List ℕ) (a b : Forest) (additions between later : List Addition) →
    AreAdditions inherited parent a additions between → AreAdditions inherited parent b between later → AreAdditions inherited parent (join a b) additions later
AreAdditions-join inherited parent none b additions between later fit fit_b =
    subst (λ all. AreAdditions inherited parent b all later) (sym fit) fit_b
AreAdditions-join inherited parent (more node below rest) b [] between later fit fit_b = absurd fit
AreAdditions-join inherited parent (more node below rest) b (addition ∷ additions) between later fit fit_b = (
  fit.0,
  record {
    left = fit.1.left;
    ends = fit.1.ends;
    begins = AreAdditions-join inherited parent rest b fit.1.left between later fit.1.begins fit_b;
  },
)

-- the additions to one sibling are those to its tree
one_sibling : (inherited : List Arg) (parent : List ℕ) (tree : Tree) (additions later : List Addition) →
    AreOfTree inherited (Some (joined_name parent tree.node.name)) tree additions later → AreAdditions inherited parent (forest_of (tree ∷ [])) additions later
one_sibling inherited parent tree [] later fit = absurd fit
one_sibling inherited parent tree (addition ∷ additions) later fit = (fit.0, record { left = later; ends = fit.1; begins = refl })

first_sibling : (inherited : List Arg) (parent : List ℕ) (tree : Tree) (rest : List Tree) (additions later : List Addition) →
    AreAdditions inherited parent (forest_of (tree ∷ rest)) additions later →
    Between (λ left. AreOfTree inherited (Some (joined_name parent tree.node.name)) tree additions left) (λ left. AreAdditions inherited parent (forest_of rest) left later)
first_sibling inherited parent tree rest [] later fit = absurd fit
first_sibling inherited parent tree rest (addition ∷ additions) later fit =
    record { left = fit.1.left; ends = (fit.0, fit.1.ends); begins = fit.1.begins }

-- ---- how the list is made

pub AreAfter-none : (inherited : List Arg) (parent : List ℕ) (before : List Addition) → AreAfter inherited parent none before before
AreAfter-none inherited parent before = record { added = []; all = sym (append-nil before); fit = refl }

-- the additions to one more sibling come after those to the others
pub AreAfter-push : (inherited : List Arg) (parent : List ℕ) (trees : List Tree) (tree : Tree) (before between after : List Addition) →
    AreAfter inherited parent (forest_of trees) before between →
    AreOfTreeAfter inherited (Some (joined_name parent tree.node.name)) tree between after →
    AreAfter inherited parent (forest_of (trees ++ tree ∷ [])) before after
AreAfter-push inherited parent trees tree before between after some one = record {
  added = some.added ++ one.added;
  all = one.all ∙ ap (λ all. all ++ one.added) some.all ∙ append_assoc before some.added one.added;
  fit = subst (λ siblings. AreAdditions inherited parent siblings (some.added ++ one.added) []) (sym (forest_of-append trees (tree ∷ [])))
      (AreAdditions-join inherited parent (forest_of trees) (forest_of (tree ∷ [])) (some.added ++ one.added) one.added []
      (AreAdditions-append inherited parent (forest_of trees) some.added [] one.added some.fit)
      (one_sibling inherited parent tree one.added [] one.fit));
}

-- the generated flags among the additions to a command are not propagated
globals-addition : (inherited : List Arg) (bin_name : Option (List ℕ)) (node : Node) (children : Forest) (addition : Addition) →
    IsAddition inherited bin_name node children addition → globals (node.arguments ++ addition.arguments.items) ≡ propagated inherited node
globals-addition inherited bin_name node children addition is =
    ap globals is.arguments ∙ globals-with_missing (given_arguments inherited node) (generated_arguments node) (AreLocal-generated node)

-- the addition to a command comes before those to its children
pub AreOfTreeAfter-of : (inherited : List Arg) (bin_name : Option (List ℕ)) (tree : Tree) (addition : Addition) (before between after : List Addition) (passed : List Arg) (name : List ℕ) →
    IsAddition inherited bin_name tree.node tree.children addition →
    passed ≡ globals (tree.node.arguments ++ addition.arguments.items) →
    name ≡ full_name (record tree.node { bin_name = addition.bin_name }) →
    between ≡ before ++ addition ∷ [] →
    AreAfter passed name tree.children between after →
    AreOfTreeAfter inherited bin_name tree before after
AreOfTreeAfter-of inherited bin_name tree addition before between after passed name own passes named pushed below =
    let full : List ℕ = full_name (record tree.node { bin_name = bin_name }) in
    let is_full : name ≡ full = named ∙ ap (λ bin_name. full_name (record tree.node { bin_name = bin_name })) own.named in
    let is_passed : passed ≡ propagated inherited tree.node = passes ∙ globals-addition inherited bin_name tree.node tree.children addition own in
    record {
      added = addition ∷ below.added;
      all = below.all ∙ ap (λ all. all ++ below.added) pushed ∙ append_assoc before (addition ∷ []) below.added;
      fit = (
        own,
        subst (λ name. AreAdditions (propagated inherited tree.node) name tree.children below.added []) is_full
            (subst (λ passed. AreAdditions passed name tree.children below.added []) is_passed below.fit),
      );
    }

pub forest_of-none : (trees : List Tree) → length trees ≡ 0 → forest_of trees ≡ none
forest_of-none [] empty = refl
forest_of-none (tree ∷ trees) empty = absurd (omega arith)

-- a command without children has one addition
pub AreOfTreeAfter-leaf : (inherited : List Arg) (bin_name : Option (List ℕ)) (tree : Tree) (addition : Addition) (before after : List Addition) →
    IsAddition inherited bin_name tree.node tree.children addition → tree.children ≡ none →
    after ≡ before ++ addition ∷ [] → AreOfTreeAfter inherited bin_name tree before after
AreOfTreeAfter-leaf inherited bin_name tree addition before after own leaf pushed = record {
  added = addition ∷ [];
  all = pushed;
  fit = (own, subst (λ siblings. AreAdditions (propagated inherited tree.node) (full_name (record tree.node { bin_name = bin_name })) siblings [] []) (sym leaf) refl);
}

-- ---- putting the additions in

-- a list in which all items were replaced
pub refilled : {A : Type 0} → (count : ℕ) (old new : List A) → length old ≡ count → length new ≡ count → take count (new ++ drop (length new) old) ≡ new
refilled count old new old_count new_count =
    let same : length new ≡ length old = new_count ∙ sym old_count in
    let over : length old ≤ length new = omega arith in
    let within : length new ≤ count = omega arith in
    ap (λ rest. take count (new ++ rest)) (drop_of_length-le old over) ∙ ap (take count) (append-nil new) ∙ take_all count new within

-- a command with its additions is built if the children were built with theirs
pub IsBuiltBy-of : (tree : Tree) (addition : Addition) (additions left : List Addition) (children : List Tree) →
    AreBuiltBy tree.children additions (forest_of children) left →
    IsBuiltBy tree (addition ∷ additions) (record {
      node = record tree.node {
        bin_name = addition.bin_name;
        arguments = indexed 1 (map filled (tree.node.arguments ++ addition.arguments.items));
        built = true;
      };
      children = forest_of (children ++ addition.children.items);
    }) left
IsBuiltBy-of tree addition additions left children below inherited bin_name later fit =
    let name : List ℕ = full_name (record tree.node { bin_name = bin_name }) in
    let built = below (propagated inherited tree.node) name later fit.1 in
    let node : Node = built_node inherited bin_name tree.node in (
      ap (λ bin_name. let t : Tree = record { node = record tree.node { bin_name = bin_name; arguments = indexed 1 (map filled (tree.node.arguments ++ addition.arguments.items)); built = true }; children = forest_of (children ++ addition.children.items) } in t) fit.0.named ∙
          ap (λ arguments. let t : Tree = record { node = record tree.node { bin_name = bin_name; arguments = indexed 1 (map filled arguments); built = true }; children = forest_of (children ++ addition.children.items) } in t) fit.0.arguments ∙
          ap (λ forest. let t : Tree = record { node = node; children = forest } in t)
          (forest_of-append children addition.children.items ∙ ap (λ forest. join forest (forest_of addition.children.items)) built.0 ∙
          ap (join (built_forest (propagated inherited tree.node) name tree.children)) fit.0.children),
      built.1,
    )

-- the same for a command that was changed field by field
pub IsBuiltBy-fields : (tree : Tree) (list : List Addition) (addition : Addition) (rest left : List Addition) (inside node : Node) (old children grown : List Tree) →
    list ≡ addition ∷ rest →
    (let t : Tree = record { node = inside; children = forest_of old } in t) ≡ tree →
    AreBuiltBy (forest_of old) rest (forest_of children) left →
    node ≡ record inside {
      bin_name = addition.bin_name;
      arguments = indexed 1 (map filled (inside.arguments ++ addition.arguments.items));
      built = true;
    } →
    grown ≡ children ++ addition.children.items →
    IsBuiltBy tree list (record { node = node; children = forest_of grown }) left
IsBuiltBy-fields tree list addition rest left inside node old children grown listed is below finished grows =
    let whole = IsBuiltBy-of (record { node = inside; children = forest_of old }) addition rest left children below in
    subst (λ t. IsBuiltBy t list (record { node = node; children = forest_of grown }) left) is
    (subst (λ all. IsBuiltBy (record { node = inside; children = forest_of old }) all (record { node = node; children = forest_of grown }) left) (sym listed)
    (subst (λ trees. IsBuiltBy (record { node = inside; children = forest_of old }) (addition ∷ rest) (record { node = node; children = forest_of trees }) left) (sym grows)
    (subst (λ n. IsBuiltBy (record { node = inside; children = forest_of old }) (addition ∷ rest) (record { node = n; children = forest_of (children ++ addition.children.items) }) left) (sym finished) whole)))

-- a command that was built by suitable additions can be marked as built
pub stays : (tree : Tree) (additions left : List Addition) (built : Tree) → SuitTree tree additions → IsBuiltBy tree additions built left → built_tree built ≡ built
stays tree additions left built suit by =
    let is = by suit.inherited suit.bin_name suit.later suit.fit in
    ap built_tree is.0 ∙ built_below-again suit.inherited suit.bin_name tree ∙ sym is.0

-- the list has room for the children too
pub children_room : (tree : Tree) (list : List Addition) (addition : Addition) (rest : List Addition) (count : ℕ) → SuitTree tree list → list ≡ addition ∷ rest →
    sibling_count tree.children ≡ count → HasRoom count addition.children
children_room tree list addition rest count suit listed counted =
    let fit : AreOfTree suit.inherited suit.bin_name tree (addition ∷ rest) suit.later =
    subst (λ all. AreOfTree suit.inherited suit.bin_name tree all suit.later) listed suit.fit in
    subst (λ n. HasRoom n addition.children) counted fit.0.children_room

-- the first siblings are built, and the others are left with their additions
abbrev pub IsPutUpTo : Forest → List Addition → List Tree → List Tree → List Addition → Type 0
IsPutUpTo siblings additions done rest left =
    (inherited : List Arg) (parent : List ℕ) (later : List Addition) → AreAdditions inherited parent siblings additions later →
    (join (forest_of done) (built_forest inherited parent (forest_of rest)) ≡ built_forest inherited parent siblings) × AreAdditions inherited parent (forest_of rest) left later

-- one more of the siblings is built
pub IsPutUpTo-push : (siblings : Forest) (additions : List Addition) (done : List Tree) (tree : Tree) (rest : List Tree) (now left : List Addition) (built : Tree) →
    IsPutUpTo siblings additions done (tree ∷ rest) now → IsBuiltBy tree now built left → IsPutUpTo siblings additions (done ++ built ∷ []) rest left
IsPutUpTo-push siblings additions done tree rest now left built put one inherited parent later fit =
    let so_far = put inherited parent later fit in
    let first = first_sibling inherited parent tree rest now later so_far.1 in
    let is = one inherited (Some (joined_name parent tree.node.name)) first.left first.ends in
    let others : Forest = built_forest inherited parent (forest_of rest) in (
      ap (λ forest. join forest others) (forest_of-append done (built ∷ [])) ∙ join_assoc (forest_of done) (forest_of (built ∷ [])) others ∙
          ap (λ (t : Tree). join (forest_of done) (more t.node t.children others)) is.0 ∙ so_far.0,
      subst (λ all. AreAdditions inherited parent (forest_of rest) all later) (sym is.1) first.begins,
    )

-- the same if one item of a list is changed
pub IsPutUpTo-set : (siblings : Forest) (additions : List Addition) (trees : List Tree) (i : ℕ) (tree : Tree) (now left : List Addition) (built : Tree) → i < length trees →
    IsPutUpTo siblings additions (take i trees) (drop i trees) now → IsBuiltBy (get_or trees i tree) now built left →
    IsPutUpTo siblings additions (take (i + 1) (set trees i built)) (drop (i + 1) (set trees i built)) left
IsPutUpTo-set siblings additions trees i tree now left built lt put one =
    let after : i < i + 1 = omega arith in
    let split : drop i trees ≡ get_or trees i tree ∷ drop (i + 1) trees = rw add-one (drop-cons trees i tree lt) in
    let so_far : IsPutUpTo siblings additions (take i trees) (get_or trees i tree ∷ drop (i + 1) trees) now =
    subst (λ rest. IsPutUpTo siblings additions (take i trees) rest now) split put in
    subst (λ done. IsPutUpTo siblings additions done (drop (i + 1) (set trees i built)) left) (sym (take_more_set trees i built lt))
    (subst (λ rest. IsPutUpTo siblings additions (take i trees ++ built ∷ []) rest left) (sym (drop-set-lt (i + 1) trees i built after))
    (IsPutUpTo-push siblings additions (take i trees) (get_or trees i tree) (drop (i + 1) trees) now left built so_far one))

pub IsPutUpTo-all : (siblings : Forest) (additions : List Addition) (trees : List Tree) (count : ℕ) (left : List Addition) → length trees ≤ count →
    IsPutUpTo siblings additions (take count trees) (drop count trees) left → AreBuiltBy siblings additions (forest_of trees) left
IsPutUpTo-all siblings additions trees count left le put inherited parent later fit =
    let over : IsPutUpTo siblings additions trees [] left =
    subst (λ done. IsPutUpTo siblings additions done [] left) (take_all count trees le)
    (subst (λ rest. IsPutUpTo siblings additions (take count trees) rest left) (drop_of_length-le trees le) put) in
    let so_far = over inherited parent later fit in
    (sym (join-none (forest_of trees)) ∙ so_far.0, so_far.1)

-- the list of additions suits the next sibling
pub SuitTree-next : (siblings : Forest) (additions : List Addition) (trees : List Tree) (i : ℕ) (tree : Tree) (now : List Addition) → i < length trees →
    Suit siblings additions → IsPutUpTo siblings additions (take i trees) (drop i trees) now → SuitTree (get_or trees i tree) now
SuitTree-next siblings additions trees i tree now lt suit put =
    let so_far = put suit.inherited suit.parent suit.later suit.fit in
    let split : drop i trees ≡ get_or trees i tree ∷ drop (suc i) trees = drop-cons trees i tree lt in
    let fit : AreAdditions suit.inherited suit.parent (forest_of (get_or trees i tree ∷ drop (suc i) trees)) now suit.later =
    subst (λ rest. AreAdditions suit.inherited suit.parent (forest_of rest) now suit.later) split so_far.1 in
    let first = first_sibling suit.inherited suit.parent (get_or trees i tree) (drop (suc i) trees) now suit.later fit in
    record { inherited = suit.inherited; bin_name = Some (joined_name suit.parent (get_or trees i tree).node.name); later = first.left; fit = first.ends }
