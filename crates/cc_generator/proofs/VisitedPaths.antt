-- The visits in path order are the visible paths, each with the node to which it leads, and each
-- once.
use Rattle.std.proofs.Common.{◌≡◌, ◌≢◌, ◌↔◌, ℕ, IsTrue, List, [], ◌∷◌, ◌++◌, map, flat_map, Contains, inl, inr, refl, sym, ap, subst, ◌∙◌, append_assoc, append-nil}
use Rattle.std.proofs.lemmas.List.{append_cancel_left}
use Rattle.cc_base.specs.Differ.{AllDifferBy}
use Rattle.cc_base.proofs.Differing.{AllDifferBy-append}
use Rattle.cc_base.proofs.Members.{IsIn, IsIn-from_Contains, Contains-from_IsIn, IsIn-append_left, IsIn-append_right, IsIn-append, IsIn-map, map-IsIn, IsIn-flat_map, flat_map-IsIn, AllByRecursion-IsIn, AllByRecursion-from_IsIn}
use Rattle.cc_command.specs.declared.node.Node.{Node}
use Rattle.cc_command.specs.Tree.{Forest, none, more, Tree, IsSibling}
use Rattle.cc_command.specs.Names.{visible_names}
use Rattle.cc_command.specs.Plain.{is_plain_forest, is_plain_tree, siblings_differ}
use Rattle.cc_command.proofs.PlainParts.{plain_more, plain_tree}
use Rattle.cc_command.proofs.SiblingNames.{AllDiffer-all_differ, first_differs, not_shared}
use Rattle.cc_generator.specs.Paths.{LeadsTo, IsVisiblePath, CoversPaths}
use Rattle.cc_generator.specs.Visits.{Keyed, keyed, keys_below, longer_path, paths_below, path_visits}

abbrev Path : Type 0
Path = List (List ℕ)

-- ---- every visit is a visible path, and every visible path is visited

-- the visit's path continues the path of a node, by names that lead down from one of its children
pub record GoesOn (base : Path) (above : Node) (forest : Forest) (visit : Keyed Path) : Type 0 where
  pub name : List ℕ
  pub names : Path
  pub is : base ++ name ∷ names ≡ visit.key
  pub child : Tree
  pub sibling : IsSibling forest child
  pub named : IsIn (visible_names child.node) name
  pub leads : LeadsTo above child names visit.above visit.tree

-- the visits of a node under one path to it
abbrev pub visits_at : Node → Tree → Path → List (Keyed Path)
visits_at above tree path = keyed path above tree ∷ paths_below longer_path path tree.node tree.children

-- every visit below a path continues it
pub goes_on : (forest : Forest) (base : Path) (above : Node) (visit : Keyed Path) → IsIn (paths_below longer_path base above forest) visit → GoesOn base above forest visit
unfolding paths_below
goes_on none base above visit h = absurd h
goes_on (more node below rest) base above visit h =
    let tree : Tree = record { node = node; children = below } in
    elim (IsIn-append (flat_map (visits_at above tree) (keys_below longer_path base node)) (paths_below longer_path base above rest) visit h) [
      | inl p ↦
          let from = IsIn-flat_map (visits_at above tree) (keys_below longer_path base node) visit p in
          let by = IsIn-map (longer_path base) (visible_names node) from.0 from.1.0 in
          elim from.1.1 [
            | inl e ↦ record {
              name = by.0;
              names = [];
              is = by.1.1 ∙ ap (λ v. v.key) e;
              child = tree;
              sibling = inl refl;
              named = by.1.0;
              leads = (ap (λ v. v.above) e, ap (λ v. v.tree) e);
            }
            | inr q ↦
                let g = goes_on below from.0 node visit q in
                record {
                  name = by.0;
                  names = g.name ∷ g.names;
                  is = sym (append_assoc base (by.0 ∷ []) (g.name ∷ g.names)) ∙ ap (λ path. path ++ g.name ∷ g.names) by.1.1 ∙ g.is;
                  child = tree;
                  sibling = inl refl;
                  named = by.1.0;
                  leads = (g.child, (g.sibling, (Contains-from_IsIn (visible_names g.child.node) g.name g.named, g.leads)));
                }
          ]
      | inr q ↦
          let g = goes_on rest base above visit q in
          record { name = g.name; names = g.names; is = g.is; child = g.child; sibling = inr g.sibling; named = g.named; leads = g.leads }
    ]

-- every path is visited that continues it by names that lead down from the siblings
pub is_visited : (forest : Forest) (base : Path) (above : Node) (name : List ℕ) (names : Path) (child : Tree) (parent : Node) (to : Tree) → IsSibling forest child →
    IsIn (visible_names child.node) name → LeadsTo above child names parent to → IsIn (paths_below longer_path base above forest) (keyed (base ++ name ∷ names) parent to)
unfolding paths_below
is_visited none base above name names child parent to sibling named leads = absurd sibling
is_visited (more node below rest) base above name [] child parent to (inl e) named leads =
    let tree : Tree = record { node = node; children = below } in
    let path : Path = base ++ name ∷ [] in
    IsIn-append_left (flat_map (visits_at above tree) (keys_below longer_path base node)) (paths_below longer_path base above rest) (keyed path parent to)
    (flat_map-IsIn (visits_at above tree) (keys_below longer_path base node) path (keyed path parent to)
    (map-IsIn (longer_path base) (visible_names node) name (subst (λ tree. IsIn (visible_names tree.node) name) (sym e) named))
    (inl (ap (λ above. keyed path above tree) leads.0 ∙ ap (keyed path parent) (e ∙ leads.1))))
is_visited (more node below rest) base above name (next ∷ names) child parent to (inl e) named leads =
    let tree : Tree = record { node = node; children = below } in
    let path : Path = base ++ name ∷ next ∷ names in
    let on : LeadsTo above tree (next ∷ names) parent to = subst (λ tree. LeadsTo above tree (next ∷ names) parent to) (sym e) leads in
    IsIn-append_left (flat_map (visits_at above tree) (keys_below longer_path base node)) (paths_below longer_path base above rest) (keyed path parent to)
    (flat_map-IsIn (visits_at above tree) (keys_below longer_path base node) (base ++ name ∷ []) (keyed path parent to)
    (map-IsIn (longer_path base) (visible_names node) name (subst (λ tree. IsIn (visible_names tree.node) name) (sym e) named))
    (inr (subst (λ path. IsIn (paths_below longer_path (base ++ name ∷ []) node below) (keyed path parent to)) (append_assoc base (name ∷ []) (next ∷ names))
    (is_visited below (base ++ name ∷ []) node next names on.0 parent to on.1.0 (IsIn-from_Contains (visible_names on.0.node) next on.1.1.0) on.1.1.1))))
is_visited (more node below rest) base above name names child parent to (inr sibling) named leads =
    let tree : Tree = record { node = node; children = below } in
    IsIn-append_right (flat_map (visits_at above tree) (keys_below longer_path base node)) (paths_below longer_path base above rest) (keyed (base ++ name ∷ names) parent to)
    (is_visited rest base above name names child parent to sibling named leads)

-- the root's path is empty
leads_to : (tree : Tree) (visit : Keyed Path) → GoesOn [] tree.node tree.children visit → IsVisiblePath tree visit
leads_to tree visit g =
    subst (λ path. LeadsTo tree.node tree path visit.above visit.tree) g.is
    (g.child, (g.sibling, (Contains-from_IsIn (visible_names g.child.node) g.name g.named, g.leads)))

visit_is_path : (tree : Tree) (visit : Keyed Path) → IsIn (path_visits longer_path [] tree) visit → IsVisiblePath tree visit
visit_is_path tree visit (inl e) = subst (IsVisiblePath tree) e (refl, refl)
visit_is_path tree visit (inr h) = leads_to tree visit (goes_on tree.children [] tree.node visit h)

path_is_visited : (tree : Tree) (path : Path) (parent : Node) (to : Tree) → LeadsTo tree.node tree path parent to → IsIn (path_visits longer_path [] tree) (keyed path parent to)
path_is_visited tree [] parent to leads = inl (ap (λ above. keyed [] above tree) leads.0 ∙ ap (keyed [] parent) leads.1)
path_is_visited tree (name ∷ names) parent to leads =
    inr (is_visited tree.children [] tree.node name names leads.0 parent to leads.1.0 (IsIn-from_Contains (visible_names leads.0.node) name leads.1.1.0) leads.1.1.1)

-- the visits in path order are exactly the visible paths, each with the nodes to which it leads
pub visits_are_paths : (tree : Tree) (visit : Keyed Path) → Contains (path_visits longer_path [] tree) visit ↔ IsVisiblePath tree visit
visits_are_paths tree visit = (
  λ h. visit_is_path tree visit (IsIn-from_Contains (path_visits longer_path [] tree) visit h),
  λ leads. Contains-from_IsIn (path_visits longer_path [] tree) visit (path_is_visited tree visit.key visit.above visit.tree leads),
)

-- ---- no path is visited twice

abbrev AllDiffer : List (Keyed Path) → Type 0
AllDiffer visits = AllDifferBy (λ visit. visit.key) visits

-- paths that continue by different names differ
by_other_name : (base : Path) (name next : List ℕ) (names later : Path) → name ≢ next → base ++ name ∷ names ≢ base ++ next ∷ later
by_other_name base name next names later differ e =
    let tails : name ∷ names ≡ next ∷ later = append_cancel_left base (name ∷ names) (next ∷ later) e in
    differ (cc)

-- the path continues the path of the parent, by one of the given names of a node
record GoesBy (base names : Path) (path : Path) : Type 0 where
  pub name : List ℕ
  pub is_given : IsIn names name
  pub later : Path
  pub is : base ++ name ∷ later ≡ path

goes_by : (above : Node) (tree : Tree) (base names : Path) (visit : Keyed Path) → IsIn (flat_map (visits_at above tree) (map (longer_path base) names)) visit → GoesBy base names visit.key
goes_by above tree base names visit h =
    let from = IsIn-flat_map (visits_at above tree) (map (longer_path base) names) visit h in
    let by = IsIn-map (longer_path base) names from.0 from.1.0 in
    elim from.1.1 [
      | inl e ↦ record { name = by.0; is_given = by.1.0; later = []; is = by.1.1 ∙ ap (λ v. v.key) e }
      | inr q ↦
          let g = goes_on tree.children from.0 tree.node visit q in
          record {
            name = by.0;
            is_given = by.1.0;
            later = g.name ∷ g.names;
            is = sym (append_assoc base (by.0 ∷ []) (g.name ∷ g.names)) ∙ ap (λ path. path ++ g.name ∷ g.names) by.1.1 ∙ g.is;
          }
    ]

-- a path, and the paths that continue it
AllDiffer-visits_at : (above : Node) (tree : Tree) (path : Path) → AllDiffer (paths_below longer_path path tree.node tree.children) → AllDiffer (visits_at above tree path)
AllDiffer-visits_at above tree path h = (
  AllByRecursion-from_IsIn (λ other. path ≢ other.key) (paths_below longer_path path tree.node tree.children) (λ other at e.
      let g = goes_on tree.children path tree.node other at in
      let none : [] ≡ g.name ∷ g.names = append_cancel_left path [] (g.name ∷ g.names) (append-nil path ∙ e ∙ sym g.is) in
      cc),
  h,
)

-- a node under paths by its different names
AllDiffer-names : (above : Node) (tree : Tree) (base names : Path) → AllDifferBy (λ name. name) names → ((path : Path) → AllDiffer (visits_at above tree path)) →
    AllDiffer (flat_map (visits_at above tree) (map (longer_path base) names))
AllDiffer-names above tree base [] differ h = tt
AllDiffer-names above tree base (name ∷ names) differ h =
    let path : Path = base ++ name ∷ [] in
    AllDifferBy-append (λ visit. visit.key) (visits_at above tree path) (flat_map (visits_at above tree) (map (longer_path base) names)) (h path) (AllDiffer-names above tree base names differ.1 h)
    (λ x y p q e.
    let one = goes_by above tree base (name ∷ []) x (IsIn-append_left (visits_at above tree path) [] x p) in
    let other = goes_by above tree base names y q in
    let first : name ≡ one.name = elim one.is_given [ inl e ↦ e | inr h ↦ absurd h ] in
    by_other_name base one.name other.name one.later other.later
    (λ same. AllByRecursion-IsIn (λ other. name ≢ other) names other.name differ.0 other.is_given (first ∙ same))
    (one.is ∙ e ∙ sym other.is))

-- below one path
AllDiffer-paths_below : (forest : Forest) (base : Path) (above : Node) → IsTrue (siblings_differ forest) → IsTrue (is_plain_forest forest) → AllDiffer (paths_below longer_path base above forest)
unfolding paths_below
AllDiffer-paths_below none base above differ plain = tt
AllDiffer-paths_below (more node below rest) base above differ plain =
    let tree : Tree = record { node = node; children = below } in
    let names = first_differs node below rest differ in
    let parts = plain_more node below rest plain in
    AllDifferBy-append (λ visit. visit.key) (flat_map (visits_at above tree) (keys_below longer_path base node)) (paths_below longer_path base above rest)
    (AllDiffer-names above tree base (visible_names node) (AllDiffer-all_differ (visible_names node) node.aliases names.names)
    (λ path. AllDiffer-visits_at above tree path (AllDiffer-paths_below below path node parts.first.differ parts.first.children)))
    (AllDiffer-paths_below rest base above names.later parts.later)
    (λ x y at on e.
    let one = goes_by above tree base (visible_names node) x at in
    let other = goes_on rest base above y on in
    by_other_name base one.name other.name one.later other.names
    (λ same. not_shared node rest other.child other.name names.apart (subst (IsIn (visible_names node)) same one.is_given) other.sibling other.named)
    (one.is ∙ e ∙ sym other.is))

-- if siblings differ, no path is visited twice
paths_differ : (tree : Tree) → IsTrue (siblings_differ tree.children) → IsTrue (is_plain_forest tree.children) → AllDiffer (path_visits longer_path [] tree)
paths_differ tree differ plain = AllDiffer-visits_at tree.node tree [] (AllDiffer-paths_below tree.children [] tree.node differ plain)

-- the visits of a plain tree in path order cover its paths
pub paths_cover : (tree : Tree) → IsTrue (is_plain_tree tree) → CoversPaths tree (path_visits longer_path [] tree)
paths_cover tree h =
    let plain = plain_tree tree h in
    record { paths = visits_are_paths tree; once = paths_differ tree plain.below.differ plain.below.children }
