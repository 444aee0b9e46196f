-- The script and the clash of a tree, as the code computes them.
use Rattle.std.proofs.Common.{◌≡◌, ℕ, List, [], ◌∷◌, ◌++◌, map, flat_map, Option, Some, None, Result, Ok, Err, IfErr, inl, inr, refl, sym, ap, ◌∙◌, subst, append_assoc}
use Rattle.cc_base.specs.declared.error.Error.{Error}
use Rattle.cc_base.specs.declared.error.Error.TheVariants.{Memory, LabelClash}
use Rattle.cc_base.specs.declared.failures.Failures.{Failures}
use Rattle.cc_base.specs.Partly.{partly_self}
use Rattle.cc_base.specs.Sorting.{in_order}
use Rattle.cc_base.specs.Writes.{Writes, IsMemoryOrWrite}
use Rattle.cc_command.specs.Names.{full_name}
use Rattle.cc_command.specs.Tree.{Tree}
use Rattle.cc_generator.specs.Generators.{Generates, ReportsClash}
use Rattle.cc_bash.specs.Arms.{arm_below, arm_of, node_arm, tree_arms}
use Rattle.cc_bash.specs.CaseTable.{case_below, node_cases, tree_cases}
use Rattle.cc_bash.specs.Labels.{Labelled, first_again, labelled_commands, labelled_under, root_label, shared_label}
use Rattle.cc_bash.specs.Nodes.{labelled_of}
use Rattle.cc_bash.specs.Reads.{bash_spec}
use Rattle.cc_bash.specs.Script.{arm_text, script_text, case_text, head_text, tail_text, bash_script}
use Rattle.cc_bash.specs.Texts.{arms_begin}
use Rattle.cc_bash.specs.declared.nodes.LabelledNode.{LabelledNode}
use Rattle.cc_bash.proofs.PlainTable.{bash_plain_reads}

-- the script of a root with the given label and the given nodes below it
abbrev pub script_by : List ℕ → Tree → List Labelled → List ℕ
script_by root tree nodes =
    script_text root (full_name tree.node) (in_order case_below (flat_map node_cases nodes))
    (arm_of root 1 tree ∷ map node_arm (in_order arm_below nodes))

-- the pieces of that script, in the order in which they are written
pub script_pieces : (root bin : List ℕ) (tree : Tree) (lent nodes : List Labelled) →
    bin ≡ full_name tree.node → lent ≡ nodes →
    ((((head_text root ++ flat_map case_text (in_order case_below (flat_map node_cases lent)))
    ++ arms_begin) ++ arm_text (arm_of root 1 tree))
    ++ flat_map arm_text (map node_arm (in_order arm_below nodes))) ++ tail_text root bin
    ≡ script_by root tree nodes
unfolding script_text
script_pieces root bin tree lent nodes is same =
    let one : List ℕ = arm_text (arm_of root 1 tree) in
    let rest : List ℕ = flat_map arm_text (map node_arm (in_order arm_below nodes)) in
    let before : List ℕ = (head_text root
    ++ flat_map case_text (in_order case_below (flat_map node_cases nodes))) ++ arms_begin in
    ap (λ ns. ((((head_text root ++ flat_map case_text
    (in_order case_below (flat_map node_cases ns))) ++ arms_begin) ++ one) ++ rest)
    ++ tail_text root bin) same
    ∙ ap (λ b. ((before ++ one) ++ rest) ++ tail_text root b) is
    ∙ ap (λ t. t ++ tail_text root (full_name tree.node)) (append_assoc before one rest)

-- the nodes of the list are the nodes of the tree
pub nodes_are : (tree at : Tree) (root : List ℕ) (nodes : List LabelledNode) → at ≡ tree →
    root ≡ root_label tree → map labelled_of nodes ≡ labelled_under root 2 at.children →
    map labelled_of nodes ≡ labelled_commands tree
nodes_are tree at root nodes is label are = are ∙ ap (λ t. labelled_under root 2 t.children) is
    ∙ ap (λ l. labelled_under l 2 tree.children) label

script_is : (tree : Tree) (root : List ℕ) (nodes : List LabelledNode) → root ≡ root_label tree →
    map labelled_of nodes ≡ labelled_commands tree →
    script_by root tree (map labelled_of nodes) ≡ bash_script tree
unfolding bash_script tree_cases tree_arms
script_is tree root nodes label are = ap (λ r. script_by r tree (map labelled_of nodes)) label
    ∙ ap (script_by (root_label tree) tree) are

map-label : (nodes : List LabelledNode) →
    map (λ n. n.label) nodes ≡ map (λ n. n.label) (map labelled_of nodes)
map-label [] = refl
map-label (n ∷ nodes) = ap (λ ls. n.label ∷ ls) (map-label nodes)

-- the same for the label that two nodes share
pub clash_is : (tree : Tree) (root : List ℕ) (nodes : List LabelledNode) → root ≡ root_label tree →
    map labelled_of nodes ≡ labelled_commands tree →
    first_again [] (root ∷ map (λ n. n.label) nodes) ≡ shared_label tree
clash_is tree root nodes label are =
    ap (λ ls. first_again [] (root ∷ ls)) (map-label nodes ∙ ap (λ ns. map (λ n. n.label) ns) are)
    ∙ ap (λ r. first_again [] (r ∷ map (λ n. n.label) (labelled_commands tree))) label

-- ---- the effect of the call

module _ {S : Type 0} {taken : S → List ℕ} {failed : S → Failures} where
  -- the call fails with `Memory` before anything is written
  pub generates_memory : (tree : Tree) (sink : S) →
      Generates taken failed bash_spec tree (Err Memory) sink sink
  generates_memory tree sink = record {
    ok = tt;
    begun = partly_self (taken sink) (bash_script tree);
    reads = tt;
    clashes =
        by (shared_label tree);
    failures = refl;
  }
    where
      by : (clash : Option (List ℕ)) → ReportsClash clash (Err Memory) (taken sink) (taken sink)
      by None = tt
      by (Some label) = (inr refl, refl)

  -- two nodes share a label
  pub generates_clash : (tree : Tree) (label : List ℕ) (sink : S) → shared_label tree ≡ Some label →
      Generates taken failed bash_spec tree (Err (LabelClash label)) sink sink
  generates_clash tree label sink e =
      record {
        ok = tt;
        begun = partly_self (taken sink) (bash_script tree);
        reads = tt;
        clashes = by (shared_label tree) e;
        failures = refl;
      }
    where
      by : (clash : Option (List ℕ)) → clash ≡ Some label →
          ReportsClash clash (Err (LabelClash label)) (taken sink) (taken sink)
      by None is = cc
      by (Some other) is = let same : other
          ≡ label = cc in (inl (ap (λ l. Err (LabelClash l)) (sym same)), refl)

  -- no two nodes share a label, and the script is written
  pub generates_script : (tree : Tree) (result : Result (Unit {0}) Error) (old new : S)
      (root : List ℕ) (nodes : List LabelledNode) → root ≡ root_label tree →
      map labelled_of nodes ≡ labelled_commands tree →
      shared_label tree ≡ None → Writes taken failed result old new
      (script_by root tree (map labelled_of nodes)) →
      Generates taken failed bash_spec tree result old new
  generates_script tree result old new root nodes label are clear w =
      let P : List ℕ → Type 0 = λ text. Writes taken failed result old new text in
      of result (subst P (script_is tree root nodes label are) w)
    where
      kinds : (clash : Option (List ℕ)) (r : Result (Unit {0}) Error) → clash ≡ None →
          IfErr r IsMemoryOrWrite → ReportsClash clash r (taken old) (taken new)
      kinds None (Ok u) is k = tt
      kinds None (Err error) is k = k
      kinds (Some _) r is k = cc

      of : (r : Result (Unit {0}) Error) → Writes taken failed r old new (bash_script tree) →
          Generates taken failed bash_spec tree r old new
      of (Ok u) v = record {
        ok = v.ok;
        begun = tt;
        reads =
            λ plain. bash_plain_reads tree clear plain;
        clashes =
            kinds (shared_label tree) (Ok u) clear v.kinds;
        failures = v.failures;
      }
      of (Err error) v = record {
        ok = tt;
        begun = v.begun;
        reads = tt;
        clashes =
            kinds (shared_label tree) (Err error) clear v.kinds;
        failures = v.failures;
      }
