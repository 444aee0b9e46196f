-- The script of a plain and built tree reads back to what the tree offers.
use Rattle.std.proofs.Common.{◌≡◌, ◌≢◌, ℕ, Bool, true, false, cond, IsTrue, List, [], ◌∷◌, ◌++◌, map, flat_map, Option, Some, None, option_map, is_some, Result, Ok, Err, codes, bytes_eq, refl, sym, ◌∙◌, ap, subst, inl, inr, drop}
use Rattle.std.specs.List.{AllByRecursion}
use Rattle.std.proofs.lemmas.Slice.Eq.{bytes_eq-Decides}
use Rattle.std.proofs.lemmas.Bool.{and_parts}
use Rattle.cc_base.specs.Bytes.{underscore}
use Rattle.cc_base.specs.Differ.{AllDifferBy}
use Rattle.cc_base.specs.Sorting.{in_order}
use Rattle.cc_base.proofs.Differing.{AllDifferBy-map, AllDifferBy-finer, AllDifferBy-permutation}
use Rattle.cc_base.proofs.Members.{IsIn, AllByRecursion-IsIn, AllByRecursion-from_IsIn, AllByRecursion-append, AllByRecursion-flat_map, AllByRecursion-weaker, IsIn-append_left, IsIn-append_right, map-IsIn}
use Rattle.cc_base.proofs.Sorted.{in_order-IsIn, AllByRecursion-in_order}
use Rattle.cc_command.specs.declared.node.Node.{Node}
use Rattle.cc_command.specs.Built.{built_tree}
use Rattle.cc_command.specs.Marked.{StaysIfMarked}
use Rattle.cc_base.specs.declared.error.Error.{Error}
use Rattle.cc_base.specs.declared.failures.Failures.{Failures}
use Rattle.cc_base.specs.Writes.{Writes}
use Rattle.cc_generator.proofs.InOrder.{in_order-permutes}
use Rattle.cc_generator.specs.Generators.{Generates, IsReady}
use Rattle.cc_command.specs.Names.{full_name}
use Rattle.cc_command.specs.Plain.{is_plain_tree}
use Rattle.cc_command.specs.Tree.{Forest, none, more, Tree, has_nodes}
use Rattle.cc_command.proofs.PlainParts.{plain_tree}
use Rattle.cc_generator.specs.Visits.{Keyed, keyed, keys_below, longer_path, path_visits, paths_below}
use Rattle.cc_generator.proofs.VisitedPaths.{paths_cover}
use Rattle.cc_zsh.specs.Functions.{Function, entries_of, function_of, functions_below, function_below, is_again, once_after, sorted_functions, tree_functions}
use Rattle.cc_quote.specs.Escapes.{replace_byte}
use Rattle.cc_zsh.specs.Nested.{function_label}
use Rattle.cc_zsh.specs.Reader.{Description, Path, Shown, all_shown, children_of, labelled_entries, shown_of, with_shown, zsh_parts, zsh_shown}
use Rattle.cc_zsh.specs.Reads.{ZshReads, zsh_spec}
use Rattle.cc_zsh.specs.Script.{zsh_script}
use Rattle.cc_zsh.specs.Table.{all_shown_at, description_of, entry_row, shown_at}
use Rattle.cc_zsh.proofs.ArmsRead.{block_at}
use Rattle.cc_zsh.proofs.Labels.{all_stems_differ, label_stem}
use Rattle.cc_zsh.proofs.PlainTree.{named_tree, readable_tree}
use Rattle.cc_zsh.proofs.WholeRead.{parts_read}

-- ---- each name once

abbrev label : Function → List ℕ
label function = function_label function.name

-- if labels differ, no name comes again
again_none : (last : Option (List ℕ)) (name : List ℕ) →
    ((other : List ℕ) → last ≡ Some other → other ≢ name) → is_again last name ≡ false
again_none None name h = refl
again_none (Some last) name h = by_test (bytes_eq last name) refl
  where
    by_test : (b : Bool) → bytes_eq last name ≡ b → b ≡ false
    by_test true e = absurd (h last refl ((bytes_eq-Decides last name).0 e))
    by_test false e = refl

once_same : (last : Option (List ℕ)) (functions : List Function) →
    AllDifferBy label functions →
    ((other : List ℕ) → last ≡ Some other → AllByRecursion (λ f. function_label other ≢ label f) functions) →
    once_after last functions ≡ functions
once_same last [] differ h = refl
once_same last (function ∷ functions) differ h =
    ap (λ b. cond b (once_after last functions) (function ∷ once_after (Some function.name) functions))
    (again_none last function.name (λ other e same. (h other e).0 (ap function_label same)))
    ∙ ap (λ fs. function ∷ fs) (once_same (Some function.name) functions differ.1
    (λ other e. let is : function.name ≡ other = cc in
    subst (λ name. AllByRecursion (λ f. function_label name ≢ label f) functions) is differ.0))

-- ---- the function that is looked up

found_first : (sought : List ℕ) (descriptions : List Description) (description : Description) →
    AllDifferBy (λ d. d.label) descriptions → IsIn descriptions description →
    description.label ≡ sought → labelled_entries sought descriptions ≡ Some description.entries
unfolding labelled_entries
found_first sought [] description differ at e = absurd at
found_first sought (first ∷ rest) description differ (inl same) e =
    ap (λ b. cond b (Some first.entries) (labelled_entries sought rest))
    ((bytes_eq-Decides first.label sought).1 (ap (λ d. d.label) same ∙ e))
    ∙ ap (λ d. Some d.entries) same
found_first sought (first ∷ rest) description differ (inr at) e =
    ap (λ b. cond b (Some first.entries) (labelled_entries sought rest)) (by_test (bytes_eq first.label sought) refl)
    ∙ found_first sought rest description differ.1 at e
  where
    by_test : (b : Bool) → bytes_eq first.label sought ≡ b → b ≡ false
    by_test true is = absurd (AllByRecursion-IsIn (λ d. first.label ≢ d.label) rest description differ.0 at
        ((bytes_eq-Decides first.label sought).0 is ∙ sym e))
    by_test false is = refl

-- ---- each visit's function is in the script

-- the function of a tree is in the list
abbrev HasFunction : List Function → Keyed Path → Type 0
HasFunction functions visit = IsIn functions (function_of visit.tree.node visit.tree.children)

wider : (functions others : List Function) → ((f : Function) → IsIn functions f → IsIn others f) →
    (visits : List (Keyed Path)) → AllByRecursion (HasFunction functions) visits →
    AllByRecursion (HasFunction others) visits
wider functions others into visits h = AllByRecursion-weaker (HasFunction functions) (HasFunction others)
    (λ visit at. into (function_of visit.tree.node visit.tree.children) at) visits h

below_have : (path : Path) (above : Node) (forest : Forest) →
    AllByRecursion (HasFunction (functions_below forest)) (paths_below longer_path path above forest)
unfolding paths_below
below_have path above none = tt
below_have path above (more node below rest) =
    AllByRecursion-append (HasFunction all) (flat_map visits (keys_below longer_path path node))
    (paths_below longer_path path above rest)
    (AllByRecursion-flat_map (HasFunction all) visits (keys_below longer_path path node)
    (AllByRecursion-from_IsIn (λ child. AllByRecursion (HasFunction all) (visits child))
    (keys_below longer_path path node)
    (λ child at. (
      inl refl,
      wider (functions_below below) all
          (λ f k. inr (IsIn-append_left (functions_below below) (functions_below rest) f k))
          (paths_below longer_path child node below) (below_have child node below),
    ))))
    (wider (functions_below rest) all
    (λ f k. inr (IsIn-append_right (functions_below below) (functions_below rest) f k))
    (paths_below longer_path path above rest) (below_have path above rest))
  where
    all : List Function
    all = function_of node below ∷ (functions_below below ++ functions_below rest)

    visits : Path → List (Keyed Path)
    visits child = keyed child above (record { node = node; children = below }) ∷ paths_below longer_path child node below

-- ---- what is offered

one_shown : (descriptions : List Description) (visit : Keyed Path) →
    labelled_entries (underscore ∷ function_label (full_name visit.tree.node)) descriptions
    ≡ Some (map entry_row (entries_of visit.tree.children)) →
    shown_of descriptions (block_at visit) ≡ Some (shown_at visit)
unfolding shown_of children_of
one_shown descriptions visit e = by_children visit.tree.children e
  where
    by_children : (children : Forest) →
        labelled_entries (underscore ∷ function_label (full_name visit.tree.node)) descriptions
        ≡ Some (map entry_row (entries_of children)) →
        option_map (λ entries. let s : Shown = record { path = visit.key; options = (block_at visit).options; children = entries } in s)
        (children_of descriptions (cond (has_nodes children)
        (Some (underscore ∷ function_label (full_name visit.tree.node))) None))
        ≡ Some (record { path = visit.key; options = (block_at visit).options; children = map entry_row (entries_of children) })
    by_children none found = refl
    by_children (more node below rest) found =
        ap (option_map (λ entries. let s : Shown = record { path = visit.key; options = (block_at visit).options; children = entries } in s)) found

visits_shown : (descriptions : List Description) (visits : List (Keyed Path)) →
    AllByRecursion (λ visit. labelled_entries (underscore ∷ function_label (full_name visit.tree.node)) descriptions
    ≡ Some (map entry_row (entries_of visit.tree.children))) visits →
    all_shown descriptions (map block_at visits) ≡ Some (map shown_at visits)
unfolding all_shown
visits_shown descriptions [] h = refl
visits_shown descriptions (visit ∷ visits) (h, hs) =
    ap (λ o. with_shown o (all_shown descriptions (map block_at visits))) (one_shown descriptions visit h)
    ∙ ap (with_shown (Some (shown_at visit))) (visits_shown descriptions visits hs)

-- ---- the theorem

module _ (root : Tree) (plain : IsTrue (is_plain_tree root)) (built : built_tree root ≡ root) where
  abbrev unsorted : List Function
  unsorted = functions_below root.children

  abbrev root_function : Function
  root_function = function_of root.node root.children

  labels_differ : AllDifferBy label (root_function ∷ unsorted)
  labels_differ =
      let below = (plain_tree root plain).below in
      AllDifferBy-finer (λ function. replace_byte 32 (codes "__subcmd__") function.name) label
      (λ function. Unit {0}) (λ f g _ _ same. label_stem f.name g.name same) (root_function ∷ unsorted)
      (AllByRecursion-from_IsIn (λ function. Unit {0}) (root_function ∷ unsorted) (λ f at. tt))
      (all_stems_differ root.node root.children (named_tree root built) below.children below.differ)

  -- the sorted functions are all functions, and no label appears twice
  apart_all : AllDifferBy label (root_function ∷ in_order function_below unsorted)
  apart_all = (
    AllByRecursion-in_order function_below (λ other. label root_function ≢ label other) unsorted labels_differ.0,
    AllDifferBy-permutation label bytes_eq bytes_eq-Decides unsorted
        (in_order function_below unsorted) (in_order-permutes function_below unsorted)
        labels_differ.1,
  )

  once : tree_functions root ≡ root_function ∷ in_order function_below unsorted
  unfolding sorted_functions
  once = ap (λ fs. root_function ∷ fs)
      (once_same None (in_order function_below unsorted) apart_all.1 (λ other e. absurd (let k : None ≡ Some other = e in cc)))

  abbrev functions : List Function
  functions = root_function ∷ in_order function_below unsorted

  descriptions_differ : AllDifferBy (λ d. d.label) (map description_of functions)
  descriptions_differ = AllDifferBy-map (λ d. d.label) description_of functions
      (AllDifferBy-finer label (λ f. underscore ∷ label f) (λ f. Unit {0}) (λ f g _ _ same. ap (drop 1) same) functions
      (AllByRecursion-from_IsIn (λ f. Unit {0}) functions (λ f at. tt)) apart_all)

  visits_have : AllByRecursion (HasFunction functions) (path_visits longer_path [] root)
  visits_have = (
    inl refl,
    wider unsorted functions
        (λ f at. inr (in_order-IsIn function_below unsorted f at))
        (paths_below longer_path [] root.node root.children) (below_have [] root.node root.children),
  )

  nodes_shown : all_shown (map description_of functions) (map block_at (path_visits longer_path [] root))
      ≡ Some (all_shown_at root)
  nodes_shown = visits_shown (map description_of functions) (path_visits longer_path [] root)
      (AllByRecursion-weaker (HasFunction functions)
      (λ visit. labelled_entries (underscore ∷ function_label (full_name visit.tree.node)) (map description_of functions)
      ≡ Some (map entry_row (entries_of visit.tree.children)))
      (λ visit at. found_first (underscore ∷ function_label (full_name visit.tree.node)) (map description_of functions)
      (description_of (function_of visit.tree.node visit.tree.children)) descriptions_differ
      (map-IsIn description_of functions (function_of visit.tree.node visit.tree.children) at) refl)
      (path_visits longer_path [] root) visits_have)

  script_parts : zsh_parts (zsh_script root) ≡ Some (record {
    blocks = map block_at (path_visits longer_path [] root);
    descriptions = map description_of functions;
  })
  script_parts = parts_read root (readable_tree root plain built)
      ∙ ap (λ fs. Some (record { blocks = map block_at (path_visits longer_path [] root); descriptions = map description_of fs })) once

  all_read : zsh_shown (zsh_script root) ≡ Some (all_shown_at root)
  unfolding zsh_shown
  all_read = ap (λ o. elim o as (λ x. Option (List Shown)) [
    | Some parts ↦ all_shown parts.descriptions parts.blocks
    | None ↦ None
  ]) script_parts ∙ nodes_shown

-- the script of a plain and built tree reads back
pub reads_back : (root : Tree) → IsTrue (is_plain_tree root) → built_tree root ≡ root → ZshReads root
reads_back root plain built = record {
  shown = all_read root plain built;
  functions = ap (option_map (λ parts. parts.descriptions)) (parts_read root (readable_tree root plain built));
  covers = paths_cover root plain;
}

-- the same for a tree that is ready, if a tree that is marked as built stays as it is
ready_reads_back : (root : Tree) → StaysIfMarked root → IsReady root → IsTrue (is_plain_tree root) →
    ZshReads root
ready_reads_back root stays ready plain =
    reads_back root plain (stays (and_parts root.node.built (is_some root.node.bin_name) ready).0)

-- the effect of a generator's call that writes the script of such a tree
pub generated : {S : Type 0} (taken : S → List ℕ) (failed : S → Failures) (root at : Tree)
    (result : Result (Unit {0}) Error) (old new : S) → StaysIfMarked root → IsReady root → at ≡ root →
    Writes taken failed result old new (zsh_script at) →
    Generates taken failed zsh_spec root result old new
generated taken failed root at result old new stays ready is writes =
    of result (subst (λ tree. Writes taken failed result old new (zsh_script tree)) is writes)
  where
    of : (r : Result (Unit {0}) Error) → Writes taken failed r old new (zsh_script root) →
        Generates taken failed zsh_spec root r old new
    of (Ok u) w = record { ok = w.ok; begun = tt; reads = ready_reads_back root stays ready; clashes = tt; failures = w.failures }
    of (Err error) w = record { ok = tt; begun = w.begun; reads = tt; clashes = w.kinds; failures = w.failures }
