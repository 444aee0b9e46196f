-- The whole script of a plain tree reads back.
use Rattle.std.proofs.Common.{◌≡◌, ℕ, Bool, List, [], ◌∷◌, ◌++◌, IsTrue, refl, ap, ◌∙◌, sym, subst, append_assoc, append-nil, Option, Some, Result, Ok, Err, map, flat_map, codes, not}
use Rattle.std.proofs.lemmas.List.Concat.{flat_map-append}
use Rattle.std.specs.List.{AllByRecursion}
use Rattle.cc_base.specs.declared.error.Error.{Error}
use Rattle.cc_base.specs.declared.failures.Failures.{Failures}
use Rattle.cc_base.specs.Writes.{Writes}
use Rattle.cc_command.specs.ArgumentLists.{options, flags}
use Rattle.cc_command.specs.Names.{full_name, visible_names}
use Rattle.cc_command.specs.Plain.{is_plain_tree}
use Rattle.cc_command.specs.Tree.{Forest, none, more, Tree}
use Rattle.cc_command.proofs.PlainParts.{plain_node, plain_tree, plain_full_name}
use Rattle.cc_generator.specs.Generators.{Generates}
use Rattle.cc_quote.specs.FishTokens.{fish_commands}
use Rattle.cc_generator.specs.Visits.{Keyed, path_visits, path_steps, longer_path, rekeyed, where_entered}
use Rattle.cc_generator.proofs.Entered.{entered_visits}
use Rattle.cc_generator.proofs.PlainVisits.{IsPlainVisit, plain_visits}
use Rattle.cc_generator.proofs.SameVisits.{rekeyed-path_visits}
use Rattle.cc_generator.proofs.VisitedPaths.{paths_cover}
use Rattle.cc_fish.specs.Reads.{FishReads, fish_spec}
use Rattle.cc_fish.specs.Script.{seen_text, excluded_text, fish_key, key_condition, front_text, node_text, visit_text, head_text, body_text, script_text, fish_script}
use Rattle.cc_fish.specs.Table.{function_name, condition_at, has_positionals, option_record, flag_record, child_record, child_records, node_records, table, tables}
use Rattle.cc_fish.specs.Reader.{records}
use Rattle.cc_fish.specs.Records.{Condition, Record, condition_path, record_path}
use Rattle.cc_fish.proofs.Names.{IsName, plain_name, safe_names, children_safe}
use Rattle.cc_fish.proofs.Conditions.{path_condition}
use Rattle.cc_fish.proofs.RecordsRead.{Yields, yields_append, yields_flat_map, path_front, node_yields}
use Rattle.cc_fish.proofs.HeadRead.{head_yields}

-- ---- the script by paths

-- the key of a path
abbrev path_key : List (List ℕ) → List ℕ
path_key [] = []
path_key (first ∷ names) = codes "_using_subcommand " ++ (first ++ flat_map seen_text names)

path_key-longer : (path : List (List ℕ)) (name : List ℕ) → path_key (longer_path path name) ≡ fish_key (path_key path) name
path_key-longer [] name = ap (λ t. codes "_using_subcommand " ++ t) (append-nil name)
path_key-longer (first ∷ names) name =
    let start : List ℕ = codes "_using_subcommand " in
    ap (λ t. start ++ (first ++ t)) (flat_map-append seen_text names (name ∷ []) ∙ ap (λ t. flat_map seen_text names ++ t) (append-nil (seen_text name)))
    ∙ ap (λ t. start ++ t) (sym (append_assoc first (flat_map seen_text names) (seen_text name)))

-- the condition given by the key is the condition given by the path
key_condition-path_key : (bin_name : List ℕ) (path : List (List ℕ)) (children : Forest) → key_condition (function_name bin_name) (path_key path) children ≡ path_condition bin_name path children
unfolding key_condition
key_condition-path_key bin_name [] none = refl
key_condition-path_key bin_name [] (more node below rest) = refl
key_condition-path_key bin_name (first ∷ names) children =
    ap (λ t. Some (codes "__fish_" ++ t))
    (append_assoc (function_name bin_name) (path_key (first ∷ names)) (excluded_text children)
    ∙ ap (λ t. function_name bin_name ++ (codes "_using_subcommand " ++ t)) (append_assoc first (flat_map seen_text names) (excluded_text children)))

-- the records of a path
abbrev path_text : List ℕ → Keyed (List (List ℕ)) → List ℕ
path_text bin_name visit = node_text (path_front bin_name visit.key visit.tree.children) visit.tree

same_text : (bin_name : List ℕ) (visit : Keyed (List (List ℕ))) → visit_text bin_name (function_name bin_name) (rekeyed path_key visit) ≡ path_text bin_name visit
unfolding visit_text
same_text bin_name visit = ap (λ when. node_text (front_text bin_name when) visit.tree) (key_condition-path_key bin_name visit.key visit.tree.children)

same_texts : (bin_name : List ℕ) (visits : List (Keyed (List (List ℕ)))) → flat_map (visit_text bin_name (function_name bin_name)) (map (rekeyed path_key) visits) ≡ flat_map (path_text bin_name) visits
same_texts bin_name [] = refl
same_texts bin_name (visit ∷ visits) =
    ap (λ t. t ++ flat_map (visit_text bin_name (function_name bin_name)) (map (rekeyed path_key) visits)) (same_text bin_name visit)
    ∙ ap (λ t. path_text bin_name visit ++ t) (same_texts bin_name visits)

by_paths : (bin_name : List ℕ) (root : Tree) → body_text bin_name (function_name bin_name) root ≡ flat_map (path_text bin_name) (path_visits longer_path [] root)
unfolding body_text
by_paths bin_name root =
    ap (flat_map (visit_text bin_name (function_name bin_name))) (sym (rekeyed-path_visits longer_path fish_key path_key path_key-longer [] root)) ∙ same_texts bin_name (path_visits longer_path [] root)

-- ---- the reading

visit_yields : (bin_name : List ℕ) → IsName bin_name → (visit : Keyed (List (List ℕ))) → IsPlainVisit visit → Yields (path_text bin_name visit) (table bin_name visit)
visit_yields bin_name named visit is =
    node_yields bin_name visit.key visit.tree (record { command = named; names = safe_names visit.key is.names; excluded = children_safe visit.tree.children is.tree.children }) is.tree

records_read : (root : Tree) → IsTrue (is_plain_tree root) → records (fish_script root) ≡ Some (tables root)
unfolding script_text fish_commands
records_read root h =
    let bin_name : List ℕ = full_name root.node in
    let named : IsName bin_name = plain_name bin_name (plain_full_name root h) in
    let plain = (plain_tree root h).below in
    let visits : List (Keyed (List (List ℕ))) = path_visits longer_path [] root in
    let head : List ℕ = head_text (function_name bin_name) root in
    let text : List ℕ = head ++ flat_map (path_text bin_name) visits in
    let whole : Yields text (tables root) =
    yields_append head (flat_map (path_text bin_name) visits) [] (tables root) (head_yields bin_name root named (plain_node root.node plain.node))
    (yields_flat_map IsPlainVisit (path_text bin_name) (table bin_name) (visit_yields bin_name named) visits (plain_visits root visits h (paths_cover root h))) in
    ap (λ body. records (head ++ body)) (by_paths bin_name root) ∙ ap records (sym (append-nil text)) ∙ whole.read [] ∙ ap Some (append-nil (tables root))

-- ---- each record of a table holds at its path

abbrev HoldAt : List (List ℕ) → List Record → Type 0
HoldAt path reads = AllByRecursion (λ read. record_path read ≡ path) reads

hold_append : (path : List (List ℕ)) (us vs : List Record) → HoldAt path us → HoldAt path vs → HoldAt path (us ++ vs)
hold_append path [] vs h k = k
hold_append path (u ∷ us) vs h k = (h.0, hold_append path us vs h.1 k)

hold_map : {X : Type 0} (path : List (List ℕ)) (read : X → Record) → ((x : X) → record_path (read x) ≡ path) → (xs : List X) → HoldAt path (map read xs)
hold_map path read each [] = tt
hold_map path read each (x ∷ xs) = (each x, hold_map path read each xs)

hold_children : (bin_name : List ℕ) (when : Option Condition) (no_files : Bool) (children : Forest) → HoldAt (condition_path when) (child_records bin_name when no_files children)
hold_children bin_name when no_files none = tt
hold_children bin_name when no_files (more node below rest) =
    hold_append (condition_path when) (map (child_record bin_name when no_files node.about) (visible_names node)) (child_records bin_name when no_files rest)
    (hold_map (condition_path when) (child_record bin_name when no_files node.about) (λ name. refl) (visible_names node)) (hold_children bin_name when no_files rest)

hold_node : (bin_name : List ℕ) (when : Option Condition) (tree : Tree) → HoldAt (condition_path when) (node_records bin_name when tree)
hold_node bin_name when tree =
    let path : List (List ℕ) = condition_path when in
    let of_options : List Record = map (option_record bin_name when) (options tree.node) in
    let of_flags : List Record = map (flag_record bin_name when) (flags tree.node) in
    let of_children : List Record = child_records bin_name when (not (has_positionals tree.node)) tree.children in
    hold_append path (of_options ++ of_flags) of_children
    (hold_append path of_options of_flags (hold_map path (option_record bin_name when) (λ argument. refl) (options tree.node)) (hold_map path (flag_record bin_name when) (λ argument. refl) (flags tree.node)))
    (hold_children bin_name when (not (has_positionals tree.node)) tree.children)

-- a condition has its path
condition_at-path : (bin_name : List ℕ) (path : List (List ℕ)) (children : Forest) → condition_path (condition_at bin_name path children) ≡ path
condition_at-path bin_name [] none = refl
condition_at-path bin_name [] (more node below rest) = refl
condition_at-path bin_name (name ∷ names) children = refl

hold_table : (bin_name : List ℕ) (visit : Keyed (List (List ℕ))) → HoldAt visit.key (table bin_name visit)
hold_table bin_name visit =
    subst (λ path. HoldAt path (table bin_name visit)) (condition_at-path bin_name visit.key visit.tree.children)
    (hold_node bin_name (condition_at bin_name visit.key visit.tree.children) visit.tree)

-- ---- for the code

-- the script of a plain tree reads back to its tables
pub reads_back : (root : Tree) → IsTrue (is_plain_tree root) → FishReads root
reads_back root h = record { tables = records_read root h; covers = paths_cover root h; states = hold_table (full_name root.node) }

-- the records of the nodes that are entered
pub entered_texts : (bin_name function : List ℕ) (root : Tree) → flat_map (where_entered (visit_text bin_name function)) (path_steps fish_key [] root) ≡ body_text bin_name function root
unfolding body_text
entered_texts bin_name function root = entered_visits fish_key (visit_text bin_name function) [] root

-- what the sink takes when the script of the tree is written
pub generated : {S : Type 0} (taken : S → List ℕ) (failed : S → Failures) (root at : Tree) (result : Result (Unit {0}) Error) (old new : S) → at ≡ root
    → Writes taken failed result old new (fish_script at) → Generates taken failed fish_spec root result old new
generated taken failed root at result old new is writes = of result (subst (λ tree. Writes taken failed result old new (fish_script tree)) is writes)
  where
    of : (r : Result (Unit {0}) Error) → Writes taken failed r old new (fish_script root) → Generates taken failed fish_spec root r old new
    of (Ok u) w = record { ok = w.ok; begun = tt; reads = reads_back root; clashes = tt; failures = w.failures }
    of (Err error) w = record { ok = tt; begun = w.begun; reads = tt; clashes = w.kinds; failures = w.failures }
