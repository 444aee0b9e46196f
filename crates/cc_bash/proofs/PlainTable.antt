-- The bash script of a plain tree reads back to the tree's cases, and with quiet values also to its
-- arms.
use Rattle.std.proofs.Common.{◌≡◌, ℕ, suc, ◌&&◌, IsTrue, List, [], flat_map, Some, None, ap, ◌∙◌, ◌∷◌, ◌++◌, length, map, refl, sym, subst, Bool, true, false, codes, drop}
use Rattle.std.specs.List.{AllByRecursion}
use Rattle.std.proofs.lemmas.Bool.{and_parts}
use Rattle.std.specs.List.Sorted.{IsPermutation}
use Rattle.std.proofs.lemmas.List.{map-append}
use Rattle.std.proofs.lemmas.List.Sorted.{IsPermutation-cons, IsPermutation-map}
use Rattle.cc_base.specs.Sorting.{in_order}
use Rattle.cc_base.proofs.Members.{AllByRecursion-both, AllByRecursion-weaker, AllByRecursion-append, AllByRecursion-map, AllByRecursion-flat_map}
use Rattle.cc_base.proofs.Sorted.{AllByRecursion-in_order}
use Rattle.cc_command.specs.Names.{full_name, visible_names}
use Rattle.cc_command.specs.Plain.{is_plain_tree, is_plain_forest}
use Rattle.cc_command.specs.Tree.{Forest, none, more, Tree}
use Rattle.cc_command.proofs.PlainParts.{IsPlainName, IsPlainBelow, plain_node, plain_more, plain_tree}
use Rattle.cc_quote.proofs.PosixCutting.{IsKept-IsOther, IsOther, tokens_from, bare_run, double_run}
use Rattle.cc_command.specs.Quiet.{is_quiet_forest, is_quiet_node, is_quiet_tree}
use Rattle.cc_generator.proofs.InOrder.{in_order-permutes}
use Rattle.cc_base.proofs.Lines.{IsLine}
use Rattle.cc_base.proofs.Lines.IsLine.{line}
use Rattle.cc_generator.proofs.ReadInTurn.{in_parts, items_begin}
use Rattle.cc_quote.specs.PosixSigns.{sign, byte_of}
use Rattle.cc_quote.specs.PosixTokens.{cut, posix_tokens, double, between, in_bare}
use Rattle.cc_quote.specs.Tokens.{Token, is_word}
use Rattle.cc_quote.specs.Tokens.Piece.{bare}
use Rattle.cc_bash.specs.Arms.{arm_below, node_arm, tree_arms, Arm, arm_of}
use Rattle.cc_bash.specs.CaseTable.{Case, node_cases, case_below, tree_cases}
use Rattle.cc_bash.specs.Labels.{Labelled, child_label, labelled_commands, labelled_under, labels, root_label, shared_label}
use Rattle.cc_bash.specs.Reader.{bash_cases, bash_table, Table, pattern_of, assigned, is_root, case_by, next, closed_table, read}
use Rattle.cc_bash.specs.Reads.{BashReads, arm_after, path_node_arm}
use Rattle.cc_bash.specs.Script.{bash_script, case_text, arm_text, head_text, tail_text, script_text}
use Rattle.cc_bash.specs.Walk.{all_path_nodes, label_at, path_nodes_below}
use Rattle.cc_bash.specs.Reader.State.{begins, at_root_label, after_root_label, between_cases, after_cases, between_arms, finished}
use Rattle.cc_bash.specs.Texts.{function_begins, function_head, cases_begin, arms_begin, arms_end, unsorted_options, otherwise, sorted_options, script_ends}
use Rattle.cc_bash.proofs.CaseWalk.{arm_at_end, arm_stands, table_ends, table_walks, label_at-more, length-more}
use Rattle.cc_bash.proofs.Clashes.{texts_differ}
use Rattle.cc_bash.proofs.PlainArms.{IsQuietNode, arm_readable, quiet_node}
use Rattle.cc_bash.proofs.PlainBytes.{IsPlainText, bytes_of, child_plain, no_comma_of, no_paren_of, other_of, plain_text, root_plain, word_of}
use Rattle.cc_bash.proofs.ReadsArms.{IsReadableArm, arm_line, arms_read}
use Rattle.cc_bash.proofs.ReadsCases.{IsReadableCase, reading, case_line, cases_read}

-- a table of which only the root's label has been read
abbrev new_table : List ℕ → Table
new_table label = record { root = label; cases = []; arms = [] }

-- ---- the texts around the cases and the arms

module _ (whole : Bool) where
  root_closes : (label rest : List ℕ) → IsLine rest →
      reading whole (after_root_label label) (in_bare [] (codes ";;")) rest
      ≡ reading whole (between_cases (new_table label)) between rest
  unfolding sign cut is_word next read
  root_closes label rest (line tail) = refl

  root_set : (label : List ℕ) → next whole at_root_label (bare (codes "cmd=") ∷ double label ∷ [])
      ≡ after_root_label label
  unfolding next assigned
  root_set label = refl

  -- the text before the cases
  head_reads : (label rest : List ℕ) → IsOther label → IsLine rest →
      reading whole begins between (head_text label ++ rest)
      ≡ reading whole (between_cases (new_table label)) between rest
  unfolding head_text function_begins function_head cases_begin sign byte_of cut is_word is_root next read
  head_reads label rest h l =
      let cases : List ℕ = cases_begin ++ rest in
      ap (reading whole begins between)
      (in_parts function_begins (label ∷ function_head ∷ label ∷ cases_begin ∷ []) rest)
      ∙ ap (read whole begins) (bare_run label (function_head ++ (label ++ cases)) [] (codes "_") h)
      ∙ ap (read whole at_root_label) (double_run label cases (bare (codes "cmd=") ∷ []) []
      (IsKept-IsOther label h))
      ∙ ap (λ s. read whole s (tokens_from (in_bare [] (codes ";;")) rest)) (root_set label)
      ∙ root_closes label rest l

begin_line : (rest : List ℕ) → IsLine (arms_begin ++ rest)
unfolding arms_begin
begin_line rest = line _

tail_line : (label bin : List ℕ) → IsLine (tail_text label bin)
unfolding tail_text arms_end
tail_line label bin = line _

-- a closed table stays the same, whatever follows
read_finished : (table : Table) (tokens : List Token) →
    read true (finished table) tokens ≡ Some table
unfolding read next closed_table
read_finished table [] = refl
read_finished table (token ∷ tokens) = read_finished table tokens

-- the text between the cases and the arms
arms_open : (table : Table) (rest : List ℕ) → IsLine rest →
    reading true (between_cases table) between (arms_begin ++ rest)
    ≡ reading true (between_arms table) between rest
unfolding arms_begin sign byte_of cut is_word pattern_of assigned case_by next read
arms_open table rest (line tail) = refl

-- the text after the arms
tail_reads : (table : Table) (label bin : List ℕ) →
    reading true (between_arms table) between (tail_text label bin) ≡ Some table
unfolding tail_text arms_end sign byte_of cut is_word pattern_of next read
tail_reads table label bin =
    ap (reading true (between_arms table) between)
    (in_parts arms_end
    (label ∷ unsorted_options ∷ bin ∷ otherwise ∷ label ∷ sorted_options ∷ bin ∷ []) script_ends)
    ∙ read_finished table (tokens_from between (drop 10 arms_end
    ++ (label ++ (unsorted_options ++ (bin ++ (otherwise ++ (label ++ (sorted_options ++ (bin ++ script_ends)))))))))

-- a script is read back to its table
pub bash_reads_back : (label bin : List ℕ) (cases : List Case) (arms : List Arm) → IsOther label →
    AllByRecursion IsReadableCase cases → AllByRecursion IsReadableArm arms →
    bash_table (script_text label bin cases arms)
    ≡ Some (record { root = label; cases = cases; arms = arms })
unfolding bash_table script_text posix_tokens
bash_reads_back label bin cases arms h k m =
    let tail : List ℕ = tail_text label bin in
    let armed : List ℕ = flat_map arm_text arms ++ tail in
    ap (reading true begins between) (in_parts (head_text label)
    (flat_map case_text cases ∷ arms_begin ∷ flat_map arm_text arms ∷ []) (tail_text label bin))
    ∙ head_reads true label (flat_map case_text cases ++ (arms_begin ++ armed)) h
    (items_begin IsLine case_text case_line cases (arms_begin ++ armed) (begin_line armed))
    ∙ cases_read true (new_table label) cases (arms_begin ++ armed) k (begin_line armed)
    ∙ arms_open (record { root = label; cases = cases; arms = [] }) armed
    (items_begin IsLine arm_text arm_line arms tail (tail_line label bin))
    ∙ arms_read true (record { root = label; cases = cases; arms = [] }) arms tail m
    (tail_line label bin)
    ∙ tail_reads (record { root = label; cases = cases; arms = arms }) label bin

-- the cases are read, whatever the arms are
read_cases_closed : (table : Table) (tokens : List Token) →
    read false (after_cases table) tokens ≡ Some table
unfolding read next closed_table
read_cases_closed table [] = refl
read_cases_closed table (token ∷ tokens) = read_cases_closed table tokens

-- the first `esac` closes the cases
cases_close : (table : Table) (rest : List ℕ) →
    reading false (between_cases table) between (arms_begin ++ rest) ≡ Some table
unfolding arms_begin sign byte_of cut is_word pattern_of assigned case_by next read
cases_close table rest = read_cases_closed table (tokens_from between (drop 48 arms_begin ++ rest))

pub bash_cases_back : (label bin : List ℕ) (cases : List Case) (arms : List Arm) → IsOther label →
    AllByRecursion IsReadableCase cases →
    bash_cases (script_text label bin cases arms)
    ≡ Some (record { root = label; cases = cases; arms = [] })
unfolding bash_cases script_text posix_tokens
bash_cases_back label bin cases arms h k =
    let armed : List ℕ = flat_map arm_text arms ++ tail_text label bin in
    ap (reading false begins between) (in_parts (head_text label)
    (flat_map case_text cases ∷ arms_begin ∷ flat_map arm_text arms ∷ []) (tail_text label bin))
    ∙ head_reads false label (flat_map case_text cases ++ (arms_begin ++ armed)) h
    (items_begin IsLine case_text case_line cases (arms_begin ++ armed) (begin_line armed))
    ∙ cases_read false (new_table label) cases (arms_begin ++ armed) k (begin_line armed)
    ∙ cases_close (record { root = label; cases = cases; arms = [] }) armed

-- ---- the nodes with their labels are the nodes with their paths

arms_below : (tree : Tree) (path : List (List ℕ)) (label : List ℕ) (level : ℕ) (forest : Forest) →
    label ≡ label_at (root_label tree) path → level ≡ suc (suc (length path)) →
    map node_arm (labelled_under label level forest)
    ≡ map (path_node_arm tree) (path_nodes_below path forest)
arms_below tree path label level none at deep = refl
arms_below tree path label level (more node below rest) at deep =
    let root : List ℕ = root_label tree in
    let own : List (List ℕ) = path ++ node.name ∷ [] in
    let here : Tree = record { node = node; children = below } in
    let named : child_label label node.name ≡ label_at root own =
    ap (λ l. child_label l node.name) at ∙ sym (label_at-more root path node.name) in
    let deeper : level ≡ suc (length own) =
    deep ∙ ap (λ k. suc k) (length-more path node.name) in
    let one : arm_of (child_label label node.name) level here
    ≡ arm_of (label_at root own) (suc (length own)) here =
    ap (λ l. arm_of l level here) named ∙ ap (λ k. arm_of (label_at root own) k here) deeper in
    let inner = arms_below tree own (child_label label node.name) (suc level) below named
    (ap (λ k. suc k) deeper) in
    let later = arms_below tree path label level rest at deep in
    ap (λ arm. arm ∷ map node_arm (labelled_under (child_label label node.name) (suc level) below
    ++ labelled_under label level rest)) one
    ∙ ap (λ arms. path_node_arm tree (record { path = own; tree = here }) ∷ arms)
    (map-append node_arm (labelled_under (child_label label node.name) (suc level) below)
    (labelled_under label level rest)
    ∙ ap (λ arms. arms ++ map node_arm (labelled_under label level rest)) inner
    ∙ ap (λ arms. map (path_node_arm tree) (path_nodes_below own below) ++ arms) later
    ∙ sym (map-append (path_node_arm tree) (path_nodes_below own below)
    (path_nodes_below path rest)))

-- the arms of a tree are those of its nodes, in another order
pub arms_of_path_nodes : (tree : Tree) →
    IsPermutation (map (path_node_arm tree) (all_path_nodes tree)) (tree_arms tree)
unfolding tree_arms
arms_of_path_nodes tree =
    let sorted : List Arm = map node_arm (in_order arm_below (labelled_commands tree)) in
    IsPermutation-cons (arm_of (root_label tree) 1 tree)
    (map (path_node_arm tree) (path_nodes_below [] tree.children)) sorted
    (subst (λ arms. IsPermutation arms sorted)
    (arms_below tree [] (root_label tree) 2 tree.children refl refl)
    (IsPermutation-map node_arm (labelled_commands tree) (in_order arm_below (labelled_commands tree))
    (in_order-permutes arm_below (labelled_commands tree))))

-- a labelled node of a plain tree
record IsPlainLabelled (node : Labelled) : Type 0 where
  pub parent : IsPlainText node.parent
  pub label : IsPlainText node.label
  pub tree : IsPlainBelow node.tree

plain_labelled : (label : List ℕ) (level : ℕ) (forest : Forest) → IsPlainText label →
    IsTrue (is_plain_forest forest) → AllByRecursion IsPlainLabelled
    (labelled_under label level forest)
plain_labelled label level none h k = tt
plain_labelled label level (more node below rest) h k =
    let plain = plain_more node below rest k in
    let name : IsPlainText node.name =
    plain_text node.name (plain_node node plain.first.node).names.0 in
    let own : IsPlainText (child_label label node.name) = child_plain label node.name h name in (
      record { parent = h; label = own; tree = plain.first },
      AllByRecursion-append IsPlainLabelled
          (labelled_under (child_label label node.name) (suc level) below)
          (labelled_under label level rest)
          (plain_labelled (child_label label node.name) (suc level) below own plain.first.children)
          (plain_labelled label level rest h plain.later),
    )

all_plain : (tree : Tree) → IsTrue (is_plain_tree tree) →
    AllByRecursion IsPlainLabelled (labelled_commands tree)
all_plain tree h = plain_labelled (root_label tree) 2 tree.children (root_plain tree h)
    (plain_tree tree h).below.children

-- ---- cases

case_readable : (node : Labelled) → IsPlainLabelled node → (name : List ℕ) → IsPlainName name →
    IsReadableCase (record { from = node.parent; word = name; to = node.label })
case_readable node h name k =
    let word = bytes_of name (plain_text name k) in
    record {
      from = word_of node.parent h.parent;
      from_no_paren = no_paren_of node.parent (bytes_of node.parent h.parent);
      from_no_comma = no_comma_of node.parent (bytes_of node.parent h.parent);
      word = other_of name word;
      word_no_paren = no_paren_of name word;
      to = IsKept-IsOther node.label (other_of node.label (bytes_of node.label h.label));
    }

node_cases_readable : (node : Labelled) → IsPlainLabelled node →
    AllByRecursion IsReadableCase (node_cases node)
node_cases_readable node h =
    AllByRecursion-map IsReadableCase (λ name. let c : Case =
    record { from = node.parent; word = name; to = node.label } in c)
    (visible_names node.tree.node)
    (AllByRecursion-weaker IsPlainName
    (λ name. IsReadableCase (record { from = node.parent; word = name; to = node.label }))
    (case_readable node h)
    (visible_names node.tree.node) (plain_node node.tree.node h.tree.node).names)

cases_readable : (tree : Tree) → IsTrue (is_plain_tree tree) →
    AllByRecursion IsReadableCase (tree_cases tree)
unfolding tree_cases
cases_readable tree h =
    AllByRecursion-in_order case_below IsReadableCase (flat_map node_cases (labelled_commands tree))
    (AllByRecursion-flat_map IsReadableCase node_cases (labelled_commands tree)
    (AllByRecursion-weaker IsPlainLabelled (λ node. AllByRecursion IsReadableCase (node_cases node))
    node_cases_readable (labelled_commands tree) (all_plain tree h)))

-- ---- arms

quiet_labelled : (label : List ℕ) (level : ℕ) (forest : Forest) → IsTrue (is_quiet_forest forest) →
    AllByRecursion (λ node. IsQuietNode node.tree.node) (labelled_under label level forest)
quiet_labelled label level none h = tt
quiet_labelled label level (more node below rest) h =
    let a = and_parts (is_quiet_node node) (is_quiet_forest below && is_quiet_forest rest) h in
    let b = and_parts (is_quiet_forest below) (is_quiet_forest rest) a.1 in (
      quiet_node node a.0,
      AllByRecursion-append (λ n. IsQuietNode n.tree.node)
          (labelled_under (child_label label node.name) (suc level) below)
          (labelled_under label level rest)
          (quiet_labelled (child_label label node.name) (suc level) below b.0)
          (quiet_labelled label level rest b.1),
    )

arms_readable : (tree : Tree) → IsTrue (is_plain_tree tree) → IsTrue (is_quiet_tree tree) →
    AllByRecursion IsReadableArm (tree_arms tree)
unfolding tree_arms
arms_readable tree h quiet =
    let q = and_parts (is_quiet_node tree.node) (is_quiet_forest tree.children) quiet in
    let both = λ (node : Labelled). IsPlainLabelled node × IsQuietNode node.tree.node in (
      arm_readable (root_label tree) 1 tree (root_plain tree h) (plain_tree tree h).below
          (quiet_node tree.node q.0),
      AllByRecursion-map IsReadableArm node_arm (in_order arm_below (labelled_commands tree))
          (AllByRecursion-weaker both (λ node. IsReadableArm (node_arm node))
          (λ node k. arm_readable node.label node.level node.tree k.0.label k.0.tree k.1)
          (in_order arm_below (labelled_commands tree)) (AllByRecursion-in_order arm_below both (labelled_commands tree)
          (AllByRecursion-both IsPlainLabelled (λ node. IsQuietNode node.tree.node) (labelled_commands tree)
          (all_plain tree h) (quiet_labelled (root_label tree) 2 tree.children q.1)))),
    )

-- ---- the script

table_back : (tree : Tree) → IsTrue (is_plain_tree tree) → IsTrue (is_quiet_tree tree) →
    bash_table (bash_script tree) ≡ Some
    (record { root = root_label tree; cases = tree_cases tree; arms = tree_arms tree })
unfolding bash_script
table_back tree h quiet =
    bash_reads_back (root_label tree) (full_name tree.node) (tree_cases tree) (tree_arms tree)
    (other_of (root_label tree) (bytes_of (root_label tree) (root_plain tree h)))
    (cases_readable tree h) (arms_readable tree h quiet)

cases_back : (tree : Tree) → IsTrue (is_plain_tree tree) →
    bash_cases (bash_script tree) ≡ Some
    (record { root = root_label tree; cases = tree_cases tree; arms = [] })
unfolding bash_script
cases_back tree h =
    bash_cases_back (root_label tree) (full_name tree.node) (tree_cases tree) (tree_arms tree)
    (other_of (root_label tree) (bytes_of (root_label tree) (root_plain tree h)))
    (cases_readable tree h)

-- the script of a plain tree without a clash reads back
pub bash_plain_reads : (tree : Tree) → shared_label tree ≡ None → IsTrue (is_plain_tree tree) →
    BashReads tree
bash_plain_reads tree clear h = record {
  cases = cases_back tree h;
  table = table_back tree h;
  walks = table_walks tree h clear;
  ends = table_ends tree h clear;
  each_arm = arms_of_path_nodes tree;
  arms = arm_stands tree clear;
  reached = λ quiet words. ap (λ table. arm_after table words) (table_back tree h quiet)
      ∙ arm_at_end tree h clear words;
  one_label = texts_differ [] (labels tree) clear;
}
