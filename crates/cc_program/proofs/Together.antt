-- The effects of a call that writes the bash script and then completes a word.
use Rattle.std.proofs.Common.{◌≡◌, ◌∙◌, ap, sym, subst, inl, inr, ℕ, List, ◌++◌, Some, Result, Ok, Err, IfErr, IfOk, IsTrue, OnOk, refl, [], ◌∷◌, Option, None, suc, Bool, true, false, cond, ◌||◌, ◌&&◌}
use Rattle.std.specs.Prelude.{unwrap_or, ⊤}
use Rattle.std.proofs.lemmas.Bool.{and_from, and_parts}
use Rattle.std.proofs.lemmas.List.{append-nil}
use Rattle.cc_base.specs.declared.error.Error.{Error}
use Rattle.cc_base.specs.declared.error.Error.TheVariants as error
use Rattle.cc_base.specs.declared.failures.Failures.{Failures}
use Rattle.cc_base.specs.Partly.{partly, partly_self}
use Rattle.cc_base.specs.Writes.{CountsWrite}
use Rattle.cc_bash.specs.Reads.{BashReads, arm_at}
use Rattle.cc_bash.specs.Script.{bash_script}
use Rattle.cc_candidates.specs.declared.candidate.CompletionCandidate.{CompletionCandidate}
use Rattle.cc_command.specs.Built.{built_tree, built_under, built_forest, built_node, propagated}
use Rattle.cc_command.specs.Plain.{is_plain_tree}
use Rattle.cc_base.specs.PlainName.{is_plain_name}
use Rattle.cc_command.specs.Tree.{Tree, Forest, none, more, join}
use Rattle.cc_command.proofs.BuiltAgain.{built_tree-again}
use Rattle.cc_base.proofs.WrittenTexts.{part_later}
use Rattle.cc_engine.specs.Completion.{Completes, Refuses, words_before}
use Rattle.cc_engine.specs.Values.{MayReturn}
use Rattle.cc_engine.specs.Visible.{HasNoHiddenAlias, visible_end, has_no_hidden_alias, shows}
use Rattle.cc_command.specs.Names.{visible_child, contains_name, find_child, full_name, has_name, joined_name, visible_names}
use Rattle.cc_bash.specs.Arms.{tree_arms}
use Rattle.cc_bash.specs.Walk.{PathNode, next_path_node, root_path_node, walk}
use Rattle.cc_arg.specs.declared.parts.ArgParts.{ArgParts as Arg}
use Rattle.cc_command.specs.declared.node.Node.{Node}
use Rattle.cc_command.specs.Generated.{copies, help_child, help_command, needs_help_child}
use Rattle.cc_command.specs.Texts.{help_name}
use Rattle.cc_program.specs.BashAgreement.{AgreesWithBash, ArePlain, FailsBefore, BashLeadsTo}

-- ---- what is generated

-- no node has a hidden alias
abbrev HasNone : Forest → Type 0
HasNone none = ⊤
HasNone (more node below rest) = (node.aliases ≡ []) × HasNone below × HasNone rest

none_join : (one other : Forest) → HasNone one → HasNone other → HasNone (join one other)
none_join none other h k = k
none_join (more node below rest) other h k = (h.0, h.1, none_join rest other h.2 k)

none_copies : (parent : List ℕ) (order : ℕ) (forest : Forest) → HasNone (copies parent order forest)
none_copies parent order none = tt
none_copies parent order (more node below rest) =
    (refl, none_copies (joined_name parent node.name) 0 below, none_copies parent (suc order) rest)

-- the children of the generated `help`
abbrev helped : List ℕ → Forest → Forest
helped parent children =
    join (copies (joined_name parent help_name) 0 children)
    (help_command (joined_name parent help_name) none)

none_helped : (parent : List ℕ) (children : Forest) → HasNone (helped parent children)
none_helped parent children =
    none_join (copies (joined_name parent help_name) 0 children)
    (help_command (joined_name parent help_name) none)
    (none_copies (joined_name parent help_name) 0 children) (refl, tt, tt)

none_help_child : (parent : List ℕ) (node : Node) (children : Forest)
    → HasNone (help_child parent node children)
none_help_child parent node children =
    elim (needs_help_child node children) as (λ b.
    HasNone (cond b (help_command parent (helped parent children)) none)) [
      | true ↦ (refl, none_helped parent children, tt)
      | false ↦ tt
    ]

-- ---- words below such nodes

abbrev HasNoneBelow : Option Tree → Type 0
HasNoneBelow None = ⊤
HasNoneBelow (Some child) = HasNone child.children

found_below : (forest : Forest) (word : List ℕ) → HasNone forest → HasNoneBelow (find_child forest word)
found_below none word h = tt
found_below (more node below rest) word h =
    elim (has_name node word) as (λ b.
    HasNoneBelow (cond b (Some (record { node = node; children = below })) (find_child rest word))) [
      | true ↦ h.1
      | false ↦ found_below rest word h.2
    ]

found_shown : (forest : Forest) (word : List ℕ) → HasNone forest → shows (find_child forest word) word ≡ true
found_shown none word h = refl
found_shown (more node below rest) word h =
    by_names (contains_name (visible_names node) word) (contains_name node.aliases word) refl
    (ap (λ names. contains_name names word) h.0) (found_shown rest word h.2)
  where
    by_names : (shown hidden : Bool) → contains_name (visible_names node) word ≡ shown → hidden ≡ false
        → shows (find_child rest word) word ≡ true
        → shows (cond (shown || hidden) (Some (record { node = node; children = below })) (find_child rest word)) word ≡ true
    by_names true hidden is e later = is
    by_names false true is e later = cc
    by_names false false is e later = later

none_hidden : (words : List (List ℕ)) (tree : Tree) → HasNone tree.children → HasNoHiddenAlias tree words
none_hidden [] tree h = refl
none_hidden (word ∷ words) tree h =
    and_from (shows (find_child tree.children word) word)
    (has_no_hidden_alias (unwrap_or (find_child tree.children word) tree) words)
    (found_shown tree.children word h)
    (by_child (find_child tree.children word) (found_below tree.children word h) (none_hidden words))
  where
    by_child : (o : Option Tree) → HasNoneBelow o
        → ((later : Tree) → HasNone later.children → HasNoHiddenAlias later words)
        → HasNoHiddenAlias (unwrap_or o tree) words
    by_child None k later = later tree h
    by_child (Some child) k later = later child k

-- ---- a tree and the tree built from it

-- the children are those of the tree, built, and more that have no hidden aliases
record IsBuiltOf (tree built : Tree) : Type 0 where
  inherited : List Arg
  parent : List ℕ
  added : Forest
  without : HasNone added
  is : built.children ≡ join (built_forest inherited parent tree.children) added

-- the child that a word finds in a tree, and in the tree built from it
abbrev AreFound : List ℕ → Option Tree → Option Tree → Type 0
AreFound word None built = (shows built word ≡ true) × HasNoneBelow built
AreFound word (Some child) None = ⊥
AreFound word (Some child) (Some built) =
    (visible_names built.node ≡ visible_names child.node) × IsBuiltOf child built

are_found : (inherited : List Arg) (parent : List ℕ) (added forest : Forest) (word : List ℕ) → HasNone added
    → AreFound word (find_child forest word) (find_child (join (built_forest inherited parent forest) added) word)
are_found inherited parent added none word h = (found_shown added word h, found_below added word h)
are_found inherited parent added (more node below rest) word h =
    let name : List ℕ = joined_name parent node.name in
    let help : Forest = help_child name node below in
    let built : Forest = join (built_forest (propagated inherited node) name below) help in
    elim (has_name node word) as (λ b. AreFound word
    (cond b (Some (record { node = node; children = below })) (find_child rest word))
    (cond b (Some (record { node = built_node inherited (Some name) node; children = built }))
    (find_child (join (built_forest inherited parent rest) added) word))) [
      | true ↦ (
        refl,
        record {
          inherited = propagated inherited node;
          parent = name;
          added = help;
          without = none_help_child name node below;
          is = refl;
        },
      )
      | false ↦ are_found inherited parent added rest word h
    ]

none_in_built : (words : List (List ℕ)) (tree built : Tree) → IsBuiltOf tree built
    → HasNoHiddenAlias tree words → HasNoHiddenAlias built words
none_in_built [] tree built of e = refl
none_in_built (word ∷ words) tree built of e =
    let found : Option Tree = find_child tree.children word in
    let parts = and_parts (shows found word) (has_no_hidden_alias (unwrap_or found tree) words) e in
    by_child found (find_child built.children word)
    (subst (λ (forest : Forest). AreFound word found (find_child forest word)) (sym of.is)
    (are_found of.inherited of.parent of.added tree.children word of.without))
    parts.0 parts.1 (none_in_built words)
  where
    by_child : (one other : Option Tree) → AreFound word one other → shows one word ≡ true
        → HasNoHiddenAlias (unwrap_or one tree) words
        → ((later after : Tree) → IsBuiltOf later after → HasNoHiddenAlias later words → HasNoHiddenAlias after words)
        → (shows other word && has_no_hidden_alias (unwrap_or other built) words) ≡ true
    by_child None None found shown e later = later tree built of e
    by_child None (Some child) found shown e later =
        and_from (shows (Some child) word) (has_no_hidden_alias child words) found.0 (none_hidden words child found.1)
    by_child (Some child) None found shown e later = absurd found
    by_child (Some child) (Some other) found shown e later =
        and_from (shows (Some other) word) (has_no_hidden_alias other words)
        (ap (λ names. contains_name names word) found.0 ∙ shown) (later child other found.1 e)

pub none_when_built : (bin_name : Option (List ℕ)) (tree : Tree) (words : List (List ℕ))
    → HasNoHiddenAlias tree words → HasNoHiddenAlias (built_under bin_name tree) words
none_when_built bin_name tree words =
    let name : List ℕ = full_name (record tree.node { bin_name = bin_name }) in
    none_in_built words tree (built_under bin_name tree) (record {
      inherited = propagated [] tree.node;
      parent = name;
      added = help_child name tree.node tree.children;
      without = none_help_child name tree.node tree.children;
      is = refl;
    })

-- The node to which visible names lead.
next_tree : (here : PathNode) (o : Option Tree) →
    (let next : PathNode = elim o [
      | Some child ↦ record { path = here.path ++ child.node.name ∷ []; tree = child }
      | None ↦ here
    ] in next.tree) ≡ unwrap_or o here.tree
next_tree here None = refl
next_tree here (Some child) = refl

pub walk_tree : (words : List (List ℕ)) (here : PathNode)
    → (walk here words).tree ≡ visible_end here.tree words
walk_tree [] here = refl
walk_tree (word ∷ words) here =
    walk_tree words (next_path_node here word)
    ∙ ap (λ tree. visible_end tree words) (next_tree here (visible_child here.tree.children word))

pub leads : (root tree : Tree) (words : List (List ℕ)) → BashReads root → tree ≡ visible_end root words → BashLeadsTo root words tree
leads root tree words reads end = record {
  label = reads.ends words;
  node = walk_tree words (root_path_node root) ∙ sym end;
  arm = ap (arm_at (tree_arms root)) (reads.ends words) ∙ reads.arms words;
}

-- one tree, whose script reads back
agrees : (sources : MayReturn) (root : Tree) (words : List (List ℕ)) (index : ℕ)
    (found : List CompletionCandidate) → BashReads root
    → HasNoHiddenAlias root (words_before root.node words index)
    → Completes sources root words index found → AgreesWithBash sources root words index found
agrees sources root words index found reads no_alias completes = record {
  tree = completes.tree;
  state = completes.state;
  leads = completes.leads;
  only = completes.only;
  offers = completes.offers;
  reads = reads;
  bash_leads = leads root completes.tree (words_before root.node words index) reads
      (completes.visible no_alias);
}

-- the tree after both calls is the one after the first
pub stays_built : (bin_name : List ℕ) (old mid new : Tree) → mid ≡ built_under (Some bin_name) old
    → new ≡ built_tree mid → new ≡ built_under (Some bin_name) old
stays_built bin_name old mid new made again =
    again ∙ ap built_tree made ∙ built_tree-again (Some bin_name) old

pub all_built : {A : Type 0} (bin_name : List ℕ) (old mid new : Tree) (result : Result A Error)
    → mid ≡ built_under (Some bin_name) old → OnOk result (new ≡ built_tree mid)
    → OnOk result (new ≡ built_under (Some bin_name) old)
all_built bin_name old mid new (Ok found) made again = stays_built bin_name old mid new made again
all_built bin_name old mid new (Err e) made again = tt

-- the sink holds the script of that tree
pub all_written : {A : Type 0} (bin_name taken_old taken_new : List ℕ) (old mid new : Tree)
    (result : Result A Error) → mid ≡ built_under (Some bin_name) old
    → OnOk result (new ≡ built_tree mid)
    → taken_new ≡ taken_old ++ bash_script (built_under (Some bin_name) old)
    → OnOk result (taken_new ≡ taken_old ++ bash_script new)
all_written bin_name taken_old taken_new old mid new (Ok found) made again written =
    written
    ∙ ap (λ tree. taken_old ++ bash_script tree) (sym (stays_built bin_name old mid new made again))
all_written bin_name taken_old taken_new old mid new (Err e) made again written = tt

pub all_agree : {A : Type 0} (items : A → List CompletionCandidate) (sources : MayReturn) (bin_name : List ℕ)
    (old mid new : Tree) (words : List (List ℕ)) (index : ℕ) (result : Result A Error)
    → mid ≡ built_under (Some bin_name) old → OnOk result (new ≡ built_tree mid)
    → (IsTrue (is_plain_tree old) → IsTrue (is_plain_name bin_name)
    → BashReads (built_under (Some bin_name) old))
    → IfOk result (λ found. Completes sources new words index (items found))
    → IfOk result (λ found. ArePlain old bin_name words index
    → AgreesWithBash sources new words index (items found))
all_agree items sources bin_name old mid new words index (Ok found) made again reads completes =
    let is : built_under (Some bin_name) old ≡ new = sym (stays_built bin_name old mid new made again) in
    λ plain. agrees sources new words index (items found) (subst BashReads is (reads plain.tree plain.name))
    (subst (λ (tree : Tree). HasNoHiddenAlias tree (words_before tree.node words index)) is
    (none_when_built (Some bin_name) old (words_before old.node words index) plain.visible))
    completes
all_agree items sources bin_name old mid new words index (Err e) made again reads completes = tt

-- the whole text is a beginning of it
whole_begun : (old new text : List ℕ) → new ≡ old ++ text → partly new old text ≡ true
whole_begun old new text is =
    subst (λ t. partly new old t ≡ true) (append-nil text)
    (part_later old new new text [] is (partly_self new []))

-- the errors of a second call that finds no candidates
pub second_fails : {A : Type 0} (bin_name taken_old taken_new : List ℕ) (old mid new : Tree)
    (count index : ℕ) (result : Result A Error) → mid ≡ built_under (Some bin_name) old
    → taken_new ≡ taken_old ++ bash_script (built_under (Some bin_name) old)
    → IfErr result (Refuses mid new count index)
    → IfErr result
    (FailsBefore old new (built_under (Some bin_name) old) taken_old taken_new count index)
second_fails bin_name taken_old taken_new old mid new count index (Ok found) made written refuses =
    tt
second_fails bin_name taken_old taken_new old mid new count index (Err error.Memory) made written
    (inl same) = inr (same ∙ made, whole_begun _ _ _ written)
second_fails bin_name taken_old taken_new old mid new count index (Err error.Memory) made written
    (inr again) = inr (stays_built bin_name old mid new made again, whole_begun _ _ _ written)
second_fails bin_name taken_old taken_new old mid new count index (Err error.NoCompletion) made
    written refuses = (stays_built bin_name old mid new made refuses.0, refuses.1, written)
second_fails bin_name taken_old taken_new old mid new count index (Err _) made written refuses =
    absurd refuses

-- a second call that writes nothing, and so has no failed write
pub second_counts : {A : Type 0} (mid new : Tree) (count index : ℕ) (before after : Failures)
    (result : Result A Error) → after ≡ before → IfErr result (Refuses mid new count index)
    → CountsWrite result before after
second_counts mid new count index before after (Ok found) same refuses = same
second_counts mid new count index before after (Err (error.Write kind)) same refuses =
    absurd refuses
second_counts mid new count index before after (Err _) same refuses = same
