-- The division into blocks and the machine agree on the whole list of words.
use Rattle.std.proofs.Common.{◌≡◌, ℕ, List, [], false, refl, ap, ◌∙◌, sym, subst, ◌∷◌, Bool, true, cond, ◌||◌, Option, Some, None}
use Rattle.std.specs.Prelude.{unwrap_or, codes}
use Rattle.std.proofs.lemmas.Bool.{and_parts}
use Rattle.std.proofs.lemmas.List.Elements.{All-nil, All-cons}
use Rattle.cc_command.specs.Tree.{Tree, Forest, none, more}
use Rattle.cc_command.specs.Names.{contains_name, find_child, visible_child, visible_names}
use Rattle.cc_engine.specs.Blocks.{start}
use Rattle.cc_engine.specs.Destination.{WordsLeadTo, WordsLeadOnlyTo}
use Rattle.cc_engine.specs.Machine.{NodeState, walk, entered}
use Rattle.cc_engine.specs.Visible.{HasNoHiddenAlias, visible_end, has_no_hidden_alias, shows}
use Rattle.cc_engine.specs.Reach.{Descend, NamesNoChild, Reach, Stay}
use Rattle.cc_engine.proofs.Way.{walk_is}
use Rattle.cc_engine.proofs.Exists.{blocks_exist}

-- ---- every list of words has a destination

record Way (tree : Tree) (words : List (List ℕ)) : Type 0 where
  last : Tree
  tail : List (List ℕ)
  before : Bool
  reach : Reach tree words last tail before

way_stays : {tree last : Tree} {words tail : List (List ℕ)} {before : Bool} (word : List ℕ) → find_child tree.children word ≡ None → Reach tree words last tail before → Way tree (word ∷ words)
way_stays {tree} {last} {words} word e (Stay all) = record { last = tree; tail = word ∷ words; before = false; reach = Stay (All-cons (NamesNoChild tree) word words e all) }
way_stays {tree} {last} {words} {tail} word e (Descend {before = before} skipped name after spell all leads reach) = record {
  last = last;
  tail = tail;
  before = contains_name (word ∷ skipped) (codes "--") || before;
  reach = Descend (word ∷ skipped) name after (ap (λ s. word ∷ s) spell) (All-cons (NamesNoChild tree) word skipped e all) leads reach;
}

way_named : {tree child : Tree} {words : List (List ℕ)} (word : List ℕ) → find_child tree.children word ≡ Some child → Way child words → Way tree (word ∷ words)
way_named {tree} {child} {words} word e w = record { last = w.last; tail = w.tail; before = w.before; reach = Descend [] word words refl (All-nil (NamesNoChild tree)) e w.reach }

way_by : (tree : Tree) (word : List ℕ) (words : List (List ℕ)) (o : Option Tree) → find_child tree.children word ≡ o → ((n : Tree) → Way n words) → Way tree (word ∷ words)
way_by tree word words None e ways = way_stays word e (ways tree).reach
way_by tree word words (Some child) e ways = way_named word e (ways child)

way : (words : List (List ℕ)) (tree : Tree) → Way tree words
way [] tree = record { last = tree; tail = []; before = false; reach = Stay (All-nil (NamesNoChild tree)) }
way (word ∷ words) tree = way_by tree word words (find_child tree.children word) refl (way words)

pub reach_exists : (tree : Tree) (words : List (List ℕ)) → (last : Tree) × (tail : List (List ℕ)) × (before : Bool) × Reach tree words last tail before
reach_exists tree words = let w = way words tree in (w.last, w.tail, w.before, w.reach)

-- both walks find a child that shows the word
child_same : (forest : Forest) (word : List ℕ) → shows (find_child forest word) word ≡ true → find_child forest word ≡ visible_child forest word
child_same none word e = refl
child_same (more node below rest) word e =
    by_names (contains_name (visible_names node) word) (contains_name node.aliases word) refl e (child_same rest word)
  where
    child : Option Tree
    child = Some (record { node = node; children = below })

    by_names : (shown hidden : Bool) → contains_name (visible_names node) word ≡ shown
        → shows (cond (shown || hidden) child (find_child rest word)) word ≡ true
        → (shows (find_child rest word) word ≡ true → find_child rest word ≡ visible_child rest word)
        → cond (shown || hidden) child (find_child rest word) ≡ cond shown child (visible_child rest word)
    by_names true hidden is e later = refl
    by_names false true is e later = let differ : false ≡ true = sym is ∙ e in cc
    by_names false false is e later = later e

-- the theorem: both walks end at the same node
pub walk_visible : (words : List (List ℕ)) (node_state : NodeState) → HasNoHiddenAlias node_state.tree words → (walk node_state words).tree ≡ visible_end node_state.tree words
walk_visible [] node_state e = refl
walk_visible (word ∷ words) node_state e =
    let found : Option Tree = find_child node_state.tree.children word in
    let parts = and_parts (shows found word) (has_no_hidden_alias (unwrap_or found node_state.tree) words) e in
    by_child found refl (child_same node_state.tree.children word parts.0) parts.1 (walk_visible words)
  where
    by_child : (o : Option Tree) → find_child node_state.tree.children word ≡ o → find_child node_state.tree.children word ≡ visible_child node_state.tree.children word
        → HasNoHiddenAlias (unwrap_or o node_state.tree) words
        → ((later : NodeState) → HasNoHiddenAlias later.tree words → (walk later words).tree ≡ visible_end later.tree words)
        → (walk node_state (word ∷ words)).tree ≡ visible_end node_state.tree (word ∷ words)
    by_child None is same shown later =
        ap (λ o. (walk (entered node_state word o) words).tree) is
        ∙ later (entered node_state word None) shown
        ∙ ap (λ o. visible_end (unwrap_or o node_state.tree) words) (sym is ∙ same)
    by_child (Some child) is same shown later =
        ap (λ o. (walk (entered node_state word o) words).tree) is
        ∙ later (entered node_state word (Some child)) shown
        ∙ ap (λ o. visible_end (unwrap_or o node_state.tree) words) (sym is ∙ same)

abbrev pub walked : Tree → List (List ℕ) → NodeState
walked root words = walk (record { tree = root; state = start false }) words

-- the machine ends at the destination of the words
pub walked_is : (root : Tree) (words : List (List ℕ)) → WordsLeadTo root words (walked root words).tree (walked root words).state
walked_is root words =
    let (last, tail, before, reach) = reach_exists root words in
    let (bs, are, joined) = blocks_exist last.node.arguments 1 before tail in
    let is = walk_is root last words tail before bs reach are joined in
    subst (λ (s : NodeState). WordsLeadTo root words s.tree s.state) (sym is) (record { tail = tail; before = before; blocks = bs; reach = reach; are = are; joined = joined; ends = refl })

-- and nowhere else
pub walked_only : (root : Tree) (words : List (List ℕ)) → WordsLeadOnlyTo root words (walked root words).tree (walked root words).state
walked_only root words other elsewhere leads =
    let here : NodeState = record { tree = other; state = elsewhere } in
    let is : here ≡ walked root words =
    ap (λ state. record { tree = other; state = state }) leads.ends
    ∙ sym (walk_is root other words leads.tail leads.before leads.blocks leads.reach leads.are leads.joined) in
    (ap (λ s. s.tree) is, ap (λ s. s.state) is)

-- A node and a state from which no word is left are the destination too, and the visible names lead
-- to the same node.
pub there : (node_state : NodeState) (root : Tree) (words rest : List (List ℕ)) → rest ≡ [] → walk node_state rest ≡ walked root words →
    WordsLeadTo root words node_state.tree node_state.state × WordsLeadOnlyTo root words node_state.tree node_state.state
    × (HasNoHiddenAlias root words → node_state.tree ≡ visible_end root words)
there node_state root words rest empty is =
    subst (λ (s : NodeState). WordsLeadTo root words s.tree s.state × WordsLeadOnlyTo root words s.tree s.state × (HasNoHiddenAlias root words → s.tree ≡ visible_end root words))
    (sym is ∙ ap (walk node_state) empty)
    (walked_is root words, walked_only root words, walk_visible words (record { tree = root; state = start false }))
