-- The path down the tree and the machine agree.
use Rattle.std.proofs.Common.{◌≡◌, ℕ, suc, List, ◌∷◌, ◌++◌, Bool, true, false, ltb, ◌||◌, Some, None, refl, inl, inr, ap, ◌∙◌, sym, ◌&&◌, [], eqb, Option, not, codes}
use Rattle.std.specs.List.{All}
use Rattle.std.proofs.lemmas.Bool.{cases_Bool}
use Rattle.std.proofs.Math.Bool.{or-false, or_assoc}
use Rattle.std.proofs.lemmas.List.{append-nil}
use Rattle.std.proofs.lemmas.List.Elements.{All-head, All-tail}
use Rattle.std.specs.Prelude.{bytes_eq, find, chars}
use Rattle.cc_arg.specs.declared.parts.ArgParts.{ArgParts as Arg}
use Rattle.cc_command.specs.Names.{find_child, contains_name}
use Rattle.cc_command.specs.Tree.{Tree}
use Rattle.cc_base.specs.Bytes.{dash}
use Rattle.cc_arg.specs.Arguments.{takes_values}
use Rattle.cc_engine.specs.Blocks.{follows, AreBlocks, Block, state_after, join, start}
use Rattle.cc_engine.specs.Lookup.{allows_hyphens_at, capacity_at, has_long}
use Rattle.cc_engine.specs.Machine.{closed_step, entered, open_step, run, run_length, node_state_step, step, value_state, walk}
use Rattle.cc_engine.specs.Reach.{Descend, NamesNoChild, Reach, Stay}
use Rattle.cc_engine.specs.WordClasses.{class_of, cluster_class, flag_class, last_class, class_of_form, value_character}
use Rattle.cc_engine.specs.declared.walking.word_class.WordClass.{WordClass}
use Rattle.cc_engine.specs.declared.walking.word_class.WordClass.TheVariants.{Escape, Plain, Unknown}
use Rattle.cc_engine.specs.declared.walking.state.Pending.{Pending}
use Rattle.cc_engine.specs.declared.walking.state.Pending.TheVariants.{OptionOpen, Nothing}
use Rattle.cc_engine.specs.declared.walking.state.State.{State}
use Rattle.cc_engine.specs.declared.walking.word_class.ValueCharacter.{ValueCharacter}
use Rattle.cc_engine.specs.Words.{form_of, hyphen_form, long_form, before_equals, has_equals}
use Rattle.cc_engine.proofs.Cut.{run_blocks, fresh_nothing}

-- `--` is the only word with the class of an escape.
abbrev pub is_escape_class : WordClass → Bool
is_escape_class Escape = true
is_escape_class _ = false

last_escapes : (a : Arg) (s : List ℕ) → is_escape_class (last_class a s) ≡ false
last_escapes a [] = refl
last_escapes a (b ∷ bs) = refl

cluster_escapes : (o : Option ValueCharacter) → is_escape_class (cluster_class o) ≡ false
cluster_escapes None = refl
cluster_escapes (Some found) = last_escapes found.argument found.after

flag_escapes : (o : Option Arg) (b : Bool) → is_escape_class (flag_class o b) ≡ false
flag_escapes None b = refl
flag_escapes (Some argument) b = elim (cases_Bool (takes_values argument && not b)) [ inl t ↦ rw t refl | inr f ↦ rw f refl ]

long_escapes : (arguments : List Arg) (s : List ℕ) → is_escape_class (class_of_form arguments (long_form s)) ≡ bytes_eq s []
long_escapes arguments [] = refl
long_escapes arguments (c ∷ s) = flag_escapes (find (has_long (before_equals (c ∷ s))) arguments) (has_equals (c ∷ s))

hyphen_escapes : (arguments : List Arg) (s : List ℕ) → is_escape_class (class_of_form arguments (hyphen_form s)) ≡ bytes_eq s (dash ∷ [])
hyphen_escapes arguments [] = refl
hyphen_escapes arguments (c ∷ s) = elim (cases_Bool (eqb c dash)) [
  | inl t ↦ rw t (long_escapes arguments s)
  | inr f ↦ rw f (cluster_escapes (value_character arguments (chars (c ∷ s))))
]

word_escapes : (arguments : List Arg) (word : List ℕ) → is_escape_class (class_of_form arguments (form_of word)) ≡ bytes_eq word (dash ∷ dash ∷ [])
word_escapes arguments [] = refl
word_escapes arguments (c ∷ s) = elim (cases_Bool (eqb c dash)) [
  | inl t ↦ rw t (hyphen_escapes arguments s)
  | inr f ↦ rw f refl
]

pub class_escapes : (arguments : List Arg) (word : List ℕ) → is_escape_class (class_of arguments word) ≡ bytes_eq word (codes "--")
unfolding class_of
class_escapes arguments word = word_escapes arguments word

value_escaped : (arguments : List Arg) (position : ℕ) (escaped : Bool) (k : ℕ) → (value_state arguments position escaped k).escaped ≡ escaped
value_escaped arguments position escaped k = elim (cases_Bool (ltb (suc k) (capacity_at arguments position))) [ inl t ↦ rw t refl | inr f ↦ rw f refl ]

closed_escaped : (arguments : List Arg) (position values : ℕ) (class : WordClass) → (closed_step arguments position values class).escaped ≡ is_escape_class class
closed_escaped arguments position values Plain = value_escaped arguments position false values
closed_escaped arguments position values Unknown = elim (cases_Bool (allows_hyphens_at arguments position)) [ inl t ↦ rw t (value_escaped arguments position false values) | inr f ↦ rw f refl ]
closed_escaped arguments position values _ = refl

follows_escaped : (a : Arg) (class : WordClass) → follows a class ≡ true → false ≡ is_escape_class class
follows_escaped a Escape e = cc
follows_escaped a _ e = refl

open_escaped : (arguments : List Arg) (position : ℕ) (a : Arg) (value : ℕ) (class : WordClass) → (open_step arguments position a value class).escaped ≡ is_escape_class class
open_escaped arguments position a value class = elim (cases_Bool (follows a class)) [ inl t ↦ rw t (follows_escaped a class t) | inr f ↦ rw f (closed_escaped arguments position 0 class) ]

step_escaped : (arguments : List Arg) (position : ℕ) (escaped : Bool) (pending : Pending) (class : WordClass) → (step arguments position escaped pending class).escaped ≡ (escaped || is_escape_class class)
step_escaped arguments position true pending class = value_escaped arguments position true (run_length pending)
step_escaped arguments position false (OptionOpen a value) class = open_escaped arguments position a value class
step_escaped arguments position false pending class = closed_escaped arguments position (run_length pending) class

escaped_more : (arguments : List Arg) (state : State) (word : List ℕ) → (step arguments state.position state.escaped state.pending (class_of arguments word)).escaped ≡ (state.escaped || bytes_eq word (codes "--"))
escaped_more arguments state word =
    step_escaped arguments state.position state.escaped state.pending (class_of arguments word)
    ∙ ap (λ b. state.escaped || b) (class_escapes arguments word)

run_escaped : (arguments : List Arg) (words : List (List ℕ)) (state : State) → (run arguments state words).escaped ≡ (state.escaped || contains_name words (codes "--"))
run_escaped arguments [] state = sym (or-false state.escaped)
run_escaped arguments (word ∷ words) state =
    run_escaped arguments words (step arguments state.position state.escaped state.pending (class_of arguments word))
    ∙ ap (λ b. b || contains_name words (codes "--")) (escaped_more arguments state word)
    ∙ or_assoc state.escaped (bytes_eq word (codes "--")) (contains_name words (codes "--"))

stays : (tree : Tree) (state : State) (word : List ℕ) → find_child tree.children word ≡ None → node_state_step (record { tree = tree; state = state }) word ≡ record { tree = tree; state = step tree.node.arguments state.position state.escaped state.pending (class_of tree.node.arguments word) }
stays tree state word e = ap (entered (record { tree = tree; state = state }) word) e

descends : (tree child : Tree) (state : State) (word : List ℕ) → find_child tree.children word ≡ Some child → node_state_step (record { tree = tree; state = state }) word ≡ record { tree = child; state = start state.escaped }
descends tree child state word e = ap (entered (record { tree = tree; state = state }) word) e

walk_skipped : (tree : Tree) (words rest : List (List ℕ)) (state : State) → All (NamesNoChild tree) words → walk (record { tree = tree; state = state }) (words ++ rest) ≡ walk (record { tree = tree; state = run tree.node.arguments state words }) rest
walk_skipped tree [] rest state all = refl
walk_skipped tree (word ∷ words) rest state all =
    ap (λ s. walk s (words ++ rest)) (stays tree state word (All-head (NamesNoChild tree) word words all))
    ∙ walk_skipped tree words rest (step tree.node.arguments state.position state.escaped state.pending (class_of tree.node.arguments word)) (All-tail (NamesNoChild tree) word words all)

-- the walk is at the last node, in the state after the tail
pub walk_reach : {tree last : Tree} {words tail : List (List ℕ)} {before : Bool} → Reach tree words last tail before → (escaped : Bool) → walk (record { tree = tree; state = start escaped }) words ≡ record { tree = last; state = run last.node.arguments (start (escaped || before)) tail }
walk_reach {tree} {last} {words} (Stay all) escaped =
    ap (λ s. walk (record { tree = tree; state = start escaped }) s) (sym (append-nil words))
    ∙ walk_skipped tree words [] (start escaped) all
    ∙ rw or-false refl
walk_reach {tree} {last} {words} {tail} (Descend {child = child} {before = before} skipped name after spell all leads way) escaped =
    ap (λ s. walk (record { tree = tree; state = start escaped }) s) spell
    ∙ walk_skipped tree skipped (name ∷ after) (start escaped) all
    ∙ ap (λ s. walk s after) (descends tree child (run tree.node.arguments (start escaped) skipped) name leads)
    ∙ ap (λ e. walk (record { tree = child; state = start e }) after) (run_escaped tree.node.arguments skipped (start escaped))
    ∙ walk_reach way (escaped || contains_name skipped (codes "--"))
    ∙ ap (λ e. record { tree = last; state = run last.node.arguments (start e) tail }) (or_assoc escaped (contains_name skipped (codes "--")) before)

-- the theorem: the division of the whole list has the state of the walk
pub walk_is : (root tree : Tree) (words tail : List (List ℕ)) (before : Bool) (bs : List Block)
    → Reach root words tree tail before
    → AreBlocks tree.node.arguments 1 before bs
    → join bs ≡ tail
    → walk (record { tree = root; state = start false }) words ≡ record { tree = tree; state = state_after tree.node.arguments (start before) bs }
walk_is root tree words tail before bs way are spell =
    walk_reach way false
    ∙ ap (λ s. record { tree = tree; state = run tree.node.arguments (start before) s }) (sym spell)
    ∙ ap (λ s. record { tree = tree; state = s }) (run_blocks tree.node.arguments bs 1 before Nothing are (fresh_nothing tree.node.arguments 1 before (join bs)))
