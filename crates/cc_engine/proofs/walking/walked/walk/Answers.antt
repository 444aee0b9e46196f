use Rattle.std.proofs.Common.{◌+◌, drop, map, string_bytes, sym, ap, ◌∙◌, ◌≤◌, ℕ, suc, Bool, true, false, ltb, inl, inr, arith, List, Option, Some, None}
use Rattle.std.proofs.lemmas.List.{drop_all}
use Rattle.std.proofs.lemmas.Bool.{cases_Bool}
use Rattle.cc_base.proofs.Lists.{one_more}
use Rattle.cc_arg.specs.declared.parts.ArgParts.{ArgParts as Arg}
use Rattle.cc_command.specs.Tree.{Tree}
use Rattle.cc_command.specs.Names.{find_child}
use Rattle.cc_engine.specs.Machine.{node_state_step, walk, NodeState, closed_step, entered, open_step, run_length, step, value_state}
use Rattle.cc_engine.specs.NodeStates.{node_state_of}
use Rattle.cc_engine.specs.Blocks.{follows}
use Rattle.cc_engine.specs.Lookup.{allows_hyphens_at, capacity_at}
use Rattle.cc_engine.specs.WordClasses.{class_of}
use Rattle.cc_engine.specs.declared.walking.word_class.WordClass.{WordClass}
use Rattle.cc_engine.specs.declared.walking.word_class.WordClass.TheVariants.{Plain, Unknown}
use Rattle.cc_engine.specs.declared.walking.state.Pending.{Pending}
use Rattle.cc_engine.specs.declared.walking.state.Pending.TheVariants.{OptionOpen}
use Rattle.cc_engine.proofs.Whole.{there}
use Rattle.cc_engine.proofs.walking.walked.walk.Goals as goal

-- A step moves the position by at most one.
value_position : (arguments : List Arg) (position : ℕ) (escaped : Bool) (k : ℕ) → (value_state arguments position escaped k).position ≤ position + 1
value_position arguments position escaped k = elim (cases_Bool (ltb (suc k) (capacity_at arguments position))) [ inl t ↦ rw t (omega arith) | inr f ↦ rw f (omega arith) ]

closed_position : (arguments : List Arg) (position values : ℕ) (class : WordClass) → (closed_step arguments position values class).position ≤ position + 1
closed_position arguments position values Plain = value_position arguments position false values
closed_position arguments position values Unknown = elim (cases_Bool (allows_hyphens_at arguments position)) [ inl t ↦ rw t (value_position arguments position false values) | inr f ↦ rw f (omega arith) ]
closed_position arguments position values _ = omega arith

open_position : (arguments : List Arg) (position : ℕ) (a : Arg) (value : ℕ) (class : WordClass) → (open_step arguments position a value class).position ≤ position + 1
open_position arguments position a value class = elim (cases_Bool (follows a class)) [ inl t ↦ rw t (omega arith) | inr f ↦ rw f (closed_position arguments position 0 class) ]

step_position : (arguments : List Arg) (position : ℕ) (escaped : Bool) (pending : Pending) (class : WordClass) → (step arguments position escaped pending class).position ≤ position + 1
step_position arguments position true pending class = value_position arguments position true (run_length pending)
step_position arguments position false (OptionOpen a value) class = open_position arguments position a value class
step_position arguments position false pending class = closed_position arguments position (run_length pending) class

entered_position : (here : NodeState) (word : List ℕ) (child : Option Tree) (bound : ℕ) → here.state.position ≤ bound + 1 → (entered here word child).state.position ≤ bound + 1 + 1
entered_position here word (Some child) bound within = omega arith
entered_position here word None bound within =
    let more = step_position here.tree.node.arguments here.state.position here.state.escaped here.state.pending (class_of here.tree.node.arguments word) in omega (arith, within, more)

-- each word raises the bound on the position by one
node_state_position : (here : NodeState) (word : List ℕ) (bound : ℕ) → here.state.position ≤ bound + 1 → (node_state_step here word).state.position ≤ bound + 1 + 1
node_state_position here word bound within = entered_position here word (find_child here.tree.children word) bound within

pub loop-word-preserved : goal.loop-word-preserved
loop-word-preserved c =
    let i = c.loop-word.word-index in
    let node_state = node_state_of c.loop-word.walked in
    let stepped = c.advance-walked.ensures ∙ ap (node_state_step node_state) c.deref.ensures in
    record {
      position = rw (ap (λ s. s.state.position) stepped) (node_state_position node_state (string_bytes c.word-item.result) i c.loop-word.invariant.position);
      rest = ap (λ s. walk s (map string_bytes (drop (i + 1) c.args.words.now))) stepped
          ∙ sym (ap (λ s. walk node_state (map string_bytes s)) (one_more c.args.words.now i c.word-item.result c.word-item.result c.loop-word-test.true c.word-item.is))
          ∙ c.loop-word.invariant.rest;
    }

pub returns : goal.returns
returns c =
    let ends = there (node_state_of c.loop-word.walked) c.args.root.now (map string_bytes c.args.words.now)
    (map string_bytes (drop c.loop-word.word-index c.args.words.now)) (ap (map string_bytes) (drop_all c.loop-word.word-index c.args.words.now c.loop-word-test.false)) c.loop-word.invariant.rest in
    record { leads = ends.0; only = ends.1; visible = ends.2 }
