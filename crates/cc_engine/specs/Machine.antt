-- The same walk, word by word.
use Rattle.std.specs.Prelude.{ℕ, suc, List, [], ◌∷◌, ◌+◌, Bool, true, false, nat_lt, Option, Some, None, if◌then◌else◌}
use Rattle.cc_arg.specs.declared.parts.ArgParts.{ArgParts as Arg}
use Rattle.cc_command.specs.Tree.{Tree}
use Rattle.cc_command.specs.Names.{find_child}
use Rattle.cc_engine.specs.declared.walking.word_class.WordClass.{WordClass}
use Rattle.cc_engine.specs.declared.walking.word_class.WordClass.TheVariants.{Escape, Opens, Unknown, Closed, Plain}
use Rattle.cc_engine.specs.declared.walking.state.Pending.{Pending}
use Rattle.cc_engine.specs.declared.walking.state.Pending.TheVariants.{Nothing, OptionOpen, PositionalRun, PositionMoved}
use Rattle.cc_engine.specs.declared.walking.state.State.{State}
use Rattle.cc_engine.specs.Lookup.{max_values, capacity_at, allows_hyphens_at}
use Rattle.cc_engine.specs.WordClasses.{class_of}
use Rattle.cc_engine.specs.Blocks.{follows, start}

-- the number of values in the run
abbrev pub run_length : Pending → ℕ
run_length (PositionalRun values) = values
run_length _ = 0

-- one more value at the position, after a run of `values` values
abbrev pub value_state : List Arg → ℕ → Bool → ℕ → State
value_state arguments position escaped values =
    if nat_lt (suc values) (capacity_at arguments position)
    then record { position = position; escaped = escaped; pending = PositionalRun (suc values) }
    else record {
      position = position + 1;
      escaped = escaped;
      pending = if escaped then PositionMoved
          else Nothing;
    }

-- the state after `values` values of an open option
abbrev pub option_state : ℕ → Arg → ℕ → State
option_state position option values =
    record {
      position = position;
      escaped = false;
      pending = if nat_lt values (max_values option)
          then OptionOpen option values else Nothing;
    }

-- an unescaped word that no option takes
abbrev pub closed_step : List Arg → ℕ → ℕ → WordClass → State
closed_step arguments position values Escape =
    record { position = position; escaped = true; pending = Nothing }
closed_step arguments position values (Opens option) =
    record { position = position; escaped = false; pending = OptionOpen option 0 }
closed_step arguments position values Closed =
    record { position = position; escaped = false; pending = Nothing }
closed_step arguments position values Unknown =
    if allows_hyphens_at arguments position then value_state arguments position false values
    else record { position = position; escaped = false; pending = Nothing }
closed_step arguments position values Plain = value_state arguments position false values

-- an unescaped word while an option is open
abbrev pub open_step : List Arg → ℕ → Arg → ℕ → WordClass → State
open_step arguments position option values class =
    if follows option class then option_state position option (suc values)
    else closed_step arguments position 0 class

-- one more word at a node
abbrev pub step : List Arg → ℕ → Bool → Pending → WordClass → State
step arguments position true pending class =
    value_state arguments position true (run_length pending)
step arguments position false (OptionOpen option values) class =
    open_step arguments position option values class
step arguments position false pending class =
    closed_step arguments position (run_length pending) class

abbrev pub run : List Arg → State → List (List ℕ) → State
run arguments state [] = state
run arguments state (word ∷ words) =
    run arguments (step arguments state.position state.escaped state.pending
    (class_of arguments word)) words

-- a node and the state there
pub record NodeState : Type 0 where
  pub tree : Tree
  pub state : State

abbrev pub entered : NodeState → List ℕ → Option Tree → NodeState
entered here word (Some child) = record { tree = child; state = start here.state.escaped }
entered here word None =
    record {
      tree = here.tree;
      state =
          step here.tree.node.arguments here.state.position here.state.escaped
          here.state.pending (class_of here.tree.node.arguments word);
    }

-- a word that names a child leads to it, whatever is pending
abbrev pub node_state_step : NodeState → List ℕ → NodeState
node_state_step here word = entered here word (find_child here.tree.children word)

abbrev pub walk : NodeState → List (List ℕ) → NodeState
walk here [] = here
walk here (word ∷ words) = walk (node_state_step here word) words
