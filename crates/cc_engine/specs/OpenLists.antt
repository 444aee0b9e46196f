-- The lists that the words before the index leave open to the word there.
use Rattle.std.specs.Prelude.{ℕ, List, Bool, false, true, not, ◌&&◌, nat_le, Option, Some, None, if◌then◌else◌}
use Rattle.cc_arg.specs.declared.parts.ArgParts.{ArgParts as Arg}
use Rattle.cc_arg.specs.Arguments.{range_of}
use Rattle.cc_engine.specs.declared.walking.state.Pending.{Pending}
use Rattle.cc_engine.specs.declared.walking.state.Pending.TheVariants.{Nothing, OptionOpen, PositionalRun, PositionMoved}
use Rattle.cc_engine.specs.Lookup.{positional_at}
use Rattle.cc_engine.specs.declared.open_lists.OpenLists.{OpenLists}

-- the least count of values in one use of the argument
abbrev pub least : Arg → ℕ
least argument = (range_of argument).least

-- the positional, if there is one, needs no more values than these
abbrev pub has_enough : Option Arg → ℕ → Bool
has_enough None count = true
has_enough (Some argument) count = nat_le (least argument) count

-- nothing at all
abbrev pub none_open : OpenLists
none_open = record { children = false; value = None; options = false }

-- the children, the first value of the positional, and the options before a `--`
abbrev pub all_open : Bool → OpenLists
all_open escaped = record { children = true; value = Some 0; options = not escaped }

-- After a run of values: the next value of the positional, and the options if no `--` was read and
-- the run is long enough. Right after the last value of a positional that `--` precedes: the first
-- value of the next one alone. With an open option: all lists, if the option has enough values.
abbrev pub open_lists_by : List Arg → ℕ → Bool → Pending → OpenLists
open_lists_by arguments position escaped Nothing = all_open escaped
open_lists_by arguments position escaped (PositionalRun count) = record {
  children = false;
  value = Some count;
  options = not escaped && has_enough (positional_at arguments position) count;
}
open_lists_by arguments position escaped PositionMoved =
    record { children = false; value = Some 0; options = false }
open_lists_by arguments position escaped (OptionOpen option count) =
    if nat_le (least option) count then all_open escaped else none_open
