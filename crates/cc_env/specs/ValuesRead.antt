-- What the lines of a source say of its values.
use Rattle.std.specs.Prelude.{◌≡◌, ◌&&◌, ℕ, Bool, false, List, Option, None, Some, bytes_eq, codes}
use Rattle.cc_arg.specs.declared.parts.ArgParts.{ArgParts as Arg}
use Rattle.cc_arg.specs.declared.value_hint.ValueHint.{ValueHint}
use Rattle.cc_arg.specs.declared.value_hint.ValueHint.TheVariants.{AnyPath, DirPath, FilePath}
use Rattle.cc_arg.specs.declared.value_source.SourceValues.{SourceValues}
use Rattle.cc_arg.specs.declared.value_source.SourceValues.TheVariants.{Listed, Paths}
use Rattle.cc_arg.specs.declared.values_protocol.ValuesProtocol.{ValuesProtocol}
use Rattle.cc_arg.specs.declared.values_protocol.ValuesProtocol.TheVariants.{Cobra, Lines}
use Rattle.cc_replies.specs.CobraReply.{cobra_reply}
use Rattle.cc_replies.specs.Environment.{value_of}
use Rattle.cc_replies.specs.GivenLines.{candidates_of_lines}
use Rattle.cc_replies.specs.declared.cobra_reply.CobraReply.{CobraReply}
use Rattle.cc_replies.specs.declared.cobra_reply.PathKind.{PathKind}
use Rattle.cc_replies.specs.declared.cobra_reply.PathKind.TheVariants.{Any, Directories, Files}
use Rattle.cc_replies.specs.declared.environment.EnvValues.{EnvValues}
use Rattle.cc_env.specs.WithLines.{lines_list}
use Rattle.cc_env.specs.declared.asking.values_read.ValuesRead.{ValuesRead}

-- the hint of the paths of a kind
abbrev pub hint_of : PathKind → ValueHint
hint_of Any = AnyPath
hint_of Files = FilePath
hint_of Directories = DirPath

-- the values are these paths, or otherwise the list of the lines
abbrev pub values_of : Option PathKind → SourceValues
values_of None = Listed lines_list
values_of (Some kind) = Paths (hint_of kind)

-- each line is a value
abbrev pub plain_values : Option (List ℕ) → List ℕ → ValuesRead
plain_values split lines = record {
  lines = record { candidates = candidates_of_lines split lines };
  values = Listed lines_list;
  no_space = false;
}

-- a directive follows the values
abbrev pub directed_values : CobraReply → ValuesRead
directed_values reply = record {
  lines = reply.values;
  values = values_of reply.paths;
  no_space = reply.no_space;
}

abbrev pub values_by : ValuesProtocol → Option (List ℕ) → List ℕ → ValuesRead
values_by Lines split lines = plain_values split lines
values_by Cobra split lines = directed_values (cobra_reply lines)

-- what the lines say of the values of an argument, in the form that its program prints
abbrev pub read_values : Arg → List ℕ → ValuesRead
read_values asked lines = values_by asked.values_protocol asked.values_split lines

-- this was read from lines that the argument may be given
pub record AreRead (Gives : Arg → List ℕ → Type 0) (asked : Arg) (read : ValuesRead)
    : Type 0 where
  pub given : List ℕ
  pub gives : Gives asked given
  pub is : read ≡ read_values asked given

-- ---- the space after a value

abbrev pub is_one : Option (List ℕ) → Bool
is_one None = false
is_one (Some value) = bytes_eq value (codes "1")

-- no space is to follow a value, and the registration can do so
abbrev pub omits_space : EnvValues → ValuesRead → Bool
omits_space env read = read.no_space && is_one (value_of (codes "_COMPLGEN_SPACE") env)
