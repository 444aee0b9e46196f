-- The answer to a request: a text, or the words of a command for the shell to run.
use Rattle.std.specs.Prelude.{◌≡◌, ◌-◌, ℕ, Bool, true, false, List, length, map, Option, Result, Ok, Err}
use Rattle.std.specs.Option.{option_copied}
use Rattle.std.specs.String.{string_bytes}
use Rattle.cc_arg.specs.declared.parts.ArgParts.{ArgParts as Arg}
use Rattle.cc_base.specs.Collected.{collected_bytes}
use Rattle.cc_base.specs.declared.error.Error.{Error}
use Rattle.cc_base.specs.declared.error.Error.TheVariants.{Memory}
use Rattle.cc_base.specs.declared.sources.CandidateSources.{Ghosts}
use Rattle.cc_candidates.specs.declared.candidate.CompletionCandidate.{CompletionCandidate}
use Rattle.cc_command.specs.Built.{built_tree}
use Rattle.cc_command.specs.Tree.{Tree}
use Rattle.cc_command.specs.ValueLists.{listed_tree}
use Rattle.cc_engine.specs.Completion.{Completes}
use Rattle.cc_engine.specs.Sources.{returned_of}
use Rattle.cc_engine.specs.declared.sources.Sources.{Sources}
use Rattle.cc_env.specs.Arguments.{words_after}
use Rattle.cc_env.specs.SafeShells.{safe_spec}
use Rattle.cc_env.specs.Steps.{MakesText, Names, program_names}
use Rattle.cc_env.specs.declared.safe_shell.SafeShell.{SafeShell}
use Rattle.cc_engine.specs.Values.{MayReturn}
use Rattle.cc_candidates.specs.Folders.{FolderFacts}
use Rattle.cc_replies.specs.declared.environment.EnvValues.{EnvValues}
use Rattle.cc_env.specs.Asking.{AsksOver, CannotAsk, next_step, typed_words, values_mode}
use Rattle.cc_env.specs.ValuesRead.{AreRead, omits_space}
use Rattle.cc_env.specs.WithLines.{with_lines}
use Rattle.cc_env.specs.declared.asking.answers.Answer.{Answer}
use Rattle.cc_env.specs.declared.asking.answers.Answer.TheVariants as answer_as
use Rattle.cc_env.specs.declared.asking.answers.Call.{Call}
use Rattle.cc_env.specs.declared.asking.asked.AnswerStep.{AnswerStep}
use Rattle.cc_env.specs.declared.asking.asked.AnswerStep.TheVariants.{ReadLines, Reply, Run}
use Rattle.cc_env.specs.declared.asking.values_read.ValuesRead.{ValuesRead}

-- ---- the request

-- the parts of an answer to a request, apart from the command and the lines
pub record Parts : Type 1 where
  pub shell : SafeShell
  -- the names in the registration of a program and a tree
  pub names : List ℕ → Tree → Names
  pub env : EnvValues
  pub args : List (List ℕ)
  -- commands of the tree may be run
  pub trusted : Bool
  -- the possible results of completers, lists and a folder
  pub returned : MayReturn

abbrev pub parts_of : {D C : Type 0} → Ghosts C CompletionCandidate → FolderFacts → Call
    → Sources D C → Parts
parts_of members facts call sources = record {
  shell = call.program.shell.now;
  names = program_names call.program (option_copied sources.current_dir);
  env = call.env.now;
  args = map string_bytes call.args.now;
  trusted = call.trusted;
  returned = returned_of members facts sources;
}

-- ---- the answer

-- the content of an answer to the shell: a text, a reply after whose values no space follows, or the
-- words of a command to run
pub data Told : Type 0 where
  text : List ℕ → Told
  text_without_space : List ℕ → Told
  words : List (List ℕ) → Told

abbrev pub seen : Answer → Told
seen (answer_as.Text made) = text (collected_bytes made)
seen (answer_as.TextWithoutSpace made) = text_without_space (collected_bytes made)
seen (answer_as.Run command) = words command

abbrev pub seen_answer : Result Answer Error → Result Told Error
seen_answer (Ok answer) = Ok (seen answer)
seen_answer (Err error) = Err error

-- a text that was made, as an answer: a space follows a value unless the test holds
abbrev pub text_by : Bool → List ℕ → Told
text_by true made = text_without_space made
text_by false made = text made

abbrev pub told_by : Bool → Result (List ℕ) Error → Result Told Error
told_by no_space (Ok made) = Ok (text_by no_space made)
told_by no_space (Err error) = Err error

-- the text over a command, as if no source outside the tree had values
abbrev pub MakesAlone : Parts → Tree → Result (List ℕ) Error → Type 0
MakesAlone parts tree result =
    MakesText (λ made. made ≡ Ok tree) (safe_spec parts.shell) parts.names parts.env
    (Completes parts.returned) parts.args result

-- The text over a command in which each argument with the source of `asked` has the values that were
-- read.
abbrev pub MakesOver : Parts → Arg → ValuesRead → Tree → Result (List ℕ) Error → Type 0
MakesOver parts asked read tree result =
    MakesText (λ made. made ≡ Ok (listed_tree asked read.values tree)) (safe_spec parts.shell)
    parts.names parts.env (Completes (with_lines parts.returned read.lines.candidates))
    parts.args result

-- The answer by a step, where `Gives` is true of the lines that an argument may be given.
pub data AnswersStep (parts : Parts) (Gives : Arg → List ℕ → Type 0) (tree : Tree)
    : AnswerStep → Result Told Error → Type 0 where
  -- no lines are asked for, or none can be had
  replied : (result : Result (List ℕ) Error) → MakesAlone parts tree result
      → AnswersStep parts Gives tree Reply (told_by false result)
  -- the shell is to run these words
  runs : (command : List (List ℕ)) → AnswersStep parts Gives tree (Run command) (Ok (words command))
  -- the reply over lines
  over_lines : (argument : Arg) (read : ValuesRead) (result : Result (List ℕ) Error)
      → AreRead Gives argument read → MakesOver parts argument read tree result
      → AnswersStep parts Gives tree (ReadLines argument)
      (told_by (omits_space parts.env read) result)
  -- out of memory
  out_of_memory : (step : AnswerStep) → AnswersStep parts Gives tree step (Err Memory)

-- the argument whose values are asked for, over the built command
abbrev pub AsksFor : Parts → Tree → Option Arg → Type 0
AsksFor parts tree asked =
    AsksOver (values_mode parts.env) (built_tree tree) (words_after parts.args) asked

-- the typed words, of which the last one is to complete
abbrev pub typed_in : Parts → Tree → List (List ℕ)
typed_in parts tree =
    typed_words (built_tree tree).node (words_after parts.args) (length (words_after parts.args) - 1)

-- the step for the argument that is asked for
abbrev pub step_in : Parts → Tree → Option Arg → AnswerStep
step_in parts tree asked = next_step parts.env parts.trusted asked (typed_in parts tree)

-- the answer over a command
pub data Answers (parts : Parts) (Gives : Arg → List ℕ → Type 0) (tree : Tree)
    : Result Told Error → Type 0 where
  -- no word can be asked for: memory ran out, or the last word is the program's name
  not_asked : (error : Error)
      → CannotAsk (values_mode parts.env) (built_tree tree) (words_after parts.args) error
      → Answers parts Gives tree (Err error)
  -- the answer by the argument that is asked for
  answered : (asked : Option Arg) (result : Result Told Error) → AsksFor parts tree asked
      → AnswersStep parts Gives tree (step_in parts tree asked) result
      → Answers parts Gives tree result
