-- The argument whose values a request asks for, and what answers the request then.
use Rattle.std.specs.Prelude.{⊤, ◌≡◌, ◌-◌, ℕ, suc, Bool, true, false, not, ◌&&◌, List, [], ◌∷◌, ◌++◌, length, Option, None, Some, bytes_eq, codes, if◌then◌else◌}
use Rattle.cc_arg.specs.ValueSources.{is_runnable}
use Rattle.cc_arg.specs.declared.parts.ArgParts.{ArgParts as Arg}
use Rattle.cc_base.specs.declared.error.Error.{Error}
use Rattle.cc_base.specs.declared.error.Error.TheVariants.{Memory, NoCompletion}
use Rattle.cc_command.specs.Tree.{Tree}
use Rattle.cc_command.specs.declared.node.Node.{Node}
use Rattle.cc_engine.specs.Asked.{Asks}
use Rattle.cc_engine.specs.Completion.{is_in_range, words_before}
use Rattle.cc_replies.specs.Environment.{value_of}
use Rattle.cc_replies.specs.declared.environment.EnvValues.{EnvValues}
use Rattle.cc_env.specs.declared.asking.asked.AnswerStep.{AnswerStep}
use Rattle.cc_env.specs.declared.asking.asked.AnswerStep.TheVariants.{Reply, Run, ReadLines}

-- ---- the argument

-- the abilities of a safe registration: run the words of an answer, or pass on what they printed
abbrev pub values_mode : EnvValues → Option (List ℕ)
values_mode env = value_of (codes "_COMPLGEN_VALUES") env

-- the argument whose values are asked for at the last word, in a command with this tree
abbrev pub AsksAtLast : Tree → List (List ℕ) → Option Arg → Type 0
AsksAtLast tree [] asked = asked ≡ None
AsksAtLast tree (word ∷ words) asked =
    Asks tree (word ∷ words) (length (word ∷ words) - 1) asked

-- the same, if a safe registration asks
abbrev pub AsksOver : Option (List ℕ) → Tree → List (List ℕ) → Option Arg → Type 0
AsksOver None tree words asked = asked ≡ None
AsksOver (Some mode) tree words asked = AsksAtLast tree words asked

-- the last word is the program's name
abbrev pub IsOutOfRange : Tree → List (List ℕ) → Type 0
IsOutOfRange tree [] = ⊥
IsOutOfRange tree (word ∷ words) =
    is_in_range tree.node (length (word ∷ words)) (length (word ∷ words) - 1) ≡ false

-- asking at the last word fails
abbrev pub CannotAskAtLast : Tree → List (List ℕ) → Error → Type 0
CannotAskAtLast tree words Memory = ⊤
CannotAskAtLast tree words NoCompletion = IsOutOfRange tree words
CannotAskAtLast tree words _ = ⊥

-- asking fails
abbrev pub CannotAsk : Option (List ℕ) → Tree → List (List ℕ) → Error → Type 0
CannotAsk None tree words error = error ≡ Memory
CannotAsk (Some mode) tree words error = CannotAskAtLast tree words error

-- ---- the words that run

-- the typed words: from the first one behind the program's name to the one at the index
abbrev pub typed_words : Node → List (List ℕ) → ℕ → List (List ℕ)
typed_words node words index = words_before node words (suc index)

-- those of them that an argument's command gets: all, or none
abbrev pub passed_words : Bool → List (List ℕ) → List (List ℕ)
passed_words true typed = typed
passed_words false typed = []

-- the words, if a shell can run them
abbrev pub if_runnable : List (List ℕ) → Option (List (List ℕ))
if_runnable words = if is_runnable words then Some words else None

-- the words of a command, and then those that it gets; none if a shell cannot run them all
abbrev pub with_passed : Option (List (List ℕ)) → List (List ℕ) → Option (List (List ℕ))
with_passed None passed = None
with_passed (Some own) passed = if_runnable (own ++ passed)

-- the words that run for an argument, if there are any
abbrev pub run_words : Arg → List (List ℕ) → Option (List (List ℕ))
run_words asked typed = with_passed asked.values_from (passed_words asked.values_words typed)

-- the same for the argument that a word asks for
abbrev pub words_for : Option Arg → List (List ℕ) → Option (List (List ℕ))
words_for None typed = None
words_for (Some asked) typed = run_words asked typed

-- the words of the command that lists the values for the word at the index
pub record Wants (tree : Tree) (words : List (List ℕ)) (index : ℕ)
    (command : Option (List (List ℕ))) : Type 0 where
  pub asked : Option Arg
  pub asks : Asks tree words index asked
  pub is : command ≡ words_for asked (typed_words tree.node words index)

-- ---- commands

-- the value of a variable turns commands off
abbrev pub turns_off : Option (List ℕ) → Bool
turns_off None = false
turns_off (Some value) = bytes_eq value (codes "0")

-- commands may run: their tree is trusted, and the user has not turned them off
abbrev pub may_run : EnvValues → Bool → Bool
may_run env trusted = trusted && not (turns_off (value_of (codes "COMPLGEN_COMMANDS") env))

-- ---- the step

-- the registration runs these words, if there are any
abbrev pub step_of_words : Option (List (List ℕ)) → AnswerStep
step_of_words None = Reply
step_of_words (Some words) = Run words

-- the step for an argument with a command that may run: the registration runs it, or has run it
abbrev pub step_of_mode : Option (List ℕ) → Arg → List (List ℕ) → AnswerStep
step_of_mode None asked typed = Reply
step_of_mode (Some mode) asked typed =
    if bytes_eq mode (codes "ask") then step_of_words (run_words asked typed)
    else if bytes_eq mode (codes "stdin") then ReadLines asked else Reply

abbrev pub step_of_command : Bool → Option (List ℕ) → Arg → List (List ℕ) → AnswerStep
step_of_command true mode asked typed = step_of_mode mode asked typed
step_of_command false mode asked typed = Reply

-- the step for an argument, by its command if it has one; other sources are read at once
abbrev pub step_of_source : Option (List (List ℕ)) → Bool → Option (List ℕ) → Arg
    → List (List ℕ) → AnswerStep
step_of_source (Some command) allowed mode asked typed = step_of_command allowed mode asked typed
step_of_source None allowed mode asked typed = ReadLines asked

abbrev pub step_of : Bool → Option (List ℕ) → Option Arg → List (List ℕ) → AnswerStep
step_of allowed mode None typed = Reply
step_of allowed mode (Some asked) typed =
    step_of_source asked.values_from allowed mode asked typed

-- the step of a request, for the argument that is asked for and the typed words
abbrev pub next_step : EnvValues → Bool → Option Arg → List (List ℕ) → AnswerStep
next_step env trusted asked typed = step_of (may_run env trusted) (values_mode env) asked typed
