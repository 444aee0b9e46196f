-- The argument that a word asks for: its values are offered there, and a source outside the
-- tree lists them. And all values that a word can be.
use Rattle.std.specs.Prelude.{ℕ, Bool, false, List, [], ◌∷◌, ◌++◌, ◌≡◌, ◌==◌, get_or, find, map, Option, Some, None, option_to_list, if◌then◌else◌}
use Rattle.cc_base.specs.Bytes.{dash}
use Rattle.cc_arg.specs.declared.parts.ArgParts.{ArgParts as Arg}
use Rattle.cc_arg.specs.ValueSources.{has_source}
use Rattle.cc_command.specs.Tree.{Tree}
use Rattle.cc_engine.specs.declared.gathering.options.OptionMatch.{OptionMatch}
use Rattle.cc_engine.specs.declared.gathering.options.OptionMatch.TheVariants.{Listed, ValuesOf}
use Rattle.cc_engine.specs.declared.questions.AskedValue.{AskedValue}
use Rattle.cc_engine.specs.declared.walking.state.Pending.{Pending}
use Rattle.cc_engine.specs.declared.walking.state.Pending.TheVariants.{OptionOpen}
use Rattle.cc_engine.specs.declared.walking.state.State.{State}
use Rattle.cc_engine.specs.Destination.{WordsLeadTo, WordsLeadOnlyTo}
use Rattle.cc_engine.specs.Lookup.{positional_at}
use Rattle.cc_engine.specs.Completion.{IsPlace, Questions, offered_match, questions, words_before}
use Rattle.cc_engine.specs.declared.open_lists.OpenLists.{OpenLists}
use Rattle.cc_engine.specs.OpenLists.{open_lists_by}
use Rattle.cc_engine.specs.Parts.{part}
use Rattle.cc_engine.specs.Values.{Question, nothing, question}

-- the open option
abbrev pub opened_argument : Pending → Option Arg
opened_argument (OptionOpen option count) = Some option
opened_argument _ = None

-- the option whose value is within the word
abbrev pub argument_within : OptionMatch → Option Arg
argument_within (Listed found) = None
argument_within (ValuesOf wanted) = Some wanted.argument

-- the positional, if its values are offered
abbrev pub offered_positional : Option Arg → Option ℕ → Option Arg
offered_positional positional None = None
offered_positional positional (Some number) = positional

-- the word begins with `-`
abbrev pub begins_dash : List ℕ → Bool
begins_dash [] = false
begins_dash (byte ∷ text) = byte == dash

-- the argument, unless the word begins with `-`
abbrev pub unless_dash : List ℕ → Option Arg → Option Arg
unless_dash word argument = if begins_dash word then None else argument

-- The arguments that a word can ask for, if these lists are open: the open option, the option whose
-- value is within the word, and the positional.
--
-- A word that begins with `-` can only ask for the second one. The values of the others would have
-- to begin with the word, but no source lists a value that begins with `-`. So no value is lost,
-- even if the argument accepts words with a hyphen. The exception is a word such as `-x,ma`, where
-- `,` is the delimiter of the argument: the values that begin with `ma` are not asked for.
abbrev pub arguments_of_lists : List Arg → ℕ → OpenLists → Pending → List ℕ → List Arg
arguments_of_lists arguments position lists pending word =
    option_to_list (unless_dash word (opened_argument pending))
    ++ (option_to_list (argument_within (offered_match lists.options arguments word))
    ++ option_to_list
    (unless_dash word (offered_positional (positional_at arguments position) lists.value)))

-- the arguments that the word at a node can ask for, if the words before it lead to this state
abbrev pub arguments_of_word : Tree → State → List ℕ → List Arg
arguments_of_word tree state word =
    arguments_of_lists tree.node.arguments state.position
    (open_lists_by tree.node.arguments state.position state.escaped state.pending) state.pending
    word

-- the first of these whose values a source outside the tree lists
abbrev pub asked_argument : Tree → State → List ℕ → Option Arg
asked_argument tree state word = find has_source (arguments_of_word tree state word)

-- The argument that the word at the index asks for. The words before it lead to one node and
-- one state, and to no others.
pub record Asks (root : Tree) (words : List (List ℕ)) (index : ℕ) (result : Option Arg)
    : Type 0 where
  pub tree : Tree
  pub state : State
  pub leads : WordsLeadTo root (words_before root.node words index) tree state
  pub only : WordsLeadOnlyTo root (words_before root.node words index) tree state
  pub asked : result ≡ asked_argument tree state (get_or words index [])

-- ---- the values that a word can be

-- a value of an argument, with its number and the text to complete
pub record WordValue : Type 0 where
  pub argument : Arg
  pub number : ℕ
  pub text : List ℕ

-- the value that a word is, or its part behind the last delimiter
abbrev pub value_of : Arg → ℕ → List ℕ → WordValue
value_of argument number word =
    record { argument = argument; number = number; text = part argument.value_delimiter word }

-- the next value of the open option
abbrev pub opened_value : Pending → List ℕ → Option WordValue
opened_value (OptionOpen option count) word = Some (value_of option count word)
opened_value _ word = None

-- the value within the word, which is the first one of its option
abbrev pub value_within : OptionMatch → Option WordValue
value_within (Listed found) = None
value_within (ValuesOf wanted) = Some (value_of wanted.argument 0 wanted.text)

-- the value of the positional, if its values are offered
abbrev pub positional_value : Option Arg → Option ℕ → List ℕ → Option WordValue
positional_value (Some argument) (Some number) word = Some (value_of argument number word)
positional_value _ _ word = None

-- the values that a word can be, or that it can end with
pub record WordValues : Type 0 where
  pub opened : Option WordValue
  pub within : Option WordValue
  pub positional : Option WordValue

-- those where these lists are open
abbrev pub values_of_lists : List Arg → ℕ → OpenLists → Pending → List ℕ → WordValues
values_of_lists arguments position lists pending word = record {
  opened = opened_value pending word;
  within = value_within (offered_match lists.options arguments word);
  positional = positional_value (positional_at arguments position) lists.value word;
}

-- those of the word at a node, if the words before it lead to this state
abbrev pub values_of_word : Tree → State → List ℕ → WordValues
values_of_word tree state word =
    values_of_lists tree.node.arguments state.position
    (open_lists_by tree.node.arguments state.position state.escaped state.pending) state.pending
    word

-- the values in turn: of the open option, within the word, of the positional
abbrev pub in_turn : WordValues → List WordValue
in_turn values =
    option_to_list values.opened
    ++ (option_to_list values.within ++ option_to_list values.positional)

-- what the caller sees of a value
abbrev pub as_asked : WordValue → AskedValue
as_asked value = record { id = value.argument.id; number = value.number; text = value.text }

-- the question for the candidates of a value
abbrev pub question_of : Option WordValue → Question
question_of None = nothing
question_of (Some value) = question value.argument value.number value.text

-- the questions for these values, beside the one for the children
abbrev pub questions_of : Question → WordValues → Questions
questions_of children values = record {
  children = children;
  positional = question_of values.positional;
  within = question_of values.within;
  opened = question_of values.opened;
}

-- The values for which `Completes` asks at the index, where the words before it lead: the questions
-- there are those for these values, and the one for the children.
pub record AsksValues (root : Tree) (words : List (List ℕ)) (index : ℕ)
    (result : List AskedValue) : Type 0 where
  pub tree : Tree
  pub state : State
  pub word : List ℕ
  pub place : IsPlace root words index tree state word
  pub asked : result ≡ map as_asked (in_turn (values_of_word tree state word))
  pub same : questions tree state word
      ≡ questions_of (questions tree state word).children (values_of_word tree state word)
