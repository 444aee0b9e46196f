-- The candidates that are offered for the word at an index: the sources from which they come, and
-- the list that consists of what these return.
use Rattle.std.specs.Prelude.{ℕ, List, [], ◌++◌, map, take, drop, get_or, ◌≡◌, ◌⊎◌, ◌&&◌, nat_le, nat_lt, Bool, false, true, Contains, IsUtf8, Option, Some, None, if◌then◌else◌}
use Rattle.std.specs.List.{list_any, AllByRecursion}
use Rattle.cc_arg.specs.declared.parts.ArgParts.{ArgParts as Arg}
use Rattle.cc_base.specs.declared.error.Error.{Error}
use Rattle.cc_base.specs.declared.error.Error.TheVariants.{Memory, NoCompletion}
use Rattle.cc_command.specs.Built.{built_tree}
use Rattle.cc_candidates.specs.Beginning.{begins}
use Rattle.cc_candidates.specs.declared.candidate.CompletionCandidate.{CompletionCandidate}
use Rattle.cc_base.specs.declared.numbers.SubcommandCandidates.{SubcommandCandidates}
use Rattle.cc_command.specs.declared.node.Node.{Node}
use Rattle.cc_command.specs.Tree.{Tree}
use Rattle.cc_engine.specs.Children.{subcommand_candidates}
use Rattle.cc_engine.specs.Finished.{finish, first_of_ids, is_shown, shown_or_all, AreGrouped, AreShown, ShareNone}
use Rattle.cc_engine.specs.OptionMatches.{match_of, with_prefix}
use Rattle.cc_engine.specs.declared.gathering.options.OptionMatch.{OptionMatch}
use Rattle.cc_engine.specs.declared.gathering.options.OptionMatch.TheVariants.{Listed, ValuesOf}
use Rattle.cc_engine.specs.Parts.{part}
use Rattle.cc_engine.specs.Values.{Allows, MayReturn, Question, nothing, candidates, completer, paths, question, values}
use Rattle.cc_engine.specs.declared.walking.state.Pending.{Pending}
use Rattle.cc_engine.specs.declared.walking.state.Pending.TheVariants.{OptionOpen}
use Rattle.cc_engine.specs.declared.walking.state.State.{State}
use Rattle.cc_engine.specs.Destination.{WordsLeadTo, WordsLeadOnlyTo}
use Rattle.cc_engine.specs.Lookup.{positional_at}
use Rattle.cc_engine.specs.Visible.{HasNoHiddenAlias, visible_end}
use Rattle.cc_engine.specs.declared.open_lists.OpenLists.{OpenLists}
use Rattle.cc_engine.specs.OpenLists.{least, open_lists_by}

-- THE CHILDREN

-- the list of this number
abbrev pub list_question : Option SubcommandCandidates → Question
list_question None = nothing
list_question (Some list) = candidates list.number

-- the list of other programs, where the command takes their names
abbrev pub children_question : Bool → Node → Question
children_question offered node =
    if offered && node.allow_external_subcommands then list_question node.candidates else nothing

-- the children's names that begin with the word, and those of the list of other programs
abbrev pub offered_children : Bool → Tree → List ℕ → List CompletionCandidate
    → List CompletionCandidate
offered_children offered tree word returned =
    if offered then subcommand_candidates tree returned word else []

-- THE VALUES OF THE POSITIONAL

abbrev pub positional_question : Option Arg → Option ℕ → List ℕ → Question
positional_question (Some argument) (Some number) word =
    question argument number (part argument.value_delimiter word)
positional_question _ _ word = nothing

abbrev pub positional_values : Option Arg → Option ℕ → List ℕ → List CompletionCandidate
    → List CompletionCandidate
positional_values (Some argument) (Some number) word returned = values argument word returned
positional_values _ _ word returned = []

-- THE OPTIONS

-- what the word matches, where options are offered
abbrev pub offered_match : Bool → List Arg → List ℕ → OptionMatch
offered_match offered arguments word = if offered then match_of arguments word else Listed []

-- values within the word are the first of their argument
abbrev pub match_question : OptionMatch → Question
match_question (Listed found) = nothing
match_question (ValuesOf wanted) =
    question wanted.argument 0 (part wanted.argument.value_delimiter wanted.text)

abbrev pub match_candidates : OptionMatch → List CompletionCandidate → List CompletionCandidate
match_candidates (Listed found) returned = found
match_candidates (ValuesOf wanted) returned =
    map (with_prefix wanted.before) (values wanted.argument wanted.text returned)

-- THE OPEN OPTION

-- as many values as it has are the number of the next one, counted from 0
abbrev pub open_question : Pending → List ℕ → Question
open_question (OptionOpen option count) word =
    question option count (part option.value_delimiter word)
open_question _ word = nothing

-- THE WORD

-- the questions for a word: for the children, the positional, a value within an option's word, the
-- open option
pub record Questions : Type 0 where
  pub children : Question
  pub positional : Question
  pub within : Question
  pub opened : Question

-- a list for each question
pub record Returned : Type 0 where
  pub children : List CompletionCandidate
  pub positional : List CompletionCandidate
  pub within : List CompletionCandidate
  pub opened : List CompletionCandidate

-- each list may be returned for its question
pub record AreAllowed (sources : MayReturn) (wanted : Questions) (returned : Returned)
    : Type 0 where
  pub children : Allows sources wanted.children returned.children
  pub positional : Allows sources wanted.positional returned.positional
  pub within : Allows sources wanted.within returned.within
  pub opened : Allows sources wanted.opened returned.opened

-- the questions for the offered lists
abbrev pub questions_of_lists : Tree → ℕ → OpenLists → Pending → List ℕ → Questions
questions_of_lists tree position lists pending word = record {
  children = children_question lists.children tree.node;
  positional = positional_question (positional_at tree.node.arguments position) lists.value word;
  within = match_question (offered_match lists.options tree.node.arguments word);
  opened = open_question pending word;
}

-- the questions for the word at a node, if the words before it lead to this state
abbrev pub questions : Tree → State → List ℕ → Questions
questions tree state word =
    questions_of_lists tree state.position
    (open_lists_by tree.node.arguments state.position state.escaped state.pending) state.pending
    word

-- the offered lists, one after another
abbrev pub offered : Tree → ℕ → OpenLists → List ℕ → Returned → List CompletionCandidate
offered tree position lists word returned =
    (offered_children lists.children tree word returned.children
    ++ positional_values
    (positional_at tree.node.arguments position) lists.value word returned.positional)
    ++ match_candidates (offered_match lists.options tree.node.arguments word) returned.within

-- The list whose finishing is offered. If an open option has too few values: its values alone. If
-- it may end here: its values, and then the other lists, finished. Without an open option: the
-- other lists.
abbrev pub finished_last : Pending → List ℕ → List CompletionCandidate → List CompletionCandidate
    → List CompletionCandidate
finished_last (OptionOpen option count) word returned besides =
    if nat_le (least option) count then values option word returned ++ finish besides
    else values option word returned
finished_last _ word returned besides = besides

-- what is offered in addition to the values of an open option
abbrev pub besides : Tree → State → List ℕ → Returned → List CompletionCandidate
besides tree state word returned =
    offered tree state.position
    (open_lists_by tree.node.arguments state.position state.escaped state.pending) word returned

-- the candidates that are offered for the word, if these lists are returned
abbrev pub candidates_for : Tree → State → List ℕ → Returned → List CompletionCandidate
candidates_for tree state word returned =
    finish (finished_last state.pending word returned.opened (besides tree state word returned))

-- the lists that may be offered for the word at a node
abbrev pub Offers : MayReturn → Tree → State → List ℕ → List CompletionCandidate → Type 0
Offers sources tree state word result =
    (returned : Returned) × AreAllowed sources (questions tree state word) returned
    × (result ≡ candidates_for tree state word returned)

-- the lists that may be offered for the word, the values of an open option aside
pub record AreOffered (sources : MayReturn) (tree : Tree) (position : ℕ) (lists : OpenLists)
    (word : List ℕ) (found : List CompletionCandidate) : Type 0 where
  pub children : List CompletionCandidate
  pub children_returned : Allows sources (children_question lists.children tree.node) children
  pub positional : List CompletionCandidate
  pub positional_returned : Allows sources
      (positional_question (positional_at tree.node.arguments position) lists.value word) positional
  pub within : List CompletionCandidate
  pub within_returned : Allows sources
      (match_question (offered_match lists.options tree.node.arguments word)) within
  pub is : found ≡ (offered_children lists.children tree word children
      ++ positional_values (positional_at tree.node.arguments position) lists.value word positional)
      ++ match_candidates (offered_match lists.options tree.node.arguments word) within

-- WHAT IS SO OF THE RESULT

-- the values of an open option; none if no option is open
abbrev pub opened_values : Pending → List ℕ → List CompletionCandidate → List CompletionCandidate
opened_values (OptionOpen option count) word returned = values option word returned
opened_values _ word returned = []

-- all that is gathered for the word: the values of an open option, and what is offered with them
abbrev pub all_gathered : Tree → State → List ℕ → Returned → List CompletionCandidate
all_gathered tree state word returned =
    opened_values state.pending word returned.opened ++ besides tree state word returned

-- if the values of an open option share no id with what is offered with them, all is finished once
abbrev pub FinishesOnce : Tree → State → List ℕ → Returned → List CompletionCandidate → Type 0
FinishesOnce tree state word returned result =
    ShareNone (opened_values state.pending word returned.opened) (besides tree state word returned)
    → result ≡ finish (all_gathered tree state word returned)

-- The result is sorted. It has the visible candidates if any is visible, and the first of each id.
-- They are sorted by the rank of their tags and then by display order, and ties keep their order.
-- The lists that are offered with the values of an open option are sorted so before they come after
-- these.
abbrev pub IsSorted : Tree → State → List ℕ → Returned → List CompletionCandidate → Type 0
IsSorted tree state word returned result =
    AreGrouped (first_of_ids (shown_or_all
    (finished_last state.pending word returned.opened (besides tree state word returned)))) result
    × AreGrouped (first_of_ids (shown_or_all (besides tree state word returned)))
    (finish (besides tree state word returned))

-- where a visible candidate is gathered, no hidden one is in the result
abbrev pub ShowsVisible : Tree → State → List ℕ → Returned → List CompletionCandidate → Type 0
ShowsVisible tree state word returned result =
    list_any is_shown (all_gathered tree state word returned) ≡ true → AreShown result

-- the candidates that come from the list of a completer or a folder; none from any other list
abbrev pub completed : Question → List CompletionCandidate → List CompletionCandidate
completed (completer which number text) found = found
completed (paths hint text) found = found
completed _ found = []

-- the candidates that come from the lists of completers and of the folder, if these are offered
abbrev pub completed_by_lists : Tree → ℕ → OpenLists → Pending → List ℕ → Returned
    → List CompletionCandidate
completed_by_lists tree position lists pending word returned =
    completed (positional_question (positional_at tree.node.arguments position) lists.value word)
    (positional_values (positional_at tree.node.arguments position) lists.value word
    returned.positional)
    ++ (completed (match_question (offered_match lists.options tree.node.arguments word))
    (match_candidates (offered_match lists.options tree.node.arguments word) returned.within)
    ++ completed (open_question pending word) (opened_values pending word returned.opened))

-- the same for the word at a node, where the words before it lead to this state
abbrev pub completed_candidates : Tree → State → List ℕ → Returned → List CompletionCandidate
completed_candidates tree state word returned =
    completed_by_lists tree state.position
    (open_lists_by tree.node.arguments state.position state.escaped state.pending)
    state.pending word returned

-- each candidate of the result begins with the word, or comes from the list of a completer or of
-- the folder
abbrev pub BeginsOrIsCompleted : Tree → State → List ℕ → Returned → List CompletionCandidate
    → Type 0
BeginsOrIsCompleted tree state word returned result =
    AllByRecursion (λ c. (begins word c ≡ true) ⊎ Contains
    (completed_candidates tree state word returned) c) result

-- THE WORDS

-- how many words are before those of the command: the program's name
abbrev pub names_before : Node → ℕ
names_before node = if node.no_binary_name then 0 else 1

-- there is a word at the index, and it isn't the program's name
abbrev pub is_in_range : Node → ℕ → ℕ → Bool
is_in_range node count index = nat_le (names_before node) index && nat_lt index count

-- the words before the index, without the program's name
abbrev pub words_before : Node → List (List ℕ) → ℕ → List (List ℕ)
words_before node words index = drop (names_before node) (take index words)

-- The words before the index lead to this tree and this state, and to no others, and this word, which
-- is text, is at the index. If none of those words is a hidden alias at the command that reads it,
-- the walk by visible names ends at this tree.
pub record IsPlace (root : Tree) (words : List (List ℕ)) (index : ℕ) (tree : Tree) (state : State)
    (word : List ℕ) : Type 0 where
  pub leads : WordsLeadTo root (words_before root.node words index) tree state
  pub only : WordsLeadOnlyTo root (words_before root.node words index) tree state
  pub visible : HasNoHiddenAlias root (words_before root.node words index)
      → tree ≡ visible_end root (words_before root.node words index)
  pub is_word : word ≡ get_or words index []
  pub is_text : IsUtf8 (get_or words index [])

-- The lists that may be offered for the word at the index. The words before it lead to one node and
-- one state, and to no others, and the result is a list that may be offered there. If none of those
-- words is a hidden alias at the command that reads it, the node is that of the walk by visible
-- names. The laws are about this node and state, and about the very lists that make the result.
pub record Completes (sources : MayReturn) (root : Tree) (words : List (List ℕ)) (index : ℕ)
    (result : List CompletionCandidate) : Type 0 where
  pub tree : Tree
  pub state : State
  pub leads : WordsLeadTo root (words_before root.node words index) tree state
  pub only : WordsLeadOnlyTo root (words_before root.node words index) tree state
  pub visible : HasNoHiddenAlias root (words_before root.node words index)
      → tree ≡ visible_end root (words_before root.node words index)
  pub offers : Offers sources tree state (get_or words index []) result
  pub grouped : IsSorted tree state (get_or words index []) offers.0 result
  pub once : FinishesOnce tree state (get_or words index []) offers.0 result
  pub shows_visible : ShowsVisible tree state (get_or words index []) offers.0 result
  pub begins_or_completed : BeginsOrIsCompleted tree state (get_or words index []) offers.0 result

-- How a call ends that builds the tree and finds no candidates: out of memory, with the tree as it
-- was, or built; or with the tree built and the index out of range.
abbrev pub Refuses : Tree → Tree → ℕ → ℕ → Error → Type 0
Refuses old new count index Memory = (new ≡ old) ⊎ (new ≡ built_tree old)
Refuses old new count index NoCompletion =
    (new ≡ built_tree old) × (is_in_range new.node count index ≡ false)
Refuses old new count index _ = ⊥
