-- The candidates of a command, and whether its parser accepts them.
use Rattle.std.specs.Prelude.{◌≡◌, ◌⊎◌, ◌++◌, ⊤, ℕ, Bool, List, [], Contains, Some, codes, encode_utf8, false, get_or, true}
use Rattle.std.specs.List.{AllByRecursion}
use Rattle.cc_arg.specs.declared.parts.ArgParts.{ArgParts as Arg}
use Rattle.cc_base.specs.declared.error.Error.{Error}
use Rattle.cc_base.specs.declared.error.Error.TheVariants.{Memory, NoCompletion}
use Rattle.cc_candidates.specs.declared.candidate.CompletionCandidate.{CompletionCandidate}
use Rattle.cc_command.specs.Tree.{Tree}
use Rattle.cc_engine.specs.Completion.{Offers, Returned, is_in_range, offered_match, opened_values, positional_values, match_candidates, words_before}
use Rattle.cc_engine.specs.OpenLists.{open_lists_by}
use Rattle.cc_engine.specs.Children.{external}
use Rattle.cc_engine.specs.declared.gathering.options.OptionMatch.{OptionMatch}
use Rattle.cc_engine.specs.declared.gathering.options.OptionMatch.TheVariants.{Listed, ValuesOf}
use Rattle.cc_parser.specs.Local.{local_tree}
use Rattle.cc_parser.specs.Parsers.{IsAppOf, has_globals}
use Rattle.cc_parser.specs.Taken.{KnowsChild, KnowsLong, KnowsShort, TakesOffered, answers_long, answers_short, fits_parser, id_of_long, id_of_short, parsed_long, parsed_short}
use Rattle.cc_engine.specs.Values.{MayReturn}
use Rattle.cc_engine.specs.Destination.{WordsLeadTo, WordsLeadOnlyTo}
use Rattle.cc_engine.specs.Lookup.{positional_at}
use Rattle.cc_engine.specs.declared.walking.state.State.{State}
use Rattle.clap.specs.Simple.{App}

-- The candidate is a long of an argument of the tree, with its id. By this long the parser finds an
-- argument: the one with the id of the first argument of the tree that has it.
pub record IsLongTaken (tree : Tree) (app : App) (candidate : CompletionCandidate) : Type 0 where
  pub argument : Arg
  pub there : Contains tree.node.arguments argument
  pub id : candidate.id ≡ Some (codes "arg::" ++ argument.id)
  pub name : List ℕ
  pub value : candidate.value ≡ codes "--" ++ name
  pub own : answers_long name argument ≡ true
  pub known : KnowsLong app name
  pub found : parsed_long app name ≡ id_of_long name tree.node.arguments

-- the same for a short, after a dash or after this word
pub record IsShortTaken (tree : Tree) (app : App) (word : List ℕ) (candidate : CompletionCandidate)
    : Type 0 where
  pub argument : Arg
  pub there : Contains tree.node.arguments argument
  pub id : candidate.id ≡ Some (codes "arg::" ++ argument.id)
  pub before : List ℕ
  pub place : (before ≡ codes "-") ⊎ (before ≡ word)
  pub short : ℕ
  pub value : candidate.value ≡ before ++ encode_utf8 short
  pub own : answers_short short argument ≡ true
  pub known : KnowsShort app short
  pub found : parsed_short app short ≡ id_of_short short tree.node.arguments

-- the candidate for this word is a name that the parser accepts, or one of the values
abbrev pub IsTaken : Tree → App → List ℕ → List CompletionCandidate → CompletionCandidate → Type 0
IsTaken tree app word values candidate =
    (KnowsChild app candidate.value ⊎ IsLongTaken tree app candidate)
    ⊎ (IsShortTaken tree app word candidate ⊎ Contains values candidate)

-- the values among the matches of the word
abbrev pub match_values : OptionMatch → List CompletionCandidate → List CompletionCandidate
match_values (Listed found) returned = []
match_values (ValuesOf wanted) returned = match_candidates (ValuesOf wanted) returned

-- the values among the gathered candidates: the names of other programs, the values of the
-- positional, the values within an option's word, and the values of an open option
abbrev pub values_among : Tree → State → List ℕ → Returned → List CompletionCandidate
values_among tree state word returned =
    let lists = open_lists_by tree.node.arguments state.position state.escaped state.pending in
    external tree.node returned.children
    ++ (positional_values
    (positional_at tree.node.arguments state.position) lists.value word returned.positional
    ++ (match_values (offered_match lists.options tree.node.arguments word) returned.within
    ++ opened_values state.pending word returned.opened))

-- The words before the index lead to one node and one state, and to no others. The candidates are
-- some that may be offered there. If that node is the root, each of them is a name that the parser
-- of the root accepts, or a value.
pub record AgreesWithParser (sources : MayReturn) (root : Tree) (app : App) (words : List (List ℕ))
    (index : ℕ) (found : List CompletionCandidate) : Type 0 where
  pub tree : Tree
  pub state : State
  pub leads : WordsLeadTo root (words_before root.node words index) tree state
  pub only : WordsLeadOnlyTo root (words_before root.node words index) tree state
  pub offers : Offers sources tree state (get_or words index []) found
  pub taken : tree ≡ root → AllByRecursion (IsTaken root app (get_or words index [])
      (values_among tree state (get_or words index []) offers.0)) found

-- The words before the index lead to this tree in one state, and to no other tree or state. The
-- candidates are some that may be offered there. If the tree fits its own parser, each of them is a
-- name that this parser accepts, or a value.
pub record AgreesWhereWordsLead (sources : MayReturn) (root tree : Tree) (app : App)
    (words : List (List ℕ)) (index : ℕ) (found : List CompletionCandidate) : Type 0 where
  pub state : State
  pub leads : WordsLeadTo root (words_before root.node words index) tree state
  pub only : WordsLeadOnlyTo root (words_before root.node words index) tree state
  pub offers : Offers sources tree state (get_or words index []) found
  pub taken : fits_parser tree ≡ true → AllByRecursion (IsTaken tree app (get_or words index [])
      (values_among tree state (get_or words index []) offers.0)) found

-- The parser with this reading is that of the tree in which no argument is global. `globals` tells
-- whether it has some.
pub record IsLocalParserOf (tree : Tree) (app : App) (globals : Bool) : Type 0 where
  pub is : IsAppOf (local_tree true tree) app
  pub no_globals : globals ≡ false
  pub taken : fits_parser tree ≡ true → TakesOffered tree app

-- The parser with this reading is the parser of the tree, if the tree has no global arguments.
-- `globals` tells whether it has some.
pub record IsParserOf (tree : Tree) (app : App) (globals : Bool) : Type 0 where
  pub is : has_globals tree ≡ false → IsAppOf tree app
  pub same_globals : globals ≡ has_globals tree
  pub taken : has_globals tree ≡ false → fits_parser tree ≡ true → TakesOffered tree app

-- the errors of a call that finds no candidates or makes no parser, and may have built this tree:
-- out of memory, or an index that is out of range
abbrev pub RefusesBoth : Tree → ℕ → ℕ → Error → Type 0
RefusesBoth built count index Memory = ⊤
RefusesBoth built count index NoCompletion = is_in_range built.node count index ≡ false
RefusesBoth built count index _ = ⊥
