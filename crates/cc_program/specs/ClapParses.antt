-- The parses of words by the command that `clap` has for a tree.
use Rattle.std.specs.Prelude.{◌≡◌, ⊤, ℕ, List, [], false, true, Result, Ok, Err}
use Rattle.clap.specs.Faults.{fault_of, is_simple_and_free}
use Rattle.clap.specs.Kinds.{HasKind}
use Rattle.clap.specs.Values.{kind_of}
use Rattle.clap.specs.Words.{HasMatchesOf, IsParsedFrom, MeetsSubcommandOf, app_of, takes}
use Rattle.clap.specs.declared.builder.command.Command.{Command}
use Rattle.clap.specs.declared.builder.command.Command.TheViews.{out-Command}
use Rattle.clap.specs.declared.error.Error.{Error}
use Rattle.clap.specs.declared.error.kind.ErrorKind.TheVariants.{OutOfMemory}
use Rattle.clap.specs.declared.parser.matches.ArgMatches.{ArgMatches}
use Rattle.cc_command.specs.Tree.{Tree}
use Rattle.cc_parser.specs.Parsers.{IsAppOf, has_globals}
use Rattle.cc_parser.specs.Taken.{TakesOffered, fits_parser}
use Rattle.cc_program.specs.Statuses.{ParserFacts}

-- The command that `cc_parser` makes of a built tree. If no argument is global, a parse reads it as
-- the tree describes it, and if the tree also fits, it accepts what completion offers for the root.
pub record IsCommandOf (tree : Tree) (command : Command) : Type 0 where
  pub globals : (out-Command command).has_globals ≡ has_globals tree
  pub app : has_globals tree ≡ false → IsAppOf tree (app_of command)
  pub taken : has_globals tree ≡ false → fits_parser tree ≡ true
      → TakesOffered tree (app_of command)

-- The possible results of a parse of words by a built tree.
pub data ParsesWithClap (tree : Tree) (words : List (List ℕ))
    : Result ArgMatches Error → Type 0 where
  -- there is no memory for the command
  no_command : (error : Error) → kind_of error ≡ OutOfMemory
      → ParsesWithClap tree words (Err error)
  -- The words have matches. Each value passes the parser of its argument, and what is required is
  -- there. If the command is simple, the matches are those that `clap` defines for these words.
  matched : (command : Command) (found : ArgMatches) → IsCommandOf tree command
      → IsParsedFrom command found
      → ((out-Command command).has_globals ≡ false → MeetsSubcommandOf command found)
      → HasMatchesOf (app_of command) words found
      → (is_simple_and_free (app_of command) ≡ true → fault_of (app_of command) words ≡ [])
      → ParsesWithClap tree words (Ok found)
  -- The words are refused. A simple command does so only if it does not take them, and then says
  -- why, unless memory runs out.
  refused : (command : Command) (error : Error) → IsCommandOf tree command
      → (takes (app_of command) words ≡ true → kind_of error ≡ OutOfMemory)
      → (is_simple_and_free (app_of command) ≡ true → HasKind (fault_of (app_of command) words) error)
      → ParsesWithClap tree words (Err error)

-- the facts of a parse of these words: `clap` has no clause on its texts
abbrev pub clap_facts : List (List ℕ) → ParserFacts
clap_facts words =
    record { Parses = λ tree result. ParsesWithClap tree words result; Says = λ error text. ⊤ }
