-- The steps of a program that parses its words.
use Rattle.std.proofs.Common.{◌≡◌, Result, Ok, subst}
use Rattle.std.specs.declared.process.ExitCode.{ExitCode}
use Rattle.clap.specs.declared.parser.matches.ArgMatches.{ArgMatches}
use Rattle.cc_base.specs.declared.error.Error.{Error}
use Rattle.cc_base.specs.declared.sink.Sink.{Ghosts}
use Rattle.cc_command.specs.Built.{built_tree}
use Rattle.cc_command.specs.Tree.{Tree}
use Rattle.cc_program.specs.Statuses.{EndsParse, EndsTree, ParserFacts, tree_parsed}
use Rattle.cc_program.specs.declared.failure.Failure.{Failure}
use Rattle.cc_program.specs.declared.streams.Streams.{Streams}

module _ {E O X : Type 0} (out : Ghosts O) (err : Ghosts X) (Makes : Result Tree Error → Type 0) (parser : ParserFacts)
    (Does : ArgMatches → Result (Unit {0}) E → Type 0) (old : Streams O X) where
  -- the words are parsed by the tree that is made and then built
  pub parsed_by : (new : Streams O X) (tree made : Tree) (result : Result ExitCode (Failure E)) → Makes (Ok tree) → made ≡ built_tree tree
      → EndsTree out err made parser Does old new result → EndsParse out err Makes parser Does old new result
  parsed_by new tree made result makes is ends =
      tree_parsed tree result makes (subst (λ (built : Tree). EndsTree out err built parser Does old new result) is ends)

  -- a completion before that wrote nothing to the first stream
  pub parse_untouched : (mid : O) → mid ≡ old.out → (new : Streams O X) (result : Result ExitCode (Failure E))
      → EndsParse out err Makes parser Does (record old { out = mid }) new result → EndsParse out err Makes parser Does old new result
  parse_untouched mid same new result ends =
      subst (λ (o : O). EndsParse out err Makes parser Does (record old { out = o }) new result) same ends
