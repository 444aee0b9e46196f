use Rattle.std.proofs.lemmas.Result.{err_from_is_err_and}
use Rattle.cc_program.specs.ClapParses.{no_command}
use Rattle.cc_program.proofs.ClapCases.{clap_parses}
use Rattle.cc_program.proofs.word_parser.ClapParserWordParser.parse.Goals as goal

pub returns-in_err-parser : goal.returns-in_err-parser
returns-in_err-parser c =
    let p = err_from_is_err_and c.from_residual.result c.from_residual.ensures.1 in
    rw p.1 (no_command _ p.2)

pub returns : goal.returns
returns c =
    let made = c.in_ok-parser.ensures in
    let tried = c.try_get_matches_from.ensures in
    clap_parses _ _ c.in_ok-parser.parser c.try_get_matches_from.result
    (record { globals = made.globals; app = made.app; taken = made.taken })
    tried.parsed tried.subcommand tried.matches tried.passes tried.kinds
