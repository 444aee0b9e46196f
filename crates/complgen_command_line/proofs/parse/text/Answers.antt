use Rattle.std.proofs.Common.{◌∙◌, ap, option_map, sym}
use Rattle.std.specs.Borrow.{Bor}
use Rattle.clap.proofs.WalkLemmas.{first_value-rows}
use Rattle.clap.specs.Words.{Text, first_of, found_of, rows_of}
use Rattle.complgen_command_line.proofs.CommandLineLemmas.{some_found}
use Rattle.complgen_command_line.proofs.parse.text.Goals as goal

pub unwrap-requires : goal.unwrap-requires
unwrap-requires c =
    let found = found_of c.args.values.now in
    some_found c.get_str.result (first_of c.args.id.now (rows_of found))
    (c.get_str.ensures ∙ first_value-rows found c.args.id.now) c.requires

pub returns : goal.returns
returns c =
    sym (first_value-rows (found_of c.args.values.now) c.args.id.now) ∙ sym c.get_str.ensures
    ∙ ap (option_map (λ (s : Bor Text). s.now)) c.unwrap.ensures
