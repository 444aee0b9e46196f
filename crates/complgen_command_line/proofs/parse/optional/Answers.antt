use Rattle.std.proofs.Common.{◌∙◌, Some, ap, option_map, sym}
use Rattle.std.specs.Borrow.{Bor}
use Rattle.clap.proofs.WalkLemmas.{first_value-rows}
use Rattle.clap.specs.Words.{Text, found_of}
use Rattle.complgen_command_line.proofs.parse.optional.Goals as goal

pub returns-in_ok-from_str-in-Some : goal.returns-in_ok-from_str-in-Some
returns-in_ok-from_str-in-Some c =
    ap Some c.in_ok-from_str-in-Some.ensures.ok
    ∙ ap (option_map (λ (s : Bor Text). s.now)) (sym c.in-Some.is)
    ∙ c.get_str.ensures ∙ first_value-rows (found_of c.args.values.now) c.args.id.now

pub returns-in-None : goal.returns-in-None
returns-in-None c = ap (option_map (λ (s : Bor Text). s.now)) (sym c.in-None.is)
    ∙ c.get_str.ensures ∙ first_value-rows (found_of c.args.values.now) c.args.id.now
