use Rattle.std.specs.Option.{option_copied}
use Rattle.cc_engine.proofs.ValuesInTurn.{values_pushed}
use Rattle.cc_engine.proofs.questions.values_at.Goals as goal

pub returns : goal.returns
returns c =
    values_pushed c.args.command.now c.args.state.now c.args.word.now c.get_arguments-arguments.result.now c.new-lists.result
    (option_copied c.positional_at-positional.result) _ _ _ _
    c.get_arguments-arguments.ensures c.new-lists.ensures c.positional_at-positional.ensures c.new-found.ensures.items
    c.in_ok-push_opened.ensures c.in_ok-push_within.ensures c.in_ok-push_positional.ensures
