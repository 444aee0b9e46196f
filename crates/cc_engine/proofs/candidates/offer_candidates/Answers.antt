use Rattle.std.proofs.Common.{◌∙◌, ap}
use Rattle.std.proofs.lemmas.Result.{IfOk-weaker}
use Rattle.cc_engine.specs.OpenLists.{open_lists_by}
use Rattle.cc_engine.proofs.Offering.{with_option, without_option}
use Rattle.cc_engine.proofs.candidates.offer_candidates.Goals as goal

pub returns-in_default : goal.returns-in_default
returns-in_default g c =
    IfOk-weaker c.finish.result _ _
    (λ found finished. without_option _ c.args.command.now c.args.state.now c.args.word.now c.new-lists.result c.in_ok-besides.besides.items found.items
    (c.new-lists.ensures ∙ ap (λ arguments. open_lists_by arguments c.args.state.now.position c.args.state.now.escaped c.args.state.now.pending) c.get_arguments.ensures) c.in_ok-besides.ensures (λ option count e. c.in_default.not-OptionOpen option count e) finished)
    c.finish.ensures.value

pub returns : goal.returns
returns g c =
    IfOk-weaker c.finish_values.result _ _
    (λ found finished. with_option _ c.args.command.now c.args.state.now c.args.word.now c.new-lists.result c.in-OptionOpen.option c.get.result.now c.get-2.result.now c.in-OptionOpen.count
    c.in_ok-values.values.items c.in_ok-besides.besides.items found.items
    (c.new-lists.ensures ∙ ap (λ arguments. open_lists_by arguments c.args.state.now.position c.args.state.now.escaped c.args.state.now.pending) c.get_arguments.ensures) c.in_ok-besides.ensures c.in-OptionOpen.is c.get.ensures c.get-2.ensures c.in_ok-values.ensures finished)
    c.finish_values.ensures
