use Rattle.complgen_plans.proofs.ReplyLemmas.{are_found, without_completers}
use Rattle.complgen_plans.proofs.replies.candidates.Goals as goal

pub returns-clause-ok : goal.returns-clause-ok
returns-clause-ok g c =
    are_found (λ found. found.items) _ _ c.args.words.items c.args.index c.args.command
    c.complete-found.new.command c.complete-found.result
    (without_completers _ _ c.none.result.completers.items c.none.result.added_completers.items
    _ _ c.none.result.lists.items c.none.result.added_lists.items _
    c.none.ensures.completers c.none.ensures.lists)
    c.complete-found.ensures.candidates c.complete-found.ensures.built c.complete-found.ensures.in_range
