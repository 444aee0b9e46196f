use Rattle.complgen_plans.proofs.ReplyLemmas.{are_found_with, find_none_with, without_completers}
use Rattle.complgen_plans.proofs.given_replies.found_with.Goals as goal

pub returns-clause-ok : goal.returns-clause-ok
returns-clause-ok g c =
    are_found_with (λ found. found.items) _ _ c.args.lines.now c.args.word.words.now
    c.in_ok-words.words.items c.args.word.index c.args.command.now c.complete_with_lines.result
    (without_completers _ _ c.none-completers.result.completers.items
    c.none-completers.result.added_completers.items _ _ c.none-completers.result.lists.items
    c.none-completers.result.added_lists.items _ c.none-completers.ensures.completers
    c.none-completers.ensures.lists)
    c.in_ok-words.ensures c.complete_with_lines.ensures.candidates
    c.complete_with_lines.ensures.in_range

pub returns-clause-err : goal.returns-clause-err
returns-clause-err g c =
    find_none_with c.args.lines.now c.args.command.now c.complete_with_lines.new.command
    c.args.word.words.now c.in_ok-words.words.items c.args.word.index c.complete_with_lines.result
    c.in_ok-words.ensures c.complete_with_lines.ensures.errors
