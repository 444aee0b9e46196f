use Rattle.complgen_live.specs.Answers.{parts_of}
use Rattle.complgen_live.proofs.AnswerLemmas.{answers_with_paths, without_completers}
use Rattle.complgen_live.proofs.answers.answer_for.Goals as goal

pub returns : goal.returns
returns g c =
    answers_with_paths
    (parts_of (g.D.Folder.facts c.args.request.now.folder.now) c.args.request.now) _ _ _ _ _
    c.is_trusted.ensures
    (without_completers _ _ c.none-completers.result.completers.items
    c.none-completers.result.added_completers.items _ _ c.none-completers.result.lists.items
    c.none-completers.result.added_lists.items _ c.none-completers.ensures.completers
    c.none-completers.ensures.lists) c.answer_call.ensures
