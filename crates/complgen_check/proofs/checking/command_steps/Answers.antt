use Rattle.std.proofs.Common.{◌∙◌, ◌+◌, ◌++◌, [], ◌∷◌, ap, append_assoc, codes, drop, get_or, map, sym}
use Rattle.std.proofs.lemmas.List.{drop_more}
use Rattle.complgen_check.specs.Places.{index, key, shown_step}
use Rattle.complgen_check.specs.Checking.{command_steps}
use Rattle.complgen_check.proofs.checking.command_steps.Goals as goal

pub loop-index-preserved : goal.loop-index-preserved
loop-index-preserved c =
    let children = c.args.children.now in
    let i = c.loop-index.index-index in
    let before = map shown_step c.loop-index.steps.items in
    let at = drop_more children i 0 c.loop-index-test.true in
    ap (λ steps. steps ++ command_steps (drop (i + 1) children)) c.in_ok-push_place.ensures
    ∙ append_assoc before (key (codes "subcommands") ∷ index (get_or children i 0) ∷ [])
    (command_steps (drop (i + 1) children))
    ∙ ap (λ left. before ++ command_steps left) (sym at)
    ∙ c.loop-index.invariant
