use Rattle.std.proofs.Common.{◌+◌, ◌∙◌, ap, drop, sym}
use Rattle.std.proofs.Math.Bool.{or-true}
use Rattle.std.proofs.lemmas.Result.{err_from_is_err_and}
use Rattle.cc_base.proofs.Lists.{one_more}
use Rattle.cc_command.specs.Names.{visible_names}
use Rattle.cc_command.specs.Tree.{forest_of}
use Rattle.cc_generator.specs.Subcommands.{sibling_names}
use Rattle.cc_bash.proofs.WordLoops.{words_step, words_stop}
use Rattle.cc_bash.proofs.words.write_children.Goals as goal

pub loop-child-preserved : goal.loop-child-preserved
loop-child-preserved g c =
    let items = c.args.children.now in
    let i = c.loop-child.child-index in
    let item = c.child-item.result in
    words_step _ _ _ _ (visible_names item.node) (sibling_names (forest_of (drop (i + 1) items))) (ap (λ commands. sibling_names (forest_of commands)) (one_more items i item item c.loop-child-test.true c.child-item.is)) c.loop-child.invariant c.in_ok-write_names.ensures.written (c.in_ok-write_names.ensures.begun ∙ sym (or-true c.loop-child.begun))

pub returns-in_err-write_names : goal.returns-in_err-write_names
returns-in_err-write_names g c =
    let p = err_from_is_err_and c.from_residual.result c.from_residual.ensures.1 in
    let items = c.args.children.now in
    let i = c.loop-child.child-index in
    let item = c.child-item.result in
    rw (p.1, p.2) (words_stop _ _ _ _ (visible_names item.node) (sibling_names (forest_of (drop (i + 1) items))) (ap (λ commands. sibling_names (forest_of commands)) (one_more items i item item c.loop-child-test.true c.child-item.is)) c.loop-child.invariant c.in_err-write_names.ensures.written)
