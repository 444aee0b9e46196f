use Rattle.std.proofs.Common.{◌+◌, ap, drop, flat_map}
use Rattle.std.proofs.lemmas.Result.{err_from_is_err_and}
use Rattle.cc_base.proofs.Lists.{one_more}
use Rattle.cc_bash.specs.Nodes.{part_words}
use Rattle.cc_bash.proofs.WordLoops.{words_step, words_stop}
use Rattle.cc_bash.proofs.words.write_part.Goals as goal

pub loop-argument-preserved : goal.loop-argument-preserved
loop-argument-preserved g c =
    let items = c.args.arguments.now in
    let i = c.loop-argument.argument-index in
    let item = c.argument-item.result in
    words_step _ _ _ _ (part_words c.args.part item) (flat_map (part_words c.args.part) (drop (i + 1) items)) (ap (flat_map (part_words c.args.part)) (one_more items i item item c.loop-argument-test.true c.argument-item.is)) c.loop-argument.invariant c.in_ok-write_argument_words.ensures.written c.in_ok-write_argument_words.ensures.begun

pub returns-in_err-write_argument_words-clause-written : goal.returns-in_err-write_argument_words-clause-written
returns-in_err-write_argument_words-clause-written g c =
    let p = err_from_is_err_and c.from_residual.result c.from_residual.ensures.1 in
    let items = c.args.arguments.now in
    let i = c.loop-argument.argument-index in
    let item = c.argument-item.result in
    rw (p.1, p.2) (words_stop _ _ _ _ (part_words c.args.part item) (flat_map (part_words c.args.part) (drop (i + 1) items)) (ap (flat_map (part_words c.args.part)) (one_more items i item item c.loop-argument-test.true c.argument-item.is)) c.loop-argument.invariant c.in_err-write_argument_words.ensures.written)
