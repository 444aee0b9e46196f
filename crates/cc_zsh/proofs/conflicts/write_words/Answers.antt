use Rattle.std.proofs.Common.{◌++◌, ◌+◌, ℕ, arith, codes, drop, ap, length, length-append, sym, ◌∙◌, rules}
use Rattle.std.specs.Option.{option_to_list}
use Rattle.std.proofs.lemmas.Result.{err_from_is_err_and}
use Rattle.std.proofs.lemmas.List.Concat.{flat_map-append}
use Rattle.cc_base.proofs.JoinedTexts.{joined_step}
use Rattle.cc_base.proofs.Lists.{one_more}
use Rattle.cc_base.specs.Joined.{joined_after}
use Rattle.cc_command.specs.ArgumentLists.{first_with_id}
use Rattle.cc_base.proofs.Stopped.{stops_joined}
use Rattle.cc_zsh.specs.Conflicts.{conflict_words, own_words, with_ids}
use Rattle.cc_zsh.proofs.conflicts.write_words.Goals as goal

pub loop-id-preserved : goal.loop-id-preserved
loop-id-preserved g c =
    let arguments = c.args.arguments.now in
    let items = c.args.ids.now in
    let i = c.loop-id.id-index in
    let item = c.id-item.result in
    let left = drop (i + 1) items in
    let found = option_to_list (first_with_id arguments item) in
    let taken = g.W.Sink.taken c.loop-id.sink in
    let opened = ap (λ ids. conflict_words (with_ids arguments ids))
    (one_more items i item item c.loop-id-test.true c.id-item.is)
    ∙ flat_map-append own_words found (with_ids arguments left) in
    record {
      whole = joined_step (codes " ") c.loop-id.begun c.write_first.new.begun
          (conflict_words found) (conflict_words (with_ids arguments left)) taken _ _
          c.in_ok-write_first.ensures.written.ok c.in_ok-write_first.ensures.begun
          (ap (λ texts. taken ++ joined_after (codes " ") c.loop-id.begun texts) (sym opened)
          ∙ c.loop-id.invariant.whole);
      least =
          let took = ap length c.in_ok-write_first.ensures.written.ok in
          omega (arith, length-append {A = ℕ}, took, c.loop-id.invariant.least);
      failures = search rules;
    }

pub returns-in_err-write_first : goal.returns-in_err-write_first
returns-in_err-write_first g c =
    let p = err_from_is_err_and c.from_residual.result c.from_residual.ensures.1 in
    let arguments = c.args.arguments.now in
    let items = c.args.ids.now in
    let i = c.loop-id.id-index in
    let item = c.id-item.result in
    let left = drop (i + 1) items in
    let found = option_to_list (first_with_id arguments item) in
    rw (p.1, p.2) (stops_joined (codes " ") c.loop-id.begun _ _ (conflict_words found) (conflict_words (with_ids arguments left)) (ap (λ ids. conflict_words (with_ids arguments ids)) (one_more items i item item c.loop-id-test.true c.id-item.is) ∙ flat_map-append own_words found (with_ids arguments left)) c.loop-id.invariant c.in_err-write_first.ensures.written)
