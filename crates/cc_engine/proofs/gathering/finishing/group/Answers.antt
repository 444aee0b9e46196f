use Rattle.std.proofs.Common.{rules, ◌∙◌}
use Rattle.std.proofs.lemmas.Fn.{always_returns_same}
use Rattle.std.proofs.lemmas.Result.{IfOk-weaker}
use Rattle.cc_engine.specs.Ranked.{ranked_before}
use Rattle.cc_engine.proofs.Groups.{grouped_from, order}
use Rattle.cc_engine.proofs.gathering.finishing.group.Goals as goal

pub returns : goal.returns
returns c =
    IfOk-weaker c.candidates_of.result _ _
    (λ finished e. e
    ∙ grouped_from c.args.candidates.items c.as_slice.result.now c.in_ok-ranks.ranks.items c.in_ok-all.all.items c.sort_by.new.self.items
    (search rules) c.in_ok-ranks.ensures c.in_ok-all.ensures
    (c.in_ok-sort_by.ensures.sorted ranked_before order (always_returns_same _ _ _ (λ a r f k. search rules)))
    (c.in_ok-sort_by.ensures.stable ranked_before order (always_returns_same _ _ _ (λ a r f k. search rules))))
    c.candidates_of.ensures
