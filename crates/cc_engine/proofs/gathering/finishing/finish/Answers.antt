use Rattle.std.proofs.Common.{sym, subst}
use Rattle.std.proofs.lemmas.Result.{IfOk-weaker}
use Rattle.cc_engine.specs.Finished.{AreGrouped, AreShown, Differ, first_of_ids, shown_or_all}
use Rattle.cc_engine.proofs.FinishingLaws.{visible, differ, order}
use Rattle.cc_engine.proofs.gathering.finishing.finish.Goals as goal

pub returns-clause-visible : goal.returns-clause-visible
returns-clause-visible c =
    IfOk-weaker c.group_first_of_ids.result _ _ (λ finished e h. subst AreShown (sym e) (visible c.args.candidates.items h)) c.group_first_of_ids.ensures

pub returns-clause-differ : goal.returns-clause-differ
returns-clause-differ c =
    IfOk-weaker c.group_first_of_ids.result _ _ (λ finished e. subst Differ (sym e) (differ c.args.candidates.items)) c.group_first_of_ids.ensures

pub returns-clause-order : goal.returns-clause-order
returns-clause-order c =
    IfOk-weaker c.group_first_of_ids.result _ _
    (λ finished e. subst (AreGrouped (first_of_ids (shown_or_all c.args.candidates.items))) (sym e) (order c.args.candidates.items))
    c.group_first_of_ids.ensures
