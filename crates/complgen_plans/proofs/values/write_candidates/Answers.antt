use Rattle.std.proofs.Common.{ap}
use Rattle.std.specs.Option.{option_copied}
use Rattle.complgen_plans.proofs.PlanLemmas.{values_unread, values_used}
use Rattle.complgen_plans.proofs.values.write_candidates.Goals as goal

pub returns-in_default : goal.returns-in_default
returns-in_default g c =
    values_unread _ _ _ _ _ _ _ _ _ _ (ap option_copied c.in_default.is)
    c.unreadable_values.ensures

pub returns : goal.returns
returns g c =
    values_used _ _ _ _ _ _ _ _ _ _ _ _ (ap option_copied c.in-Some.is) c.reply_with.ensures
