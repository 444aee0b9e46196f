use Rattle.std.proofs.Common.{[], Bor, List, ℕ}
use Rattle.cc_replies.proofs.Named.{with_named}
use Rattle.cc_replies.proofs.system.variables.Goals as goal

pub loop-name-preserved : goal.loop-name-preserved
loop-name-preserved g c =
    let none : Bor (List ℕ) = record { ref_ptr = (0, 0); now = [] } in
    with_named c.args.names.now c.loop-name.name-index none c.loop-name.found.items _ _ _ c.in_ok-push.ensures.items
    c.in-Some.is c.loop-name-test.true c.in_ok-variable.ensures c.loop-name.invariant

pub loop-name-preserved-in_default : goal.loop-name-preserved-in_default
loop-name-preserved-in_default g c = c.loop-name.invariant
