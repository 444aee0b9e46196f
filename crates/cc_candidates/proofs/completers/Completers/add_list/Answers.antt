use Rattle.std.proofs.Common.{arith}
use Rattle.cc_candidates.proofs.AddedLast.{added_last}
use Rattle.cc_candidates.proofs.completers.Completers.add_list.Goals as goal

pub returns-clause-added : goal.returns-clause-added
returns-clause-added g c =
    added_last _ _ c.args.self.now.lists.items c.args.self.now.added_lists.items _ _ _
    c.in_ok-push.ensures.items (omega (arith, c.len.ensures, c.len-2.ensures))
