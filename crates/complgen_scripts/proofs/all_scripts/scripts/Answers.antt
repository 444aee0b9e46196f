use Rattle.std.proofs.Common.{◌≡◌, Some, refl, subst, sym}
use Rattle.std.proofs.lemmas.Result.{err_from_is_err_and, on_ok_weaker}
use Rattle.cc_command.proofs.BuiltAgain.{built_tree-again}
use Rattle.cc_command.specs.Built.{built_under}
use Rattle.cc_command.specs.Tree.{Tree}
use Rattle.complgen_scripts.proofs.FileLemmas.{all_read, first_failed, others_follow, scripts_unread}
use Rattle.complgen_scripts.proofs.all_scripts.scripts.Goals as goal

pub returns-in_err-command-clause-ends : goal.returns-in_err-command-clause-ends
returns-in_err-command-clause-ends g c =
    let p = err_from_is_err_and c.from_residual.result c.from_residual.ensures.1 in
    rw (p.1, p.2) (scripts_unread _ _ _ _ _ _ _ _ c.in_err-command.ensures)

pub returns-in-Err-clause-ends : goal.returns-in-Err-clause-ends
returns-in-Err-clause-ends g c =
    first_failed _ _ _ _ _ _ _ _ _ _ _ refl c.in_ok-command.ensures c.in-Err.ensures.ends

pub returns-in-Ok-clause-ends : goal.returns-in-Ok-clause-ends
returns-in-Ok-clause-ends g c =
    others_follow g.W.Sink.taken g.W.Sink.failed c.args.bin.now c.args.folder.now _ _ _ _ _ _ _ _
    refl c.in_ok-command.ensures c.in-Ok.ensures.ends c.write_each-ended.ensures.ends

pub returns-in-Ok-clause-read_back : goal.returns-in-Ok-clause-read_back
returns-in-Ok-clause-read_back g c = on_ok_weaker c.write_each-ended.result
    (all_read c.args.bin.now _ _ _ c.in_ok-command.ensures c.in-Ok.ensures.built
    c.in-Ok.ensures.reads) c.write_each-ended.ensures.reads

pub write_each-ended-requires-clause-built : goal.write_each-ended-requires-clause-built
write_each-ended-requires-clause-built g c =
    subst (λ (t : Tree). built_under (Some c.args.bin.now) t ≡ t) (sym c.in-Ok.ensures.built)
    (built_tree-again (Some c.args.bin.now) c.in_ok-command.command)
