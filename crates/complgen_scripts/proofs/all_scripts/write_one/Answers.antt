use Rattle.std.proofs.Common.{◌∙◌, ℕ, List, subst, sym}
use Rattle.std.specs.Prelude.{String}
use Rattle.std.specs.declared.alloc.Global.{Global}
use Rattle.std.proofs.lemmas.Result.{err_from_is_err_and}
use Rattle.complgen_scripts.specs.AllScripts.{PrintsLine}
use Rattle.complgen_scripts.specs.Refusals.{as_line}
use Rattle.complgen_scripts.proofs.FileLemmas.{file_printed, file_refused, file_without_memory}
use Rattle.complgen_scripts.proofs.all_scripts.write_one.Goals as goal

pub returns-in_err-name-clause-ends : goal.returns-in_err-name-clause-ends
returns-in_err-name-clause-ends g c =
    let p = err_from_is_err_and c.from_residual.result c.from_residual.ensures.1 in
    rw p.1 (file_without_memory _ _ _ _ _ _ _ p.2)

pub returns-in-Ok-clause-ends : goal.returns-in-Ok-clause-ends
returns-in-Ok-clause-ends g c =
    rw (sym c.in_ok-name.ensures.ok)
    (file_printed _ _ _ c.in-Ok.path _ _ _ _ _ c.in-Ok.ensures.ends
    (subst (λ (path : List ℕ). PrintsLine g.W.Sink.taken g.W.Sink.failed (as_line path)
    c.args.out.now c.put_path.new.out c.put_path.result)
    (c.as_str.ensures.value ∙ c.in-Ok.ensures.path) c.put_path.ensures))

pub returns-in-Err-clause-ends : goal.returns-in-Err-clause-ends
returns-in-Err-clause-ends g c =
    rw (sym c.in_ok-name.ensures.ok)
    (file_refused _ _ _ (String Global) _ _ _ c.in-Err.error _ c.in-Err.ensures.ends c.file_refusal.ensures)
