use Rattle.std.proofs.Common.{◌∙◌, ◌++◌, Err, IsTrue, Ok, ap, refl, subst, sym}
use Rattle.std.proofs.lemmas.Result.{err_from_is_err_and}
use Rattle.std.specs.Option.{option_copied}
use Rattle.complgen_check.specs.Checking.{AreSound, only_notes, out_of_memory}
use Rattle.complgen_check.specs.Report.{report_text}
use Rattle.complgen_check.proofs.CheckLemmas.{all_printed, not_printed, of_file, unread}
use Rattle.complgen_check.proofs.SoundLemmas.{sound}
use Rattle.complgen_check.proofs.checking.check.Goals as goal

pub returns-in_default-clause-ends : goal.returns-in_default-clause-ends
returns-in_default-clause-ends g c =
    unread g.W.Sink.taken g.W.Sink.failed (option_copied c.args.bin) c.args.report
    (option_copied c.args.file)
    c.from_static.result c.args.out.now (ap option_copied c.in_default.is)
    (record { status = c.from_static.ensures.status; text_is = c.from_static.ensures.text })

pub returns-in_err-found-clause-ends : goal.returns-in_err-found-clause-ends
returns-in_err-found-clause-ends g c =
    let p = err_from_is_err_and c.from_residual.result c.from_residual.ensures.1 in
    rw p.1 (of_file g.W.Sink.taken g.W.Sink.failed (option_copied c.args.bin)
    c.args.report (option_copied c.args.file) c.in-Some.bytes.now c.args.out.now c.args.out.now (Err p.0)
    (ap option_copied c.in-Some.is) (out_of_memory c.in-Some.bytes.now p.0 p.2
    (record { taken_same = refl; failed_same = refl })))

pub returns-in-Ok-clause-ends : goal.returns-in-Ok-clause-ends
returns-in-Ok-clause-ends g c =
    let bytes = c.in-Some.bytes.now in
    of_file g.W.Sink.taken g.W.Sink.failed (option_copied c.args.bin) c.args.report
    (option_copied c.args.file)
    bytes c.args.out.now c.put_findings.new.out (Ok c.only_notes.result)
    (ap option_copied c.in-Some.is)
    (all_printed g.W.Sink.taken g.W.Sink.failed (option_copied c.args.bin) c.args.report bytes c.args.out.now
    c.put_findings.new.out c.in_ok-found.found.items c.only_notes.result c.in_ok-found.ensures
    (c.only_notes.ensures ∙ ap only_notes c.as_slice-in-Ok.ensures.value)
    (c.in-Ok.ensures.ok
    ∙ ap (λ found. g.W.Sink.taken c.args.out.now ++ report_text c.args.report bytes found) c.as_slice.ensures.value)
    c.in-Ok.ensures.failures)

pub returns-in-Ok-clause-sound : goal.returns-in-Ok-clause-sound
returns-in-Ok-clause-sound g c = λ clean.
    subst (AreSound (option_copied c.args.bin)) (sym (ap option_copied c.in-Some.is))
    (sound (option_copied c.args.bin) c.in-Some.bytes.now c.in_ok-found.found.items
    c.in_ok-found.ensures
    (subst IsTrue (c.only_notes.ensures ∙ ap only_notes c.as_slice-in-Ok.ensures.value) clean))

pub returns-clause-ends : goal.returns-clause-ends
returns-clause-ends g c =
    of_file g.W.Sink.taken g.W.Sink.failed (option_copied c.args.bin) c.args.report
    (option_copied c.args.file)
    c.in-Some.bytes.now c.args.out.now c.put_findings.new.out (Err c.error_refusal.result)
    (ap option_copied c.in-Some.is)
    (not_printed g.W.Sink.taken g.W.Sink.failed (option_copied c.args.bin) c.args.report c.in-Some.bytes.now
    c.args.out.now c.put_findings.new.out c.in_ok-found.found.items c.as_slice.result.now c.in-Err.error
    c.error_refusal.result c.in_ok-found.ensures c.as_slice.ensures.value c.in-Err.ensures
    c.error_refusal.ensures)
