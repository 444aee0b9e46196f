use Rattle.std.proofs.Common.{◌∙◌, ◌+◌, ◌++◌, ℕ, IsTrue, ap, arith, drop, get_or, length, length-append, subst, sym}
use Rattle.std.proofs.Math.ListN.{drop_of_length-le}
use Rattle.std.proofs.lemmas.List.{append-nil, append_assoc, drop_more}
use Rattle.std.proofs.lemmas.Result.{err_from_is_err_and}
use Rattle.std.specs.List.{AllByRecursion}
use Rattle.cc_command.specs.Built.{built_under}
use Rattle.cc_command.specs.Plain.{is_plain_tree}
use Rattle.cc_command.specs.Tree.{Tree}
use Rattle.cc_base.proofs.Stopped.{part_within}
use Rattle.cc_shell.specs.Shells.{shell_spec}
use Rattle.cc_shell.specs.declared.shell.Shell.TheVariants.{Bash}
use Rattle.complgen_scripts.specs.AllScripts.{HasNoLabels, ReadsBack, path_line, path_lines}
use Rattle.complgen_scripts.specs.AllScripts.{written}
use Rattle.complgen_scripts.proofs.FileLemmas.{files_failed, line_written, none_shared}
use Rattle.complgen_scripts.proofs.all_scripts.write_each.Goals as goal

pub returns-in_err-write_one-clause-ends : goal.returns-in_err-write_one-clause-ends
returns-in_err-write_one-clause-ends g c =
    let p = err_from_is_err_and c.from_residual.result c.from_residual.ensures.1 in
    let shells = c.args.shells.now in
    let i = c.loop-shell.shell-index in
    let rest = c.loop-shell.invariant in
    let lines = path_lines c.args.bin.now c.args.folder.now in
    let at = drop_more shells i Bash c.loop-shell-test.true in
    let labels = subst (AllByRecursion HasNoLabels) at rest.no_labels in
    rw (p.1, p.2) (files_failed _ _ _ _ _ _ _ _ _
    (λ begun. part_within _ _ _ _ _ (lines (drop (i + 1) shells)) rest.lines.least
    (ap (λ left. g.W.Sink.taken c.loop-shell.out ++ lines left) (sym at) ∙ rest.lines.whole) begun)
    (none_shared _ _ _ _ _ _ _ _ (labels.0 _) c.in_err-write_one.ensures.ends) rest.lines.failures)

pub loop-shell-preserved : goal.loop-shell-preserved
loop-shell-preserved g c =
    let shells = c.args.shells.now in
    let i = c.loop-shell.shell-index in
    let rest = c.loop-shell.invariant in
    let lines = path_lines c.args.bin.now c.args.folder.now in
    let at = drop_more shells i Bash c.loop-shell-test.true in
    let labels = subst (AllByRecursion HasNoLabels) at rest.no_labels in
    let one = line_written g.W.Sink.taken g.W.Sink.failed c.args.folder.now _ _ _
    (none_shared g.W.Sink.taken g.W.Sink.failed c.args.folder.now _ _ _ _ _ (labels.0 _)
    c.in_ok-write_one.ensures.ends) in
    let built = ap (built_under _) rest.command ∙ c.requires.built in
    let reads = c.in_ok-write_one.ensures.reads in
    let here : ReadsBack c.args.bin.now c.args.command.now (get_or shells i Bash) = λ plain name.
    subst (λ (t : Tree). (shell_spec (get_or shells i Bash)).Reads t) built
    (reads (subst (λ (t : Tree). IsTrue (is_plain_tree t)) (sym rest.command) plain) name) in
    record {
      lines = record {
        whole = ap (λ t. t ++ lines (drop (i + 1) shells)) one.0
            ∙ append_assoc (g.W.Sink.taken c.loop-shell.out)
            (path_line c.args.bin.now c.args.folder.now (get_or shells i Bash)) (lines (drop (i + 1) shells))
            ∙ ap (λ left. g.W.Sink.taken c.loop-shell.out ++ lines left) (sym at) ∙ rest.lines.whole;
        least =
            let took = ap length one.0 in omega (arith, length-append {A = ℕ}, took, rest.lines.least);
        failures = one.1 ∙ rest.lines.failures;
      };
      command = c.in_ok-write_one.ensures.built ∙ built;
      no_labels = labels.1;
      reads = λ others. rest.reads (subst (AllByRecursion (ReadsBack c.args.bin.now c.args.command.now))
          (sym at) (here, others));
    }

pub returns-clause-ends : goal.returns-clause-ends
returns-clause-ends g c =
    let rest = c.loop-shell.invariant in
    let lines = path_lines c.args.bin.now c.args.folder.now in
    let past = drop_of_length-le c.args.shells.now c.loop-shell-test.false in
    written (sym (append-nil _) ∙ ap (λ left. g.W.Sink.taken c.loop-shell.out ++ lines left) (sym past)
    ∙ rest.lines.whole) rest.lines.failures
