use Rattle.std.proofs.Common.{◌≡◌, drop}
use Rattle.std.specs.List.{AllByRecursion}
use Rattle.cc_base.proofs.WrittenTexts.{GoesOn}
use Rattle.complgen_scripts.specs.AllScripts.{HasNoLabels, ReadsBack, path_lines}
use Rattle.complgen_scripts.proofs.all_scripts.write_each.Given as goal

-- the writing of the lines goes on; the command is unchanged; the remaining shells have no labels;
-- and if their scripts read back, all scripts do
abbrev pub invariant-loop-shell : goal.invariant-loop-shell
invariant-loop-shell g l = record {
  lines : GoesOn g.W.Sink.taken g.W.Sink.failed l.initial.out l.out
      (path_lines l.bin l.folder l.shells)
      (path_lines l.bin l.folder (drop l.shell-index l.shells));
  command : l.command ≡ l.initial.command;
  no_labels : AllByRecursion HasNoLabels (drop l.shell-index l.shells);
  reads : AllByRecursion (ReadsBack l.bin l.initial.command) (drop l.shell-index l.shells)
      → AllByRecursion (ReadsBack l.bin l.initial.command) l.shells;
}
