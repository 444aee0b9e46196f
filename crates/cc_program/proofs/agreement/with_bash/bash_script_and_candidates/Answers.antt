use Rattle.std.proofs.Common.{map, string_bytes}
use Rattle.std.specs.Prelude.{length}
use Rattle.cc_program.proofs.Together.{all_agree, all_built, all_written, second_counts, second_fails}
use Rattle.cc_program.proofs.agreement.with_bash.bash_script_and_candidates.Goals as goal

pub returns-clause-built : goal.returns-clause-built
returns-clause-built g c =
    all_built (string_bytes c.args.bin_name) c.args.command.now c.generate.new.command c.complete_from.new.command c.complete_from.result
    c.in_ok-generate.ensures.built c.complete_from.ensures.built

pub returns-clause-written : goal.returns-clause-written
returns-clause-written g c =
    all_written (string_bytes c.args.bin_name) _ _ c.args.command.now c.generate.new.command c.complete_from.new.command c.complete_from.result
    c.in_ok-generate.ensures.built c.complete_from.ensures.built c.in_ok-generate.ensures.written.ok

pub returns-clause-agree : goal.returns-clause-agree
returns-clause-agree g c =
    all_agree (λ found. found.items) _ (string_bytes c.args.bin_name) c.args.command.now c.generate.new.command c.complete_from.new.command
    (map string_bytes c.args.words.items) c.args.index c.complete_from.result
    c.in_ok-generate.ensures.built c.complete_from.ensures.built c.in_ok-generate.ensures.plain c.complete_from.ensures.candidates

pub returns-clause-errors : goal.returns-clause-errors
returns-clause-errors g c =
    second_fails (string_bytes c.args.bin_name) _ _ c.args.command.now c.generate.new.command c.complete_from.new.command
    (length c.args.words.items) c.args.index c.complete_from.result
    c.in_ok-generate.ensures.built c.in_ok-generate.ensures.written.ok c.complete_from.ensures.errors

pub returns-clause-failures : goal.returns-clause-failures
returns-clause-failures g c =
    second_counts c.generate.new.command c.complete_from.new.command (length c.args.words.items) c.args.index _ _
    c.complete_from.result c.in_ok-generate.ensures.written.failures c.complete_from.ensures.errors
