use Rattle.cc_env.proofs.CompletionLemmas.{completes_alone, completes_over, leaves_alone, leaves_listed, ranges, refuses_over}
use Rattle.cc_env.proofs.asking.completion.complete_with_lines.Goals as goal

pub returns-in_default-clause-candidates : goal.returns-in_default-clause-candidates
returns-in_default-clause-candidates g c =
    completes_alone c.args.words.items _ c.as_slice.ensures.value c.args.index c.args.command.now
    c.asked_of.new.command c.in_ok-asked.ensures.built c.in_ok-asked.ensures.whole
    (λ found. found.items) _ c.args.lines.now c.complete_from.new.command _ c.complete_from.result
    c.in_default.is c.in_ok-asked.ensures.asks c.complete_from.ensures.built
    c.complete_from.ensures.candidates

pub returns-in-Ok-clause-candidates : goal.returns-in-Ok-clause-candidates
returns-in-Ok-clause-candidates g c =
    completes_over c.args.words.items _ c.as_slice.ensures.value c.args.index c.args.command.now
    c.asked_of.new.command c.in_ok-asked.ensures.built c.in_ok-asked.ensures.whole
    (λ found. found.items) _ c.args.lines.now c.list_lines.new.command
    c.complete_over.new.command _ c.in-Some.asked c.in-Ok.read c.complete_over.result c.in-Some.is
    c.in_ok-asked.ensures.asks c.in-Ok.ensures.read c.in-Ok.ensures.listed
    c.complete_over.ensures.built c.complete_over.ensures.candidates

pub returns-in_default-clause-built : goal.returns-in_default-clause-built
returns-in_default-clause-built g c =
    leaves_alone c.args.words.items _ c.as_slice.ensures.value c.args.index c.args.command.now
    c.asked_of.new.command c.in_ok-asked.ensures.built c.in_ok-asked.ensures.whole
    c.args.lines.now c.complete_from.new.command _ c.complete_from.result c.in_default.is c.in_ok-asked.ensures.asks
    c.complete_from.ensures.built

pub returns-in-Ok-clause-built : goal.returns-in-Ok-clause-built
returns-in-Ok-clause-built g c =
    leaves_listed c.args.words.items _ c.as_slice.ensures.value c.args.index c.args.command.now
    c.asked_of.new.command c.in_ok-asked.ensures.built c.in_ok-asked.ensures.whole
    c.args.lines.now c.list_lines.new.command c.complete_over.new.command _ c.in-Some.asked
    c.complete_over.result c.in-Some.is c.in_ok-asked.ensures.asks c.in-Ok.ensures.listed
    c.complete_over.ensures.built

pub returns-in-Ok-clause-in_range : goal.returns-in-Ok-clause-in_range
returns-in-Ok-clause-in_range g c =
    ranges c.args.words.items _ c.as_slice.ensures.value c.args.index c.args.command.now
    c.asked_of.new.command c.in_ok-asked.ensures.built c.in_ok-asked.ensures.whole
    c.complete_over.result c.in_ok-asked.ensures.in_range

pub returns-in-Ok-clause-errors : goal.returns-in-Ok-clause-errors
returns-in-Ok-clause-errors g c =
    refuses_over c.args.words.items _ c.as_slice.ensures.value c.args.index c.args.command.now
    c.asked_of.new.command c.in_ok-asked.ensures.built c.in_ok-asked.ensures.whole
    c.args.lines.now c.list_lines.new.command c.complete_over.new.command _ c.in-Some.asked
    c.complete_over.result c.in-Some.is c.in_ok-asked.ensures.asks c.in_ok-asked.ensures.in_range
    c.in-Ok.ensures.listed c.complete_over.ensures.errors
