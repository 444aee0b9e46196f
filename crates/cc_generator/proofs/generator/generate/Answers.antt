use Rattle.std.proofs.Common.{IsTrue, subst}
use Rattle.std.proofs.lemmas.Result.{on_ok_weaker}
use Rattle.cc_command.specs.Quiet.{is_quiet_tree}
use Rattle.cc_command.specs.Tree.{Tree}
use Rattle.cc_generator.specs.Generators.{Generates}
use Rattle.cc_generator.proofs.generator.generate.Goals as goal

pub returns-clause-written : goal.returns-clause-written
returns-clause-written g c =
    subst (λ (tree : Tree). Generates {S = g.row.W.Denot} g.W.Sink.taken g.W.Sink.failed
    (g.G.Generator.spec c.args.generator) tree c.generate.result c.args.sink.now c.generate.new.sink)
    c.in_ok-build_as.ensures.ok c.generate.ensures

pub returns-clause-plain : goal.returns-clause-plain
returns-clause-plain g c =
    on_ok_weaker c.generate.result
    (λ reads tree_is_plain name_is_plain.
    subst (g.G.Generator.spec c.args.generator).Reads c.in_ok-build_as.ensures.ok (reads (c.in_ok-build_as.ensures.plain tree_is_plain name_is_plain)))
    c.generate.ensures.reads

pub returns-clause-quiet : goal.returns-clause-quiet
returns-clause-quiet g c =
    on_ok_weaker c.generate.result
    (λ reads quiet. subst (λ (tree : Tree). IsTrue (is_quiet_tree tree)) c.in_ok-build_as.ensures.ok (c.in_ok-build_as.ensures.quiet quiet))
    c.generate.ensures.reads
