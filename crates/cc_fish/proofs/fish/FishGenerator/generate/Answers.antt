use Rattle.std.proofs.Common.{◌≡◌, rules}
use Rattle.cc_command.specs.Tree.{Tree}
use Rattle.cc_generator.specs.Flat.{tree_at}
use Rattle.cc_fish.proofs.ScriptRead.{generated}
use Rattle.cc_fish.proofs.fish.FishGenerator.generate.Goals as goal

pub returns : goal.returns
returns g c =
    let root : Tree = c.args.command.now in
    let at : Tree = tree_at c.in_ok-flat.flat 0 in
    let is : at ≡ root = search rules in
    generated g.W.Sink.taken g.W.Sink.failed root at c.write_script.result c.args.sink.now c.write_script.new.sink is c.write_script.ensures
