use Rattle.std.proofs.Common.{◌≡◌, IsTrue, rules, subst, sym}
use Rattle.cc_base.specs.PlainName.{is_plain_name}
use Rattle.cc_command.specs.Plain.{passes_if_some}
use Rattle.cc_command.proofs.BuiltAgain.{built_tree-again}
use Rattle.cc_command.proofs.PlainBuilt.{plain_built_under}
use Rattle.cc_command.proofs.PlainParts.{plain_tree}
use Rattle.cc_command.proofs.QuietBuilt.{quiet_built_under}
use Rattle.cc_command.proofs.command.Command.build.Goals as goal

pub returns-clause-whole : goal.returns-clause-whole
returns-clause-whole c = rw c.in_ok-build_under.ensures.ok (built_tree-again c.in_ok-bin_name.bin_name c.args.self.now)

pub returns-clause-plain : goal.returns-clause-plain
returns-clause-plain c =
    let same : c.in_ok-bin_name.bin_name ≡ c.args.self.now.node.bin_name = search rules in
    rw c.in_ok-build_under.ensures.ok (λ plain. plain_built_under c.in_ok-bin_name.bin_name c.args.self.now
    (subst (λ name. IsTrue (passes_if_some is_plain_name name)) (sym same) (plain_tree c.args.self.now plain).bin_name) plain)

pub returns-clause-quiet : goal.returns-clause-quiet
returns-clause-quiet c =
    rw c.in_ok-build_under.ensures.ok (quiet_built_under c.in_ok-bin_name.bin_name c.args.self.now)
