use Rattle.cc_command.proofs.BuiltAgain.{built_tree-generated}
use Rattle.cc_command.proofs.command.build.help.generated_command.Goals as goal

pub invariant_of-result : goal.invariant_of-result
invariant_of-result c = rw c.in_ok-node.ensures.ok (λ _. built_tree-generated _ _ _ _ _ _ c.requires.stays)
