use Rattle.std.proofs.Common.{◌≡◌, ◌≤◌, ◌+◌, suc, drop, filter, length}
use Rattle.cc_arg.specs.Arguments.{is_positional}
use Rattle.cc_command.specs.ArgumentLists.{positionals}
use Rattle.cc_zsh.proofs.blocks.index.Given as goal

-- the positionals before the index are counted
abbrev pub invariant-loop-argument : goal.invariant-loop-argument
invariant-loop-argument l = record {
  whole : l.index + length (filter is_positional (drop l.argument-index l.command.node.arguments))
      ≡ suc (length (positionals l.command.node));
  small : l.index ≤ suc l.argument-index;
}
