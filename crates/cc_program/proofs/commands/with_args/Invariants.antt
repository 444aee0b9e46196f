use Rattle.std.proofs.Common.{◌≡◌, drop, map}
use Rattle.cc_program.specs.Described.{arg_of, with_arguments}
use Rattle.cc_program.proofs.commands.with_args.Given as goal

abbrev pub invariant-loop-described : goal.invariant-loop-described
invariant-loop-described l =
    with_arguments l.command (map arg_of (drop l.described-index l.args)) ≡ with_arguments l.fn.command (map arg_of l.args)
