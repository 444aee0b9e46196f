use Rattle.std.specs.Prelude.{replicate, flat_map}
use Rattle.std.specs.Fmt.{HasWritten, IsPlainFormatter}
use Rattle.cc_arg.specs.Printed.{further}
use Rattle.cc_arg.proofs.printed.write_repeated.Given as goal

abbrev pub invariant-loop-i : goal.invariant-loop-i
invariant-loop-i g l =
    IsPlainFormatter l.initial.f
    → HasWritten g.W.Write.write_str_gives l.initial.f (flat_map (further l.optional) (replicate l._i l.name)) l.f
