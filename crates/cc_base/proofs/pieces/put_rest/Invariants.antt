use Rattle.std.proofs.Common.{◌≡◌, ◌≤◌, ◌++◌, length}
use Rattle.cc_base.proofs.pieces.put_rest.Given as goal

-- `all`: the bytes taken and those that remain are together the bytes taken before and the slice.
abbrev pub invariant-loop-rest : goal.invariant-loop-rest
invariant-loop-rest g l = record {
  all : g.S.Sink.taken l.sink ++ l.rest ≡ g.S.Sink.taken l.fn.sink ++ l.bytes;
  least : length (g.S.Sink.taken l.fn.sink) ≤ length (g.S.Sink.taken l.sink);
  not_failed : g.S.Sink.failed l.sink ≡ g.S.Sink.failed l.fn.sink;
}

abbrev pub decreases-loop-rest : goal.decreases-loop-rest
decreases-loop-rest g l = length l.rest
