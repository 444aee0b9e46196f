use Rattle.std.proofs.Common.{flat_map, drop}
use Rattle.cc_base.proofs.WrittenTexts.{GoesOn}
use Rattle.cc_base.proofs.pieces.put_pieces.Given as goal

abbrev pub invariant-loop-piece : goal.invariant-loop-piece
invariant-loop-piece g l = GoesOn g.S.Sink.taken g.S.Sink.failed l.initial.sink l.sink (flat_map (λ piece. piece.now) l.pieces) (flat_map (λ piece. piece.now) (drop l.piece-index l.pieces))
