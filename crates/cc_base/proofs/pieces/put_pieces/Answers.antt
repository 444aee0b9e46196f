use Rattle.std.proofs.Common.{◌≡◌, ℕ, List, true, Bor, Ok, flat_map, arith, sym}
use Rattle.std.proofs.lemmas.Grind.{common_steps}
use Rattle.cc_base.specs.Writes.{Writes}
use Rattle.cc_base.specs.Partly.{partly}
use Rattle.cc_base.proofs.JoinedTexts.{pieces_flat}
use Rattle.cc_base.proofs.WrittenTexts.{writes_same, in_loops}
use Rattle.cc_base.proofs.pieces.put_pieces.Goals as goal

pub returns : goal.returns
returns g c =
    let text : Bor (List ℕ) → List ℕ = λ piece. piece.now in
    let flat : Writes {S = g.row.S.Denot} g.S.Sink.taken g.S.Sink.failed (Ok (tt {0}))
    c.args.sink.now c.loop-piece.sink (flat_map text c.args.pieces.now) = grind (arith, common_steps) in
    writes_same _ _ (sym (pieces_flat text c.args.pieces.now)) flat

pub returns-in_err-put_piece : goal.returns-in_err-put_piece
returns-in_err-put_piece g c =
    let text : Bor (List ℕ) → List ℕ = λ piece. piece.now in
    let same = pieces_flat text c.args.pieces.now in
    let part : partly (g.S.Sink.taken c.put_piece.new.sink) (g.S.Sink.taken c.args.sink.now) (flat_map text c.args.pieces.now) ≡ true = grind (arith, in_loops) in
    grind (arith, common_steps)
