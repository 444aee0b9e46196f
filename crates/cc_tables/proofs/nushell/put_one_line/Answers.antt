use Rattle.std.proofs.Common.{ℕ, List, subst}
use Rattle.cc_base.specs.Writes.{Writes, as_write}
use Rattle.cc_tables.proofs.NushellTexts.{line_feeds_replaced}
use Rattle.cc_tables.proofs.nushell.put_one_line.Goals as goal

pub returns : goal.returns
returns g c =
    let WritesText : List ℕ → Type 0 = λ text. Writes {S = g.row.W.Denot} g.W.Sink.taken g.W.Sink.failed (as_write c.put_escaped.result) c.args.sink.now c.put_escaped.new.sink text in
    subst WritesText (line_feeds_replaced c.args.text.now) c.put_escaped.ensures
