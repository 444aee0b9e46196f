use Rattle.std.proofs.Common.{arith, refl, subst}
use Rattle.std.proofs.lemmas.Bool.{ne_eqb}
use Rattle.cc_base.specs.Writes.{Writes}
use Rattle.cc_replies.proofs.ListReadings.{list_read_back}
use Rattle.cc_replies.proofs.ListWidths.{list_text}
use Rattle.cc_replies.proofs.bash_list.write_bash_list.Goals as goal

pub returns-then-room-eq0-clause-read_back : goal.returns-then-room-eq0-clause-read_back
returns-then-room-eq0-clause-read_back g c = list_read_back c.args.cursor.now c.args.candidates.now

pub returns-clause-written : goal.returns-clause-written
returns-clause-written g c =
    subst (λ text. Writes g.W.Sink.taken g.W.Sink.failed c.write.result c.args.sink.now c.write.new.sink text)
    (list_text c.args.cursor.now c.args.candidates.now c.room-room.result _ c.room-room.ensures
    (ne_eqb c.room-room.result 0 (omega (arith, c.if-room-eq0.false))) refl)
    c.write.ensures.written

pub returns-clause-read_back : goal.returns-clause-read_back
returns-clause-read_back g c = list_read_back c.args.cursor.now c.args.candidates.now
