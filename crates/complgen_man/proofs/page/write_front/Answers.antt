use Rattle.std.proofs.Common.{ap}
use Rattle.cc_base.proofs.WrittenTexts.{writes_same, writes_then}
use Rattle.complgen_man.specs.Page.{front_text, paragraph_text}
use Rattle.complgen_man.proofs.page.write_front.Goals as goal

pub returns : goal.returns
unfolding front_text
returns g c =
    writes_then _ _ (writes_then _ _ c.in_ok-write_opening.ensures c.in_ok-put_request.ensures)
    (writes_same _ _ (ap paragraph_text c.description.ensures) c.write_paragraph.ensures)
