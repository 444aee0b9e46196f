use Rattle.std.proofs.Common.{◌≡◌, ◌++◌, ◌∙◌, ℕ, List, Bool, ap, append_assoc, codes}
use Rattle.cc_base.proofs.WrittenTexts.{writes_same, writes_then}
use Rattle.cc_base.proofs.Stopped.{put_stopped, stops_before}
use Rattle.cc_tables.specs.NushellScript.{content, help_text, line_begin, line_text, offer_text, type_text}
use Rattle.cc_tables.specs.Offers.{dashes, word}
use Rattle.cc_tables.specs.declared.offers.Offer.{Offer}
use Rattle.cc_tables.proofs.nushell.LinesRows.write_row.Goals as goal

-- the texts around the name of an offer
around : (offer : Offer) (takes : Bool) (begins name kind : List ℕ) →
    begins ≡ line_begin ++ dashes offer.kind → name ≡ offer.name → kind ≡ type_text takes →
    begins ++ name ++ kind ≡ line_begin ++ word offer ++ type_text takes
around offer takes begins name kind is named typed =
    ap (λ t. t ++ name ++ kind) is
    ∙ ap (λ t. (line_begin ++ dashes offer.kind) ++ t ++ kind) named
    ∙ ap (λ t. (line_begin ++ dashes offer.kind) ++ offer.name ++ t) typed
    ∙ ap (λ t. t ++ type_text takes) (append_assoc line_begin (dashes offer.kind) offer.name)

pub returns-in_err-put_around : goal.returns-in_err-put_around
unfolding content line_text offer_text
returns-in_err-put_around g c =
    let offer : Offer = c.args.offer.now in
    put_stopped _ c.from_residual.ensures.1 (stops_before _ (codes "\n") (stops_before _ (help_text offer.description) (writes_same _ _ (around offer c.args.self.now.takes_value c.line_begin.result.now c.as_str-name.result.now c.type_text-shown_type.result.now c.line_begin.ensures c.as_str-name.ensures c.type_text-shown_type.ensures) c.in_err-put_around.ensures)))

pub returns-in_err-write_help : goal.returns-in_err-write_help
unfolding content line_text offer_text
returns-in_err-write_help g c =
    let offer : Offer = c.args.offer.now in
    put_stopped _ c.from_residual-in_err-write_help.ensures.1 (stops_before _ (codes "\n") (writes_then _ _ (writes_same _ _ (around offer c.args.self.now.takes_value c.line_begin.result.now c.as_str-name.result.now c.type_text-shown_type.result.now c.line_begin.ensures c.as_str-name.ensures c.type_text-shown_type.ensures) c.in_ok-put_around.ensures) c.in_err-write_help.ensures))

pub returns : goal.returns
unfolding content line_text offer_text
returns g c =
    let offer : Offer = c.args.offer.now in
    writes_then _ _ (writes_then _ _ (writes_same _ _ (around offer c.args.self.now.takes_value c.line_begin.result.now c.as_str-name.result.now c.type_text-shown_type.result.now c.line_begin.ensures c.as_str-name.ensures c.type_text-shown_type.ensures) c.in_ok-put_around.ensures) c.in_ok-write_help.ensures) c.put_piece.ensures.written
