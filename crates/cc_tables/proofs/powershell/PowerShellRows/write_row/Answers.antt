use Rattle.std.proofs.Common.{◌≡◌, ◌++◌, List, ℕ, ap, append_assoc, codes}
use Rattle.std.proofs.lemmas.Result.{err_from_is_err_and}
use Rattle.cc_base.proofs.WrittenTexts.{writes_same, writes_then}
use Rattle.cc_base.proofs.Stopped.{stops_before}
use Rattle.cc_quote.specs.PowershellQuote.{powershell_escaped}
use Rattle.cc_tables.specs.Offers.{word}
use Rattle.cc_tables.specs.PowershellScript.{capital_space, details_text, kind_begin, kind_text, list_begin, offer_row, offer_text, result_kind, row_begin, row_end, row_text, text_begin, words_text}
use Rattle.cc_tables.specs.declared.offers.Offer.{Offer}
use Rattle.cc_tables.proofs.powershell.PowerShellRows.write_row.Goals as goal

-- the row of an offer as it is written
row_written : (offer : Offer) →
    ((row_begin ++ word offer ++ list_begin ++ word offer
    ++ (capital_space offer.kind offer.name ++ kind_begin ++ kind_text (result_kind offer.kind)
    ++ text_begin)) ++ powershell_escaped (offer_row offer).text) ++ codes "')" ≡ offer_text offer
unfolding offer_text row_text words_text details_text row_end
row_written offer = regroup row_begin (word offer) list_begin (capital_space offer.kind offer.name) kind_begin (kind_text (result_kind offer.kind)) text_begin (powershell_escaped (offer_row offer).text) (codes "')")
  where
    regroup : (a b c d e f g h i : List ℕ) →
        ((a ++ b ++ c ++ b ++ (d ++ e ++ f ++ g)) ++ h) ++ i
        ≡ (a ++ b ++ c ++ (b ++ d)) ++ (e ++ f ++ g ++ h ++ i)
    regroup a b c d e f g h i = simp append_assoc

pub returns-in_err-put_escaped : goal.returns-in_err-put_escaped
returns-in_err-put_escaped g c =
    let p = err_from_is_err_and c.from_residual-in_err-put_escaped.result c.from_residual-in_err-put_escaped.ensures.1 in
    rw (p.1, p.2) (writes_same _ _ (row_written c.args.offer.now) (stops_before _ _ (writes_then _ _ c.in_ok-write_words.ensures (writes_same _ _ (ap powershell_escaped c.shown_text.ensures) c.in_err-put_escaped.ensures))))

pub returns : goal.returns
returns g c = writes_same _ _ (row_written c.args.offer.now) (writes_then _ _ (writes_then _ _ c.in_ok-write_words.ensures (writes_same _ _ (ap powershell_escaped c.shown_text.ensures) c.in_ok-put_escaped.ensures)) c.put_piece.ensures.written)
