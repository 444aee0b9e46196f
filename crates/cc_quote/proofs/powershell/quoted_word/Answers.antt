use Rattle.std.proofs.Common.{◌≡◌, ◌∙◌, ◌++◌, List, ℕ, Some, sym, ap, rules, string_bytes}
use Rattle.cc_quote.specs.PowershellQuote.{powershell_signs}
use Rattle.cc_quote.specs.QuotedWord.{quoted, word_from}
use Rattle.cc_quote.proofs.PowershellSigns.{powershell_signs_are}
use Rattle.cc_quote.proofs.WordReading.{closes, goes_on, stays_open}
use Rattle.cc_quote.proofs.powershell.quoted_word.Goals as goal

pub returns-in-None : goal.returns-in-None
returns-in-None c =
    let next = c.in-Some.next.now in
    let read = closes powershell_signs powershell_signs_are c.loop-piece.rest.now c.in-Some.piece.now c.in-Some.ensures.0 next (string_bytes c.loop-piece.word) c.in-Some.ensures.1 c.in-None.ensures in
    ap (λ (w : List ℕ). Some (w, next)) c.in_ok-push_str.ensures.bytes ∙ sym read ∙ c.loop-piece.invariant.same

pub loop-piece-preserved : goal.loop-piece-preserved
loop-piece-preserved c =
    let word = string_bytes c.loop-piece.word in
    let piece = c.in-Some.piece.now in
    let second = c.in-Some-strip_quote.second.now in
    let more = c.in-Some-strip_quote.more.now in
    let read = goes_on powershell_signs powershell_signs_are c.loop-piece.rest.now piece c.in-Some.ensures.0 c.in-Some.next.now second more word c.in-Some.ensures.1 c.in-Some-strip_quote.ensures in
    let grown : string_bytes c.push_str-in-Some-strip_quote.new.self ≡ word ++ piece ++ second =
    c.in_ok-push_str-in-Some-strip_quote.ensures.bytes ∙ ap (λ (w : List ℕ). w ++ second) c.in_ok-push_str.ensures.bytes in
    record {
      is_text = search rules;
      same = ap (λ (w : List ℕ). word_from (quoted w) (powershell_signs more)) grown ∙ sym read ∙ c.loop-piece.invariant.same;
    }

pub returns : goal.returns
returns c = sym (stays_open powershell_signs powershell_signs_are c.loop-piece.rest.now (string_bytes c.loop-piece.word) c.in_default.ensures) ∙ c.loop-piece.invariant.same
