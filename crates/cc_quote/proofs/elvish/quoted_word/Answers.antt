use Rattle.std.proofs.Common.{◌≡◌, ◌∙◌, ◌++◌, ◌∷◌, [], List, ℕ, Some, None, map, encode_utf8, sym, ap, rules, arith, string_bytes}
use Rattle.std.proofs.lemmas.Str.Pattern.{split_parts, strip_prefix_char}
use Rattle.std.proofs.lemmas.Str.{encode_ascii}
use Rattle.cc_base.specs.Bytes.{single_quote}
use Rattle.cc_quote.specs.QuotedWord.{quoted, word_from}
use Rattle.cc_quote.specs.Signs.{sign}
use Rattle.cc_quote.proofs.ElvishWords.{elvish_signs, elvish_cut, elvish_begins, elvish_begins_none, elvish_unquoted}
use Rattle.cc_quote.proofs.WordReading.{closes, goes_on, stays_open}
use Rattle.cc_quote.proofs.elvish.quoted_word.Goals as goal

pub returns-in-None : goal.returns-in-None
returns-in-None c =
    let word = string_bytes c.loop-piece.word in
    let parts = split_parts 39 c.loop-piece.rest.now (Some (c.in-Some.piece, c.in-Some.next)) c.in-Some.ensures.cases (omega arith) in
    let single = strip_prefix_char single_quote c.in-Some.next.now None c.in-None.ensures.cases (omega arith) in
    let at = elvish_cut c.loop-piece.rest.now c.in-Some.piece.now c.in-Some.next.now parts in
    let read = closes (map sign) elvish_signs c.loop-piece.rest.now c.in-Some.piece.now (single_quote ∷ []) c.in-Some.next.now word at (elvish_begins_none c.in-Some.next.now single) in
    ap (λ (w : List ℕ). Some (w, c.in-Some.next.now)) c.in_ok-push_str.ensures.bytes ∙ sym read ∙ c.loop-piece.invariant.same

pub loop-piece-preserved : goal.loop-piece-preserved
loop-piece-preserved c =
    let word = string_bytes c.loop-piece.word in
    let run = c.in-Some.piece.now in
    let next = c.in-Some.next.now in
    let second = c.in-Some-strip_prefix.second.now in
    let parts = split_parts 39 c.loop-piece.rest.now (Some (c.in-Some.piece, c.in-Some.next)) c.in-Some.ensures.cases (omega arith) in
    let doubled = strip_prefix_char single_quote next (Some c.in-Some-strip_prefix.second) c.in-Some-strip_prefix.ensures.cases (omega arith) in
    let read = goes_on (map sign) elvish_signs c.loop-piece.rest.now run (single_quote ∷ []) next (single_quote ∷ []) second word (elvish_cut c.loop-piece.rest.now run next parts) (elvish_begins next second doubled) in
    let grown : string_bytes c.push.new.self ≡ word ++ run ++ single_quote ∷ [] =
    c.in_ok-push-in-Some-strip_prefix.ensures.bytes ∙ ap (λ (w : List ℕ). w ++ encode_utf8 39) c.in_ok-push_str.ensures.bytes
    ∙ ap (λ (q : List ℕ). word ++ run ++ q) (encode_ascii 39 (omega arith)) in
    record {
      is_text = search rules;
      same = ap (λ (w : List ℕ). word_from (quoted w) (map sign second)) grown ∙ sym read ∙ c.loop-piece.invariant.same;
    }

pub returns : goal.returns
returns c =
    let none = split_parts 39 c.loop-piece.rest.now None c.in_default.ensures.cases (omega arith) in
    sym (stays_open (map sign) elvish_signs c.loop-piece.rest.now (string_bytes c.loop-piece.word) (elvish_unquoted c.loop-piece.rest.now none)) ∙ c.loop-piece.invariant.same
