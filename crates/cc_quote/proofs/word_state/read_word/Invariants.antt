use Rattle.std.proofs.Common.{◌≡◌, [], length, string_bytes}
use denote.Text.{Utf8}
use denote.Shadow.{shadow}
use Rattle.cc_quote.specs.WordReader.{ReadsBytes, word_from}
use Rattle.cc_quote.proofs.word_state.read_word.Given as goal

abbrev pub invariant-loop-character : goal.invariant-loop-character
invariant-loop-character g l =
    let next = g.S.WordState.next l.is_double in
    let added = g.S.WordState.added in
    let may_end = g.S.WordState.may_end in record {
      is_text : shadow (Utf8 l.rest);
      same : ReadsBytes next added → word_from next added may_end l.state (string_bytes l.word) l.rest ≡ word_from next added may_end l.fn.first [] l.text;
    }

abbrev pub decreases-loop-character : goal.decreases-loop-character
decreases-loop-character g l = length l.rest
