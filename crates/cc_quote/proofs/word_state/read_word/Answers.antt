use Rattle.std.proofs.Common.{◌∙◌, ap, sym, string_bytes}
use Rattle.std.proofs.lemmas.Str.{IsUtf8-past_char}
use Rattle.cc_quote.specs.WordReader.{ended, word_from}
use Rattle.cc_quote.proofs.Characters.{shorter}
use Rattle.cc_quote.proofs.CharacterReading.{character_read, character_stops}
use Rattle.cc_quote.proofs.word_state.read_word.Goals as goal

pub returns-in_default-next_state : goal.returns-in_default-next_state
returns-in_default-next_state g c = λ reads.
    let next = g.S.WordState.next c.args.is_double in
    let added = g.S.WordState.added in
    let may_end = g.S.WordState.may_end in
    let state = c.loop-character.state in
    let word = string_bytes c.loop-character.word in
    c.end_word.ensures ∙ ap (ended (may_end state) word) c.in-Some.ensures
    ∙ sym (character_stops next added may_end reads state c.in-Some.character c.in-Some.after.now word (sym c.next_state.ensures ∙ c.in_default-next_state.is))
    ∙ ap (word_from next added may_end state word) (sym c.in-Some.ensures)
    ∙ c.loop-character.invariant.same reads

pub loop-character-smaller : goal.loop-character-smaller
loop-character-smaller g c = shorter c.in-Some.character _ _ c.in-Some.ensures

pub loop-character-preserved : goal.loop-character-preserved
loop-character-preserved g c =
    let next = g.S.WordState.next c.args.is_double in
    let added = g.S.WordState.added in
    let may_end = g.S.WordState.may_end in
    let state = c.loop-character.state in
    let then = c.in-Some-next_state.next in
    let word = string_bytes c.loop-character.word in
    let rest = c.in-Some.after.now in
    record {
      is_text = IsUtf8-past_char c.loop-character.rest.now rest c.in-Some.character c.loop-character.invariant.is_text c.in-Some.ensures;
      same = λ reads.
          ap (λ w. word_from next added may_end then w rest) c.in_ok-push_added.ensures
          ∙ sym (character_read next added may_end reads state then c.in-Some.character rest word (sym c.next_state.ensures ∙ c.in-Some-next_state.is))
          ∙ ap (word_from next added may_end state word) (sym c.in-Some.ensures)
          ∙ c.loop-character.invariant.same reads;
    }
