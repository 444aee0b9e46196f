use Rattle.std.proofs.Common.{map, string_bytes}
use Rattle.cc_engine.proofs.Begins.{text_at}
use Rattle.cc_engine.proofs.Completing.{is_place}
use Rattle.cc_engine.proofs.place.place_at.Goals as goal

pub returns : goal.returns
returns c =
    is_place c.args.command.now _ _ (map string_bytes c.args.words.now) _ c.args.index _ (text_at c.args.words.now c.args.index)
    c.words_before.ensures c.word_at.ensures c.walk-state.ensures.leads c.walk-state.ensures.only c.walk-state.ensures.visible
