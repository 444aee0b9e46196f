use Rattle.std.proofs.Common.{◌∙◌, ap, sym, map, string_bytes}
use Rattle.std.specs.Prelude.{drop, take}
use Rattle.std.proofs.lemmas.List.{drop-map, take-map, take_rest}
use Rattle.cc_engine.proofs.place.words_before.Goals as goal

pub returns : goal.returns
returns c =
    let start = c.names_before.result in
    let before = take c.args.index c.args.words.now in
    ap (map string_bytes) (take_rest before start)
    ∙ sym (drop-map string_bytes start before)
    ∙ ap (drop start) (sym (take-map string_bytes c.args.index c.args.words.now))
    ∙ ap (λ n. drop n (take c.args.index (map string_bytes c.args.words.now))) c.names_before.ensures
