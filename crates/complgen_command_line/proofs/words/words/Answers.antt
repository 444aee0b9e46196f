use Rattle.std.proofs.Common.{◌∙◌, List, Option, [], ap, codes, map, option_map, string_bytes}
use Rattle.std.proofs.Common.{sym, unwrap_or}
use Rattle.std.proofs.lemmas.Result.{IfOk-weaker}
use Rattle.std.specs.Borrow.{Bor}
use Rattle.clap.proofs.WalkLemmas.{raw_values-rows}
use Rattle.clap.specs.Words.{Text, found_of}
use Rattle.complgen_command_line.proofs.words.words.Goals as goal

abbrev texts_or_none : Option (Bor (List (Bor Text))) → List Text
texts_or_none o = unwrap_or (option_map (λ s. map (λ v. v.now) s.now) o) []

pub returns-in-Some : goal.returns-in-Some
returns-in-Some c =
    let found = found_of c.args.values.now in
    IfOk-weaker c.owned_texts.result _ _ (λ copy same. same
    ∙ ap texts_or_none (sym c.in-Some.is)
    ∙ ap (λ (o : Option (List Text)). unwrap_or o [])
    (c.get_raw.ensures ∙ raw_values-rows found (codes "words"))) c.owned_texts.ensures

pub returns-in-None : goal.returns-in-None
returns-in-None c =
    let found = found_of c.args.values.now in
    ap (map string_bytes) c.new.ensures.items
    ∙ ap texts_or_none (sym c.in-None.is)
    ∙ ap (λ (o : Option (List Text)). unwrap_or o [])
    (c.get_raw.ensures ∙ raw_values-rows found (codes "words"))
