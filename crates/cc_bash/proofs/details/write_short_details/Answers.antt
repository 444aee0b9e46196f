use Rattle.std.proofs.Common.{◌≡◌, ◌∷◌, ◌++◌, ap, codes, flat_map, map, refl, rules}
use Rattle.std.specs.Prelude.{encode_utf8}
use Rattle.cc_arg.specs.Aliases.{shorts_left}
use Rattle.cc_base.proofs.WrittenTexts.{writes_same}
use Rattle.cc_generator.specs.ArgumentNames.{short_word}
use Rattle.cc_bash.specs.Arms.{detail_of}
use Rattle.cc_bash.specs.Script.{detail_text}
use Rattle.cc_bash.proofs.TextLoops.{goes_next}
use Rattle.cc_bash.proofs.details.write_short_details.Goals as goal

pub loop-short-preserved : goal.loop-short-preserved
loop-short-preserved g c =
    let short = c.in-Some.short in
    let detail = detail_of c.args.argument.now in
    let left : shorts_left c.loop-short.short-iterator ≡ short ∷ shorts_left c.next.new.self = search rules in
    let encoded : c.encode_utf8.result.now ≡ encode_utf8 short = search rules in
    goes_next (λ shorts. flat_map detail_text (map detail (map short_word shorts))) _ _ left refl c.loop-short.invariant (writes_same _ _ (ap (λ name. detail_text (detail (codes "-" ++ name))) encoded) c.in_ok-write_detail.ensures)
