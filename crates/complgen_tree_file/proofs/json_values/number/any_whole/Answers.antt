use Rattle.std.proofs.Common.{◌≡◌, ◌∙◌, ◌==◌, ap, drop, false, get_or, sym, true}
use Rattle.std.specs.Prelude.{option_and_then}
use Rattle.fast_float.specs.Text.{scan}
use Rattle.serde_json.specs.Find.{as_u64}
use Rattle.serde_json.specs.Read.{number_from, number_of}
use Rattle.complgen_tree_file.proofs.JsonFound.{never_unsigned}
use Rattle.complgen_tree_file.proofs.json_values.number.any_whole.Goals as goal

pub returns-then-has_minus : goal.returns-then-has_minus
unfolding number_of
returns-then-has_minus c =
    let s = c.args.bytes.now in
    let signed : (get_or s 0 0 == 45) ≡ true = sym c.if-has_minus.ensures.value in
    let read : number_from true (scan (drop 1 s)) ≡ number_of s = rw signed in
    sym (never_unsigned (scan (drop 1 s))) ∙ ap (option_and_then as_u64) read

pub returns : goal.returns
unfolding number_of
returns c =
    let s = c.args.bytes.now in
    let unsigned : (get_or s 0 0 == 45) ≡ false = sym c.if-has_minus.ensures.value in
    let read : number_from false (scan s) ≡ number_of s = rw unsigned in
    c.positive.ensures
    ∙ ap (λ p. option_and_then as_u64 (number_from false p)) c.scan.ensures.parts
    ∙ ap (option_and_then as_u64) read
