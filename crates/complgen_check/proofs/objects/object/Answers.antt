use Rattle.std.proofs.Common.{subst, sym}
use Rattle.json.specs.Print.{IsNumber}
use Rattle.json.specs.Value.{value_view}
use Rattle.complgen_check.proofs.ObjectLemmas.{has_numbers}
use Rattle.complgen_check.proofs.objects.object.Goals as goal

pub to_vec-requires : goal.to_vec-requires
to_vec-requires c = has_numbers (value_view c.in_ok-object.object) c.as_str.result.now
    c.as_str-2.result.now c.args.finding.now c.in_ok-object.ensures
    (subst IsNumber (sym c.as_str.ensures.value) c.in_ok-line_digits.ensures.number)
    (subst IsNumber (sym c.as_str-2.ensures.value) c.in_ok-column_digits.ensures.number)
