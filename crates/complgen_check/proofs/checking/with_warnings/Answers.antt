use Rattle.std.proofs.Common.{List, subst}
use Rattle.complgen_lints.specs.declared.warning.Warning.{Warning}
use Rattle.complgen_check.specs.Checking.{AreWarnings}
use Rattle.complgen_check.proofs.checking.with_warnings.Goals as goal

pub returns : goal.returns
returns c = record {
  warnings = c.in_ok-warnings.warnings.items;
  others = c.in_ok-others.others.items;
  premises = c.in_ok-warnings.ensures.list;
  each = subst (λ (some : List Warning). AreWarnings some c.in_ok-others.others.items)
      c.as_slice.ensures.value c.in_ok-others.ensures;
  both = c.in_ok-append.ensures.items;
}
