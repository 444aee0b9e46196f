-- The failures that a sink in memory counts.
use Rattle.std.proofs.Common.{◌≡◌, ◌∙◌, ◌<◌, ℕ, ap, arith, refl, sym, subst}
use Rattle.std.specs.declared.io.ErrorKind.{ErrorKind}
use Rattle.cc_base.specs.Sink.{add_failure, none_failed}
use Rattle.cc_base.specs.declared.failures.Failures.{Failures}

-- no write failed if the failures are as they were in the beginning
pub none_counted : (before after : Failures) → before ≡ none_failed → after ≡ before
    → after.count ≡ 0
none_counted before after unfailed same = ap (λ failures. failures.count) (same ∙ unfailed)

-- one write failed
one_failed : (kind : ErrorKind) → (add_failure kind none_failed).count ≡ 1
unfolding add_failure
one_failed kind = refl

pub some_counted : (before after : Failures) (kind : ErrorKind) → before ≡ none_failed
    → after ≡ add_failure kind before → 0 < after.count
some_counted before after kind unfailed counted =
    let one = ap (λ failures. failures.count) (counted ∙ ap (add_failure kind) unfailed) ∙ one_failed kind in
    subst (λ (n : ℕ). 0 < n) (sym one) (omega arith)
