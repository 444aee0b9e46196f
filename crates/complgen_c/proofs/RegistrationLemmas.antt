-- Lemmas for the outcomes of making a registration.
use Rattle.std.proofs.Common.{◌≡◌, subst, ℕ, Bool, List}
use Rattle.cc_env.specs.Steps.{Names}
use Rattle.complgen_c.specs.Registrations.{MakesOf, MakesRegistration, texts}
use Rattle.complgen_c.specs.declared.outcome.Outcome.{Outcome}

-- the outcome for texts that hold what the caller passes
pub of_texts : (safe : Bool) (name name' : List ℕ) (names names' : Names) (outcome : Outcome)
    → name' ≡ name → names' ≡ names → MakesOf safe name' names' outcome
    → MakesRegistration safe name names outcome
of_texts safe name name' names names' outcome same sames makes =
    texts outcome (subst (λ (n : List ℕ). MakesOf safe n names outcome) same
    (subst (λ (them : Names). MakesOf safe name' them outcome) sames makes))
