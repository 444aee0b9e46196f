use Rattle.std.proofs.Common.{rules}
use Rattle.complgen_c.specs.Registrations.{not_utf8}
use Rattle.complgen_c.proofs.RegistrationLemmas.{of_texts}
use Rattle.complgen_c.proofs.registrations.make_registration.Goals.{in_default-via-in-Some+in_default, in_default-via-in_default}
use Rattle.complgen_c.proofs.registrations.make_registration.Goals as goal

pub returns-in_default : goal.returns-in_default
returns-in_default c = elim c.in_default.branch [
  | in_default-via-in-Some+in_default w ↦ not_utf8 (λ shell a b d e. search rules)
  | in_default-via-in_default w ↦ not_utf8 (λ shell a b d e. search rules)
]

pub returns : goal.returns
returns c =
    of_texts c.args.safe _ _ _ _ _ c.in-Some-Some.ensures c.in-Some-Some.ensures' c.make_of.ensures
