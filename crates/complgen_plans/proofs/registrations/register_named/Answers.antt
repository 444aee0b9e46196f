use Rattle.std.proofs.Common.{◌∙◌, ap, sym}
use Rattle.std.specs.Prelude.{find}
use Rattle.cc_env.specs.Builtins.{all_builtins, builtin_spec}
use Rattle.complgen_plans.proofs.RegisterLemmas.{with_registration, without_registration}
use Rattle.complgen_plans.proofs.registrations.register_named.Goals as goal

pub returns-in-Some : goal.returns-in-Some
returns-in-Some g c =
    with_registration _ _ _ _ _ _ _ _ _ _
    (ap (λ n. find (λ adapter. (builtin_spec adapter).named n) all_builtins) (sym c.requires)
    ∙ sym c.adapter_of.ensures ∙ c.in-Some.is)
    c.register_by.ensures

pub returns-in-None : goal.returns-in-None
returns-in-None g c =
    without_registration _ _ _ _ _ _ _ _
    (ap (λ n. find (λ adapter. (builtin_spec adapter).named n) all_builtins) (sym c.requires)
    ∙ sym c.adapter_of.ensures ∙ c.in-None.is)
    (record {
      status = c.from_static.ensures.status;
      text_is = c.from_static.ensures.text ∙ c.no_registration.ensures;
    })
