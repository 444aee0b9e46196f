use Rattle.std.proofs.Common.{◌∙◌, rules, sym}
use Rattle.complgen_c.specs.Scripts.{not_utf8}
use Rattle.complgen_c.proofs.scripts.make_script.Goals.{in_default-via-in-Ok+in_default, in_default-via-in_default}
use Rattle.complgen_c.proofs.ScriptLemmas.{script_failed, script_made}
use Rattle.complgen_c.proofs.scripts.make_script.Goals as goal

pub returns-in-Ok : goal.returns-in-Ok
returns-in-Ok c =
    script_made _ _ c.new-sink.ensures.bytes c.new-sink.ensures.failures _ _ _ _ _ _
    (sym c.in-Ok-Ok.ensures.cases.0) (sym c.in-Ok-Ok.ensures'.cases.0)
    (c.from.ensures ∙ c.into_vec.ensures) c.in-Ok.ensures.ends c.in-Ok.ensures.read_back

pub returns-in-Err : goal.returns-in-Err
returns-in-Err c =
    script_failed _ _ c.new-sink.ensures.bytes c.new-sink.ensures.failures _ _ _ _ _ _ _
    (sym c.in-Ok-Ok.ensures.cases.0) (sym c.in-Ok-Ok.ensures'.cases.0)
    c.in-Err.ensures.ends c.in_memory.ensures

pub returns-in_default : goal.returns-in_default
returns-in_default c = elim c.in_default.branch [
  | in_default-via-in-Ok+in_default w ↦ not_utf8 (λ a b. search rules)
  | in_default-via-in_default w ↦ not_utf8 (λ a b. search rules)
]
