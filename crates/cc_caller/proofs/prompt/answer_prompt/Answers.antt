use Rattle.std.proofs.Common.{◌∙◌}
use Rattle.cc_caller.proofs.PromptAnswer.{prompt_answered}
use Rattle.cc_caller.proofs.prompt.answer_prompt.Goals as goal

pub returns : goal.returns
returns g c =
    prompt_answered (λ factory made. goal.F-post g factory c.args.alloc made) _ _ _ _ _ _ _ _ _ _ _ _ _ _ _
    (c.shells-program.ensures.factory ∙ c.with_factory.ensures.factory)
    (c.shells-program.ensures.variable ∙ c.with_factory.ensures.variable)
    (c.shells-program.ensures.bin ∙ c.with_factory.ensures.names.0)
    (c.shells-program.ensures.completer ∙ c.with_factory.ensures.names.1)
    (c.shells-program.ensures.shells ∙ c.prompts.ensures) c.try_complete.ensures
