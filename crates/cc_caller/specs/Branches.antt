-- The argument whose values are the branches of a repository, and a program that answers with them.
use Rattle.std.specs.Prelude.{◌≡◌, ℕ, List, [], ◌∷◌, Option, None, Some, Result, codes}
use Rattle.clap_complete.specs.cc_arg.Arguments.{new_arg}
use Rattle.clap_complete.specs.cc_arg.declared.parts.ArgParts.{ArgParts as Arg}
use Rattle.clap_complete.specs.cc_env.Answers.{Told}
use Rattle.clap_complete.specs.cc_env.WithLines.{passed_lines}
use Rattle.clap_complete.specs.cc_env.OwnAnswers.{AnswersBy, own_parts}
use Rattle.clap_complete.specs.cc_base.declared.error.Error.{Error}
use Rattle.clap_complete.specs.cc_command.Tree.{Tree}
use Rattle.clap_complete.specs.cc_env.SafeShells.{all_safe}
use Rattle.clap_complete.specs.cc_env.Steps.{names_of}
use Rattle.clap_complete.specs.cc_engine.Values.{MayReturn}
use Rattle.clap_complete.specs.cc_replies.Environment.{value_of}
use Rattle.clap_complete.specs.cc_replies.declared.environment.EnvValues.{EnvValues}

abbrev pub branch_arg : Arg
branch_arg = record (new_arg (codes "branch")) {
  values_from = Some (codes "git" ∷ codes "branch" ∷ codes "--format=%(refname:short)" ∷ []);
}

-- The answer of a program with the safe shells, by the variable `COMPLETE`. `Makes` is true of what
-- its factory may return. The lines of an argument with a command are this output.
abbrev pub AnswersOver : (Result Tree Error → Type 0) → Option (List ℕ) → EnvValues
    → List (List ℕ) → MayReturn → List ℕ → Result (Option Told) Error → Type 0
AnswersOver Makes current env args returned output told =
    AnswersBy all_safe Makes
    (own_parts (names_of (codes "COMPLETE") None None current) env args returned)
    (λ asked lines. lines ≡ passed_lines output asked) (value_of (codes "COMPLETE") env) told
