-- Lemmas for the answer of a program that completes itself, and for writing it.
use Rattle.std.proofs.Common.{◌≡◌, ap, refl, sym, subst, ℕ, List, Option, None, Some, Result, Ok, Err}
use Rattle.std.specs.Borrow.{Bor}
use Rattle.std.specs.Option.{option_copied}
use Rattle.cc_arg.specs.declared.parts.ArgParts.{ArgParts as Arg}
use Rattle.cc_base.specs.Writes.{IsWrite, Writes}
use Rattle.cc_base.specs.declared.error.Error.{Error}
use Rattle.cc_base.specs.declared.error.Error.TheVariants.{Write}
use Rattle.cc_base.specs.declared.failures.Failures.{Failures}
use Rattle.cc_command.specs.Tree.{Tree}
use Rattle.cc_env.specs.Requested.{FindsAs}
use Rattle.cc_env.specs.Steps.{names_of}
use Rattle.cc_env.specs.Wanted.{Wanted, known, nothing, unknown}
use Rattle.cc_env.specs.declared.safe_shell.SafeShell.{SafeShell}
use Rattle.cc_engine.specs.Values.{MayReturn}
use Rattle.cc_replies.specs.declared.environment.EnvValues.{EnvValues}
use Rattle.cc_env.specs.Answers.{Answers, Parts, Told, seen}
use Rattle.cc_env.specs.OwnAnswers.{AnswersOwn, answered, not_answered, not_made, not_requested, own_parts, seen_own, unknown_shell}
use Rattle.cc_env.specs.OwnEnds.{EndsOwn, write_failed, written}
use Rattle.cc_env.specs.OwnEnds as ends
use Rattle.cc_env.specs.WrittenAnswers.{status_of, written_bytes}
use Rattle.cc_env.specs.declared.asking.answers.Answer.{Answer}

-- ---- the answer

-- the answer under the names of the completion, which are known by other terms
pub renamed : (Gives : Arg → List ℕ → Type 0) (tree : Tree) (env : EnvValues)
    (args : List (List ℕ)) (returned : MayReturn) (current : Option (List ℕ))
    (shell known_shell : SafeShell) (variable known_variable : List ℕ)
    (bin known_bin completer known_completer : Option (List ℕ)) (result : Result Told Error)
    → shell ≡ known_shell → variable ≡ known_variable → bin ≡ known_bin
    → completer ≡ known_completer
    → Answers (own_parts (names_of variable bin completer current) env args returned shell) Gives
    tree result
    → Answers (own_parts (names_of known_variable known_bin known_completer current) env args
    returned known_shell) Gives tree result
renamed Gives tree env args returned current shell known_shell variable known_variable bin known_bin completer known_completer result same_shell same_variable same_bin same_completer answers =
    subst (λ s. Answers (own_parts (names_of known_variable known_bin known_completer current) env
    args returned s) Gives tree result) same_shell
    (subst (λ v. Answers (own_parts (names_of v known_bin known_completer current) env args
    returned shell) Gives tree result) same_variable
    (subst (λ b. Answers (own_parts (names_of variable b known_completer current) env args
    returned shell) Gives tree result) same_bin
    (subst (λ k. Answers (own_parts (names_of variable bin k current) env args returned shell)
    Gives tree result) same_completer answers)))

module _ (names : List (List ℕ)) (Makes : Result Tree Error → Type 0) (parts : SafeShell → Parts)
    (Gives : Arg → List ℕ → Type 0) where
  -- no shell has the name
  pub no_shell : (wanted : Wanted SafeShell) (error : Error) → FindsAs names wanted (Err error)
      → AnswersOwn names Makes parts Gives wanted (Err error)
  no_shell nothing error finds = absurd (cc finds)
  no_shell (unknown name) error finds = unknown_shell name error finds.1
  no_shell (known shell) error finds = absurd (cc finds)

  none_found : (wanted : Wanted SafeShell) → FindsAs names wanted (Ok None)
      → AnswersOwn names Makes parts Gives wanted (Ok None)
  none_found nothing finds = not_requested
  none_found (unknown name) finds = absurd finds.0
  none_found (known shell) finds = absurd (cc finds)

  -- nothing is requested
  pub no_request : (wanted : Wanted SafeShell) (found : Option (Bor SafeShell))
      → ((shell : Bor SafeShell) → found ≡ Some shell → ⊥)
      → FindsAs names wanted (Ok (option_copied found))
      → AnswersOwn names Makes parts Gives wanted (Ok None)
  no_request wanted None none finds = none_found wanted finds
  no_request wanted (Some shell) none finds = absurd (none shell refl)

  -- the shell that is requested
  is_known : (wanted : Wanted SafeShell) (shell : SafeShell)
      → FindsAs names wanted (Ok (Some shell)) → known shell ≡ wanted
  is_known nothing shell finds = absurd (cc finds)
  is_known (unknown name) shell finds = absurd finds.0
  is_known (known other) shell finds = ap known (cc finds)

  module _ (wanted : Wanted SafeShell) (found : Option (Bor SafeShell)) (shell : Bor SafeShell)
      (is : found ≡ Some shell) (finds : FindsAs names wanted (Ok (option_copied found))) where
    the_shell : known shell.now ≡ wanted
    the_shell =
        is_known wanted shell.now
        (subst (λ (o : Option (Bor SafeShell)). FindsAs names wanted (Ok (option_copied o))) is
        finds)

    -- the factory fails
    pub no_command : (error : Error) → Makes (Err error)
        → AnswersOwn names Makes parts Gives wanted (Err error)
    no_command error makes =
        subst (λ (w : Wanted SafeShell). AnswersOwn names Makes parts Gives w (Err error))
        the_shell (not_made shell.now error makes)

    -- there is no answer
    pub no_answer : (tree : Tree) (error : Error) → Makes (Ok tree)
        → Answers (parts shell.now) Gives tree (Err error)
        → AnswersOwn names Makes parts Gives wanted (Err error)
    no_answer tree error makes answers =
        subst (λ (w : Wanted SafeShell). AnswersOwn names Makes parts Gives w (Err error))
        the_shell (not_answered shell.now tree error makes answers)

    -- there is an answer
    pub one_answer : (tree : Tree) (told : Told) → Makes (Ok tree)
        → Answers (parts shell.now) Gives tree (Ok told)
        → AnswersOwn names Makes parts Gives wanted (Ok (Some told))
    one_answer tree told makes answers =
        subst (λ (w : Wanted SafeShell). AnswersOwn names Makes parts Gives w (Ok (Some told)))
        the_shell (answered shell.now tree told makes answers)

-- ---- writing it

is_none : (AnswersWith : Result (Option Told) Error → Type 0) (found : Option Answer)
    → ((answer : Answer) → found ≡ Some answer → ⊥) → AnswersWith (seen_own (Ok found))
    → AnswersWith (Ok None)
is_none AnswersWith None none answers = answers
is_none AnswersWith (Some answer) none answers = absurd (none answer refl)

module _ {S : Type 0} (taken : S → List ℕ) (failures : S → Failures)
    (AnswersWith : Result (Option Told) Error → Type 0) (old new : S) (found : Option Answer)
    (answers : AnswersWith (seen_own (Ok found))) where
  -- nothing is requested
  pub unrequested : ((answer : Answer) → found ≡ Some answer → ⊥) → new ≡ old
      → EndsOwn taken failures AnswersWith old new (Ok None)
  unrequested none same = ends.not_requested (is_none AnswersWith found none answers) same

  is_some : (answer : Answer) → found ≡ Some answer → AnswersWith (Ok (Some (seen answer)))
  is_some answer is = subst (λ (o : Option Answer). AnswersWith (seen_own (Ok o))) is answers

  -- a write fails
  pub unwritten : (answer : Answer) (error : Error) → found ≡ Some answer
      → Writes taken failures (Err error) old new (written_bytes (seen answer)) → IsWrite error
      → EndsOwn taken failures AnswersWith old new (Err error)
  unwritten answer (Write kind) is writes only =
      write_failed (seen answer) kind (is_some answer is) writes.begun writes.failures
  unwritten answer _ is writes only = absurd only

  -- the whole answer is written
  pub written_whole : (answer : Answer) (done : Unit {0}) (status : ℕ) → found ≡ Some answer
      → status ≡ status_of (seen answer)
      → Writes taken failures (Ok done) old new (written_bytes (seen answer))
      → EndsOwn taken failures AnswersWith old new (Ok (Some status))
  written_whole answer done status is same writes =
      subst (λ n. EndsOwn taken failures AnswersWith old new (Ok (Some n))) (sym same)
      (written (seen answer) (is_some answer is) writes.ok writes.failures)
