-- Lemmas for the answer over a command that is built.
use Rattle.std.proofs.Common.{◌≡◌, ◌∙◌, ◌-◌, ap, arith, refl, sym, subst, ℕ, suc, List, [], ◌∷◌, length, Option, None, Some, Result, Ok, Err}
use Rattle.std.proofs.Math.Seq.{take-length}
use Rattle.std.specs.Prelude.{drop, take}
use Rattle.cc_arg.specs.declared.parts.ArgParts.{ArgParts as Arg}
use Rattle.cc_arg.specs.declared.value_source.SourceValues.{SourceValues}
use Rattle.cc_base.specs.declared.error.Error.{Error}
use Rattle.cc_base.specs.declared.error.Error.TheVariants.{Memory}
use Rattle.cc_candidates.specs.declared.candidate.CompletionCandidate.{CompletionCandidate}
use Rattle.cc_command.proofs.ListedBuilt.{built_with_list}
use Rattle.cc_command.specs.Built.{built_tree}
use Rattle.cc_command.specs.Tree.{Tree}
use Rattle.cc_command.specs.ValueLists.{listed_tree}
use Rattle.cc_command.specs.declared.node.Node.{Node}
use Rattle.cc_engine.specs.Completion.{names_before}
use Rattle.cc_env.specs.Arguments.{after_dashes, words_after}
use Rattle.cc_env.specs.Builtins.{CompleterSpec}
use Rattle.cc_env.specs.Steps.{IsRegistration, MakesText, Names, RepliesAs}
use Rattle.cc_env.specs.Steps as made
use Rattle.cc_replies.specs.declared.environment.EnvValues.{EnvValues}
use Rattle.cc_env.specs.Answers.{Answers, AnswersStep, Parts, Told, answered, not_asked, out_of_memory, over_lines, replied, runs}
use Rattle.cc_env.specs.Asking.{AsksOver, CannotAsk, next_step, typed_words, values_mode}
use Rattle.cc_env.specs.declared.asking.asked.AnswerStep.{AnswerStep}

-- The text over a command that is built already is the text over the command of which it was built,
-- since each of them is built first.
pub text_of_built : (shell : CompleterSpec) (names : List ℕ → Tree → Names) (env : EnvValues)
    (Offers : Tree → List (List ℕ) → ℕ → List CompletionCandidate → Type 0) (tree built : Tree)
    → built_tree built ≡ built_tree tree
    → {arguments : List (List ℕ)} {result : Result (List ℕ) Error}
    → MakesText (λ made. made ≡ Ok built) shell names env Offers arguments result
    → MakesText (λ made. made ≡ Ok tree) shell names env Offers arguments result
text_of_built shell names env Offers tree built same (made.factory_failed arguments error is) =
    absurd (cc is)
text_of_built shell names env Offers tree built same (made.out_of_memory arguments) =
    made.out_of_memory arguments
text_of_built shell names env Offers tree built same (made.no_arguments other is) =
    made.no_arguments tree refl
text_of_built shell names env Offers tree built same
    (made.registered other program rest text is none registration) =
    let is_built : other ≡ built = cc is in
    made.registered tree program rest text refl none
    (subst (λ t. IsRegistration shell (names program t) text) (ap built_tree is_built ∙ same)
    registration)
text_of_built shell names env Offers tree built same
    (made.replied other program rest result is some replies) =
    let is_built : other ≡ built = cc is in
    made.replied tree program rest result refl some
    (subst (λ t. RepliesAs shell env (after_dashes rest) (Offers t) t result)
    (ap built_tree is_built ∙ same) replies)

-- the text over an equal tree
pub text_over_equal : {shell : CompleterSpec} {names : List ℕ → Tree → Names} {env : EnvValues}
    {Offers : Tree → List (List ℕ) → ℕ → List CompletionCandidate → Type 0} {tree other : Tree}
    {words : List (List ℕ)} {result : Result (List ℕ) Error} → tree ≡ other
    → MakesText (λ made. made ≡ Ok tree) shell names env Offers words result
    → MakesText (λ made. made ≡ Ok other) shell names env Offers words result
text_over_equal {shell} {names} {env} {Offers} {tree} {other} {words} {result} same makes =
    subst (λ t. MakesText (λ made. made ≡ Ok t) shell names env Offers words result) same makes

-- values for an argument, before and after the command is built
pub listed_built : (asked : Arg) (values : SourceValues) (tree : Tree)
    → built_tree (built_tree tree) ≡ built_tree tree
    → built_tree (listed_tree asked values (built_tree tree))
    ≡ built_tree (listed_tree asked values tree)
listed_built asked values tree whole =
    sym (built_with_list asked values (built_tree tree))
    ∙ ap (listed_tree asked values) whole ∙ built_with_list asked values tree

-- the answer by a step over the built command is that over the command
pub step_of_built : (parts : Parts) (Gives : Arg → List ℕ → Type 0) (tree : Tree)
    → built_tree (built_tree tree) ≡ built_tree tree
    → {step : AnswerStep} {result : Result Told Error}
    → AnswersStep parts Gives (built_tree tree) step result
    → AnswersStep parts Gives tree step result
step_of_built parts Gives tree whole (replied result makes) =
    replied result (text_of_built _ _ _ _ tree (built_tree tree) whole makes)
step_of_built parts Gives tree whole (runs command) = runs command
step_of_built parts Gives tree whole (over_lines argument read result reads makes) =
    over_lines argument read result reads
    (text_of_built _ _ _ _ (listed_tree argument read.values tree)
    (listed_tree argument read.values (built_tree tree))
    (listed_built argument read.values tree whole) makes)
step_of_built parts Gives tree whole (out_of_memory step) = out_of_memory step

-- ---- the answers

-- no word can be asked for
pub asked_failed : (parts : Parts) (Gives : Arg → List ℕ → Type 0) (tree : Tree)
    (after : List (List ℕ)) (error : Error) → after ≡ words_after parts.args
    → CannotAsk (values_mode parts.env) (built_tree tree) after error
    → Answers parts Gives tree (Err error)
asked_failed parts Gives tree after error same fails =
    not_asked error
    (subst (λ ws. CannotAsk (values_mode parts.env) (built_tree tree) ws error) same fails)

-- the typed words, if the last word is to complete
typed_at_last : (node : Node) (words : List (List ℕ))
    → drop (names_before node) words ≡ typed_words node words (length words - 1)
typed_at_last node [] = refl
typed_at_last node (word ∷ words) =
    let before : length (word ∷ words) - 1 ≡ length words = omega arith in
    ap (drop (names_before node)) (sym (take-length (word ∷ words))
    ∙ ap (λ n. take (suc n) (word ∷ words)) (sym before))

-- memory can run out at any request
memory_at : (mode : Option (List ℕ)) (tree : Tree) (words : List (List ℕ))
    → CannotAsk mode tree words Memory
memory_at None tree words = refl
memory_at (Some mode) tree words = tt

pub out_of_memory_at : (parts : Parts) (Gives : Arg → List ℕ → Type 0) (tree : Tree)
    → Answers parts Gives tree (Err Memory)
out_of_memory_at parts Gives tree =
    not_asked Memory (memory_at (values_mode parts.env) (built_tree tree) (words_after parts.args))

-- the answer by the step of a request, over the built command
pub answered_built : (parts : Parts) (Gives : Arg → List ℕ → Type 0) (tree built : Tree)
    (after typed : List (List ℕ)) (asked : Option Arg) (step : AnswerStep)
    (result : Result Told Error) → after ≡ words_after parts.args
    → AsksOver (values_mode parts.env) (built_tree tree) after asked
    → built ≡ built_tree tree → built_tree built ≡ built
    → typed ≡ drop (names_before built.node) after
    → step ≡ next_step parts.env parts.trusted asked typed
    → AnswersStep parts Gives built step result
    → Answers parts Gives tree result
answered_built parts Gives tree built after typed asked step result same asks is whole typed_is by answers =
    answered asked result
    (subst (λ ws. AsksOver (values_mode parts.env) (built_tree tree) ws asked) same asks)
    (step_of_built parts Gives tree (ap built_tree (sym is) ∙ whole ∙ is)
    (subst (λ s. AnswersStep parts Gives (built_tree tree) s result)
    (by ∙ ap (next_step parts.env parts.trusted asked)
    (typed_is ∙ ap (λ ws. drop (names_before built.node) ws) same
    ∙ ap (λ t. drop (names_before t.node) (words_after parts.args)) is
    ∙ typed_at_last (built_tree tree).node (words_after parts.args)))
    (subst (λ t. AnswersStep parts Gives t step result) is answers)))
