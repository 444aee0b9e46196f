-- The ends of making the text, outcome by outcome.
use Rattle.std.proofs.Common.{◌≡◌, ◌≢◌, ◌==◌, ◌⊎◌, inl, inr, refl, sym, ap, ◌∙◌, subst, ℕ, true, false, List, [], ◌∷◌, length, map, Option, Result, Ok, Err, IfErr, IfOk}
use Rattle.std.proofs.lemmas.Bool.{eqb-true, eq-eqb}
use Rattle.std.proofs.lemmas.List.{length-map, nil_from_length}
use Rattle.cc_env.specs.Builtins.{CompleterSpec}
use Rattle.cc_base.specs.Collected.{collected_bytes}
use Rattle.cc_base.specs.declared.collected.Collected.{Collected}
use Rattle.cc_base.specs.declared.error.Error.{Error}
use Rattle.cc_base.specs.declared.error.Error.TheVariants.{Memory, NoCompletion}
use Rattle.cc_candidates.specs.declared.candidate.CompletionCandidate.{CompletionCandidate}
use Rattle.cc_command.specs.Built.{built_tree}
use Rattle.cc_command.specs.Tree.{Tree}
use Rattle.cc_replies.specs.declared.environment.EnvValues.{EnvValues}
use Rattle.cc_env.specs.Arguments.{after_dashes, words_after}
use Rattle.cc_env.specs.Steps.{BuiltUnlessMemory, IsRegistration, MakesText, MakesTextBy, Names, RegistersAs, RepliesAs, made_bytes, names_of, program_names}
use Rattle.cc_env.specs.declared.shell_program.ShellProgram.{ShellProgram}
use Rattle.std.specs.Option.{option_copied}
use Rattle.cc_env.specs.Steps.{factory_failed, no_arguments, out_of_memory, registered, replied}

abbrev Words : Type 0
Words = List (List ℕ)

-- no texts have no bytes, and some texts have
no_words : {X : Type 0} (f : X → List ℕ) (texts : List X) (words : Words) → map f texts ≡ words → (length texts == 0) ≡ true → words ≡ []
no_words f texts words is none = sym is ∙ ap (map f) (nil_from_length texts (eqb-true (length texts) 0 none))

some_words : {X : Type 0} (f : X → List ℕ) (texts : List X) (words : Words) → map f texts ≡ words → (length texts == 0) ≡ false → words ≢ []
some_words f texts words is some none =
    let empty : true ≡ false = sym (eq-eqb (length texts) 0 (sym (length-map texts f) ∙ ap length (is ∙ none))) ∙ some in cc

module _ (Makes : Result Tree Error → Type 0) (shell : CompleterSpec)
    (names : List ℕ → Tree → Names) (env : EnvValues)
    (Offers : Tree → Words → ℕ → List CompletionCandidate → Type 0) where
  -- no command is made
  pub text_without_command : (arguments : Words) (error : Error) → Makes (Err error) ⊎ (error ≡ Memory)
      → MakesText Makes shell names env Offers arguments (Err error)
  text_without_command arguments error (inl fails) = factory_failed arguments error fails
  text_without_command arguments error (inr is) =
      subst (λ e. MakesText Makes shell names env Offers arguments (Err e)) (sym is) (out_of_memory arguments)

  -- without words to complete, the registration
  pub text_registered : {X : Type 0} (f : X → List ℕ) (words : List X) (tree command : Tree) (arguments : Words) (result : Result (List ℕ) Error)
      → Makes (Ok tree) → command ≡ built_tree tree → map f words ≡ words_after arguments → (length words == 0) ≡ true
      → RegistersAs shell names command arguments result → MakesText Makes shell names env Offers arguments result
  text_registered f words tree command [] result makes is wanted none registers =
      subst (λ r. MakesText Makes shell names env Offers [] r) (sym registers) (no_arguments tree makes)
  text_registered f words tree command (program ∷ rest) (Ok text) makes is wanted none registers =
      registered tree program rest text makes (no_words f words (after_dashes rest) wanted none)
      (subst (λ t. IsRegistration shell (names program t) text) is registers)
  text_registered f words tree command (program ∷ rest) (Err error) makes is wanted none registers =
      subst (λ e. MakesText Makes shell names env Offers (program ∷ rest) (Err e)) (sym registers)
      (out_of_memory (program ∷ rest))

  -- the reply over the command that was made
  reply_over : (tree command after : Tree) (arguments kept : Words) (result : Result (List ℕ) Error)
      → Makes (Ok tree) → command ≡ built_tree tree → built_tree command ≡ command
      → kept ≡ words_after arguments → words_after arguments ≢ [] → after ≡ built_tree command
      → RepliesAs shell env kept (Offers after) after result → MakesText Makes shell names env Offers arguments result
  reply_over tree command after [] kept result makes is whole same some built replies = absurd (some refl)
  reply_over tree command after (program ∷ rest) kept result makes is whole same some built replies =
      replied tree program rest result makes some
      (subst (λ w. RepliesAs shell env w (Offers (built_tree tree)) (built_tree tree) result) same
      (subst (λ t. RepliesAs shell env kept (Offers t) t result) (built ∙ whole ∙ is) replies))

  -- with such words, the reply to them
  pub text_replied : {X : Type 0} (f : X → List ℕ) (words : List X) (tree command after : Tree) (arguments : Words) (result : Result (List ℕ) Error)
      → Makes (Ok tree) → command ≡ built_tree tree → built_tree command ≡ command
      → map f words ≡ words_after arguments → (length words == 0) ≡ false
      → BuiltUnlessMemory result (after ≡ built_tree command)
      → RepliesAs shell env (map f words) (Offers after) after result → MakesText Makes shell names env Offers arguments result
  text_replied f words tree command after arguments (Err Memory) makes is whole wanted some built replies =
      out_of_memory arguments
  text_replied f words tree command after arguments (Ok text) makes is whole wanted some built replies =
      reply_over tree command after arguments (map f words) (Ok text) makes is whole wanted
      (some_words f words (words_after arguments) wanted some) built replies
  text_replied f words tree command after arguments (Err NoCompletion) makes is whole wanted some built replies =
      reply_over tree command after arguments (map f words) (Err NoCompletion) makes is whole wanted
      (some_words f words (words_after arguments) wanted some) built replies
  text_replied f words tree command after arguments (Err _) makes is whole wanted some built replies = absurd built

-- the registration for some arguments
pub registers : (shell : CompleterSpec) (names : List ℕ → Tree → Names) (tree : Tree) (program path : List ℕ) (rest : Words)
    (result : Result Collected Error) → path ≡ program
    → IfOk result (λ text. IsRegistration shell (names path tree) (collected_bytes text))
    → IfErr result (λ error. error ≡ Memory)
    → RegistersAs shell names tree (program ∷ rest) (made_bytes result)
registers shell names tree program path rest (Ok text) same made memory =
    subst (λ p. IsRegistration shell (names p tree) (collected_bytes text)) same made
registers shell names tree program path rest (Err error) same made memory = memory

-- the text for a command that was made
pub text_by : (Makes : Result Tree Error → Type 0) (shell : CompleterSpec) (names : List ℕ → Tree → Names)
    (env : EnvValues) (Offers : Tree → Words → ℕ → List CompletionCandidate → Type 0) (command : Tree)
    → Makes (Ok command) → {arguments : Words} {result : Result (List ℕ) Error}
    → MakesText (λ made. made ≡ Ok command) shell names env Offers arguments result
    → MakesText Makes shell names env Offers arguments result
text_by Makes shell names env Offers command makes (factory_failed arguments error is) = absurd (cc is)
text_by Makes shell names env Offers command makes (out_of_memory arguments) = out_of_memory arguments
text_by Makes shell names env Offers command makes (no_arguments tree is) =
    no_arguments tree (subst Makes (sym is) makes)
text_by Makes shell names env Offers command makes (registered tree program rest text is none registration) =
    registered tree program rest text (subst Makes (sym is) makes) none registration
text_by Makes shell names env Offers command makes (replied tree program rest result is some replies) =
    replied tree program rest result (subst Makes (sym is) makes) some replies

abbrev Only : Tree → Result Tree Error → Type 0
Only command made = made ≡ Ok command

-- the text of a program for a shell and names that are known by other terms
pub text_named : {E : Type 0} (Makes : Result Tree Error → Type 0) (spec : E → CompleterSpec) (env : EnvValues)
    (Offers : Tree → Words → ℕ → List CompletionCandidate → Type 0) (program : ShellProgram E) (shell : E)
    (variable : List ℕ) (bin completer current : Option (List ℕ)) (command : Tree) (words arguments : Words)
    (result : Result (List ℕ) Error) → program.shell.now ≡ shell → program.variable.now ≡ variable
    → option_copied program.bin ≡ bin → option_copied program.completer ≡ completer → words ≡ arguments
    → Makes (Ok command) → MakesTextBy spec program current command env Offers words result
    → MakesText Makes (spec shell) (names_of variable bin completer current) env Offers arguments result
text_named Makes spec env Offers program shell variable bin completer current command words arguments result same_shell same_variable same_bin same_completer same_words makes text =
    text_by Makes (spec shell) (names_of variable bin completer current) env Offers command makes
    (subst (λ s. MakesText (Only command) (spec s) (names_of variable bin completer current) env Offers arguments result) same_shell
    (subst (λ v. MakesText (Only command) (spec program.shell.now) (names_of v bin completer current) env Offers arguments result) same_variable
    (subst (λ b. MakesText (Only command) (spec program.shell.now) (names_of program.variable.now b completer current) env Offers arguments result) same_bin
    (subst (λ c. MakesText (Only command) (spec program.shell.now) (names_of program.variable.now (option_copied program.bin) c current) env Offers arguments result) same_completer
    (subst (λ ws. MakesText (Only command) (spec program.shell.now) (program_names program current) env Offers ws result) same_words text)))))
