-- A prompt that completes its last word: its registration, its reply, and how both are read.
use Rattle.std.specs.Prelude.{◌≡◌, ◌≢◌, ◌++◌, ◌-◌, ℕ, Bool, false, true, List, [], ◌∷◌, Option, None, Some, Result, Ok, IfOk, codes, flat_map, length, map}
use Rattle.std.specs.List.{AllByRecursion}
use Rattle.std.specs.Str.{bytes_eq}
use Rattle.clap_complete.specs.cc_env.Builtins.{CompleterSpec}
use Rattle.clap_complete.specs.cc_command.Built.{built_tree}
use Rattle.clap_complete.specs.cc_candidates.declared.candidate.CompletionCandidate.{CompletionCandidate}
use Rattle.clap_complete.specs.cc_base.declared.error.Error.{Error}
use Rattle.clap_complete.specs.cc_env.Arguments.{after_dashes, program_path}
use Rattle.clap_complete.specs.cc_command.Tree.{Tree}
use Rattle.clap_complete.specs.cc_env.WantedWords.{WantsAtLast}
use Rattle.cc_caller.specs.WordList.{IsOneLine, lines_of}
use Rattle.cc_caller.specs.declared.prompt.Prompt.{Prompt}

-- ---- the texts

-- a text and a line feed
abbrev pub ended_line : List ℕ → List ℕ
ended_line text = text ++ codes "\n"

-- the registration: a line with the variable, and a line with the completer
abbrev pub prompt_registration : List ℕ → List ℕ → List ℕ
prompt_registration variable completer = ended_line variable ++ ended_line completer

-- the reply: a line for each value
abbrev pub prompt_reply : List CompletionCandidate → List ℕ
prompt_reply found = flat_map (λ candidate. ended_line candidate.value) found

-- ---- the laws

-- the lines of the registration are the variable and the completer
abbrev pub PromptReads : List ℕ → List ℕ → Type 0
PromptReads variable completer = IsOneLine variable → IsOneLine completer
    → lines_of (prompt_registration variable completer) ≡ variable ∷ completer ∷ []

-- the lines of the reply are the values
abbrev pub PromptReplyReads : List CompletionCandidate → Type 0
PromptReplyReads found = AllByRecursion (λ candidate. IsOneLine candidate.value) found
    → lines_of (prompt_reply found) ≡ map (λ candidate. candidate.value) found

-- the specification of the adapter
abbrev pub prompt_spec : CompleterSpec
prompt_spec = record {
  name = codes "prompt";
  named = λ name. bytes_eq name (codes "prompt");
  registration = λ variable name bin completer. prompt_registration variable completer;
  Reads = λ variable name bin completer. PromptReads variable completer;
  Wants = λ env words wanted index. WantsAtLast words wanted index;
  reply = λ env found. prompt_reply found;
  ReplyReads = λ env found. PromptReplyReads found;
}

-- ---- a program that such a prompt asks

-- its only shell
abbrev pub all_prompts : List Prompt
all_prompts = record {} ∷ []

-- The text for the arguments. Without words after a `--`, it is the registration of the variable
-- `COMPLETE` and the path of the program. With words, it is the reply of candidates that may be
-- offered for the last one. `Makes` is true of the commands that the program may make.
pub data IsAnswer (Makes : Result Tree Error → Type 0) (current : Option (List ℕ))
    (Offers : Tree → List (List ℕ) → ℕ → List CompletionCandidate → Type 0)
    : List (List ℕ) → List ℕ → Type 0 where
  registered : (tree : Tree) (program : List ℕ) (rest : List (List ℕ)) → Makes (Ok tree)
      → after_dashes rest ≡ []
      → IsAnswer Makes current Offers (program ∷ rest)
      (prompt_registration (codes "COMPLETE") (program_path current program))
  replied : (tree : Tree) (program : List ℕ) (rest : List (List ℕ))
      (found : List CompletionCandidate) → Makes (Ok tree) → after_dashes rest ≢ []
      → Offers (built_tree tree) (after_dashes rest) (length (after_dashes rest) - 1) found
      → IsAnswer Makes current Offers (program ∷ rest) (prompt_reply found)

-- The ends of a program that answers the prompt, by the name that the environment requests. `Answer`
-- is true of the texts that answer it.
pub record AnswersPrompt {S : Type 0} (taken : S → List ℕ) (Answer : List ℕ → Type 0)
    (name : Option (List ℕ)) (old new : S) (result : Result Bool Error) : Type 0 where
  -- nothing is requested, and nothing is written
  pub silent : name ≡ None → (result ≡ Ok false) × (new ≡ old)
  -- the prompt is requested, and an answer is written
  pub asked : name ≡ Some (codes "prompt") → IfOk result (λ done. (done ≡ true)
      × (text : List ℕ) × Answer text × (taken new ≡ taken old ++ text))
  -- another shell is requested: that is an error, and nothing is written
  pub unknown : (other : List ℕ) → name ≡ Some other → bytes_eq other (codes "prompt") ≡ false
      → IfOk result (λ done. ⊥) × (new ≡ old)
