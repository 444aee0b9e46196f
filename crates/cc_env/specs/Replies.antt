-- The effects of a call that replies to a shell.
use Rattle.std.specs.Prelude.{◌≡◌, ◌⊎◌, ◌++◌, ℕ, true, false, List, length, Result, OnOk, IfErr}
use Rattle.cc_base.specs.Partly.{partly}
use Rattle.cc_base.specs.Writes.{CountsWrite}
use Rattle.cc_base.specs.declared.error.Error.{Error}
use Rattle.cc_base.specs.declared.error.Error.TheVariants.{Memory, NoCompletion, Write}
use Rattle.cc_base.specs.declared.failures.Failures.{Failures}
use Rattle.cc_candidates.specs.declared.candidate.CompletionCandidate.{CompletionCandidate}
use Rattle.cc_command.specs.Built.{built_tree}
use Rattle.cc_command.specs.Tree.{Tree}
use Rattle.cc_engine.specs.Completion.{is_in_range}

-- words and an index to complete, and what holds of them
pub record IsWanted (Wants : List (List ℕ) → ℕ → Type 0) (Holds : List (List ℕ) → ℕ → Type 0)
    : Type 0 where
  pub words : List (List ℕ)
  pub index : ℕ
  pub wants : Wants words index
  pub holds : Holds words index

-- the index to complete is in range
abbrev pub WantsInRange : Tree → (List (List ℕ) → ℕ → Type 0) → Type 0
WantsInRange tree Wants =
    IsWanted Wants (λ words index. is_in_range tree.node (length words) index ≡ true)

abbrev pub WantsOutOfRange : Tree → (List (List ℕ) → ℕ → Type 0) → Type 0
WantsOutOfRange tree Wants =
    IsWanted Wants (λ words index. is_in_range tree.node (length words) index ≡ false)

-- the text is the reply of candidates that may be offered for the words and the index
abbrev pub IsReply : (List (List ℕ) → ℕ → Type 0)
    → (List (List ℕ) → ℕ → List CompletionCandidate → Type 0)
    → (List CompletionCandidate → List ℕ) → List ℕ → Type 0
IsReply Wants Offers reply text = IsWanted Wants
    (λ words index.
    (found : List CompletionCandidate) × Offers words index found × (text ≡ reply found))

-- The call fails: out of memory, with nothing taken and the tree as it was, or built; with
-- nothing taken, because the index is out of range; or by a put that failed, with a beginning of
-- the reply taken.
abbrev pub FailsToReply : {S : Type 0} → (S → List ℕ) → S → S → Tree → Tree
    → (List (List ℕ) → ℕ → Type 0) → (List ℕ → Type 0) → Error → Type 0
FailsToReply taken old new before after Wants Reply Memory =
    (new ≡ old) × ((after ≡ before) ⊎ (after ≡ built_tree before))
FailsToReply taken old new before after Wants Reply NoCompletion =
    (new ≡ old) × (after ≡ built_tree before) × WantsOutOfRange after Wants
FailsToReply taken old new before after Wants Reply (Write _) =
    (after ≡ built_tree before) × WantsInRange after Wants
    × (text : List ℕ) × Reply text × (partly (taken new) (taken old) text ≡ true)
FailsToReply taken old new before after Wants Reply _ = ⊥

-- If the call returns `Ok`, the reply is taken, the tree is built and the index is in range. A
-- failure is counted exactly if the call returns `Write`.
pub record Replies {S : Type 0} (taken : S → List ℕ) (failed : S → Failures)
    (result : Result (Unit {0}) Error) (old new : S) (before after : Tree)
    (Wants : List (List ℕ) → ℕ → Type 0)
    (Offers : List (List ℕ) → ℕ → List CompletionCandidate → Type 0)
    (reply : List CompletionCandidate → List ℕ) : Type 0 where
  pub ok : OnOk result ((text : List ℕ) × IsReply Wants Offers reply text
      × (taken new ≡ taken old ++ text))
  pub built : OnOk result (after ≡ built_tree before)
  pub in_range : OnOk result (WantsInRange after Wants)
  pub failures : CountsWrite result (failed old) (failed new)
  pub errors : IfErr result
      (FailsToReply taken old new before after Wants (IsReply Wants Offers reply))
