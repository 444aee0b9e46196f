-- The candidates for a word of a command line without completers, and the reply with them.
use Rattle.std.specs.Prelude.{⊤, ◌≡◌, ℕ, List, [], Option, Result, true, false, length}
use Rattle.cc_engine.specs.Values.{MayReturn}
use Rattle.cc_command.specs.Built.{built_tree}
use Rattle.cc_engine.specs.Completion.{Completes, is_in_range}
use Rattle.cc_candidates.specs.declared.candidate.CompletionCandidate.{CompletionCandidate}
use Rattle.cc_base.specs.declared.error.Error.{Error}
use Rattle.cc_base.specs.declared.error.Error.TheVariants.{Memory, NoCompletion}
use Rattle.cc_base.specs.declared.failures.Failures.{Failures}
use Rattle.cc_command.specs.Tree.{Tree}
use Rattle.cc_arg.specs.declared.value_hint.ValueHint.{ValueHint}
use Rattle.complgen_scripts.specs.Refusals.{IsRefusal}
use Rattle.complgen_scripts.specs.declared.refusals.Refusal.{Refusal}
use Rattle.cc_replies.specs.Reply.{LinesRead, lines_reply}
use Rattle.complgen_scripts.specs.Refusals.{error_line}
use Rattle.complgen_scripts.specs.Writing.{Finishes}

-- the paths that may be found for a value hint and a text
abbrev pub Paths : Type 1
Paths = ValueHint → List ℕ → List CompletionCandidate → Type 0

-- there are no completers and no lists, so they have no candidates; only paths are found
abbrev pub only_paths : Paths → MayReturn
only_paths Finds = record {
  completes = λ which number text found. found ≡ [];
  lists = λ which found. found ≡ [];
  finds = Finds;
}

-- the candidates are possible ones for the word at the index of the built command
pub record AreFound (Finds : Paths) (words : List (List ℕ)) (index : ℕ) (tree : Tree)
    (found : List CompletionCandidate) : Type 0 where
  pub in_range : is_in_range (built_tree tree).node (length words) index ≡ true
  pub completes : Completes (only_paths Finds) (built_tree tree) words index found

-- why no candidates are found: memory runs out, or there is no word at the index
abbrev pub FindsNone : ℕ → ℕ → Tree → Error → Type 0
FindsNone count index tree Memory = ⊤
FindsNone count index tree NoCompletion = is_in_range (built_tree tree).node count index ≡ false
FindsNone count index tree _ = ⊥

-- there is no word at the index of the command line, and that is reported
pub record IsOutOfRange (count index : ℕ) (tree : Tree) (refusal : Refusal) : Type 0 where
  pub out_of_range : is_in_range (built_tree tree).node count index ≡ false
  pub reported : IsRefusal (error_line NoCompletion) refusal

-- the text is the reply to fish with candidates that may be found for the tree, and it reads back
pub record IsReplyOf (MayFind : Tree → List CompletionCandidate → Type 0) (tree : Tree)
    (text : List ℕ) : Type 0 where
  pub found : List CompletionCandidate
  pub are_found : MayFind tree found
  pub is : text ≡ lines_reply found
  pub read_back : LinesRead found

-- the same for the candidates for the word at the index
abbrev pub IsReply : Paths → List (List ℕ) → ℕ → Tree → List ℕ → Type 0
IsReply Finds words index = IsReplyOf (AreFound Finds words index)

-- the outcomes of writing them
abbrev pub EndsReply : {S : Type 0} → (S → List ℕ) → (S → Failures) → Paths → List (List ℕ) → ℕ
    → Option (List ℕ) → S → S → Result (Unit {0}) Refusal → Type 0
EndsReply taken failed Finds words index file old new result = Finishes taken failed false
    (IsOutOfRange (length words) index) (IsReply Finds words index) old new file result
