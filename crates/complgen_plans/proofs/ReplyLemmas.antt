-- The outcomes of writing the candidates for a word.
use Rattle.std.proofs.Common.{◌≡◌, ◌∙◌, ap, refl, subst, sym, ℕ, List, Option, Result, Ok, Err}
use Rattle.std.proofs.Common.{Global, String, [], false, true, length, map, IfErr, IfOk, OnOk, inl, inr}
use Rattle.std.proofs.lemmas.List.{length-map}
use Rattle.std.specs.String.{string_bytes}
use Rattle.complgen_scripts.specs.declared.refusals.Refusal.{Refusal}
use Rattle.cc_env.specs.Completion.{CompletesWith, RefusesWith}
use Rattle.cc_engine.specs.Values.{MayReturn}
use Rattle.cc_command.specs.Built.{built_tree}
use Rattle.cc_candidates.specs.Sources.{ReturnsAt}
use Rattle.cc_candidates.specs.declared.sources.Source.{Source}
use Rattle.cc_engine.specs.Completion.{Completes, Refuses, is_in_range}
use Rattle.cc_candidates.specs.declared.candidate.CompletionCandidate.{CompletionCandidate}
use Rattle.cc_base.specs.declared.error.Error.{Error}
use Rattle.cc_base.specs.declared.error.Error.TheVariants as error
use Rattle.cc_base.specs.declared.failures.Failures.{Failures}
use Rattle.cc_command.specs.Tree.{Tree}
use Rattle.cc_base.specs.Writes.{IsWrite, Writes}
use Rattle.cc_replies.specs.Reply.{LinesRead, lines_reply}
use Rattle.complgen_scripts.specs.Refusals.{Reports}
use Rattle.complgen_plans.specs.GivenReplies.{AreFoundWith}
use Rattle.complgen_plans.specs.Replies.{AreFound, EndsReply, FindsNone, IsOutOfRange, IsReply, IsReplyOf, Paths, only_paths}
use Rattle.complgen_scripts.specs.Writing.{Finishes}
use Rattle.complgen_scripts.proofs.WritingLemmas.{ends_cut_off, ends_rejected, ends_unwritten}
use Rattle.complgen_scripts.proofs.WritingLemmas.{ends_written, same}
use Rattle.complgen_tree_file.specs.TreeFile.{HoldsTree}

-- why a call that builds the command finds no candidates
pub finds_none : (old new : Tree) (count index : ℕ) (e : Error) → Refuses old new count index e
    → FindsNone count index old e
finds_none old new count index error.Memory refused = tt
finds_none old new count index error.NoCompletion refused =
    subst (λ tree. is_in_range tree.node count index ≡ false) refused.0 refused.1
finds_none old new count index _ refused = absurd refused

-- without completers and lists, only paths are found
pub without_completers : {B C L G : Type 0}
    (Boxes : ℕ → List ℕ → B → List CompletionCandidate → Type 0)
    (Closures : ℕ → List ℕ → C → List CompletionCandidate → Type 0)
    (completers : List B) (added : List (Source B C))
    (ListBoxes : L → List CompletionCandidate → Type 0)
    (ListClosures : G → List CompletionCandidate → Type 0)
    (lists : List L) (added_lists : List (Source L G)) (Finds : Paths)
    → (completers ≡ []) × (added ≡ []) → (lists ≡ []) × (added_lists ≡ [])
    → record {
      completes = λ which number text. ReturnsAt (Boxes number text) (Closures number text)
          completers added which;
      lists = λ which. ReturnsAt ListBoxes ListClosures lists added_lists which;
      finds = Finds;
    } ≡ only_paths Finds
without_completers Boxes Closures completers added ListBoxes ListClosures lists added_lists Finds none no_lists =
    rw (none.0, none.1, no_lists.0, no_lists.1) refl

-- what a call that builds the command finds if it finds only paths
pub are_found : {A : Type 0} (items : A → List CompletionCandidate) (Finds : Paths) (sources : MayReturn)
    (words : List (String Global)) (index : ℕ) (old new : Tree) (result : Result A Error)
    → sources ≡ only_paths Finds
    → IfOk result (λ found. Completes sources new (map string_bytes words) index (items found))
    → OnOk result (new ≡ built_tree old)
    → OnOk result (is_in_range new.node (length words) index ≡ true)
    → IfOk result (λ found. AreFound Finds (map string_bytes words) index old (items found))
are_found items Finds sources words index old new (Ok found) is completes built ranges = record {
  in_range = subst (λ tree.
      is_in_range tree.node (length (map string_bytes words)) index ≡ true) built
      (subst (λ count. is_in_range new.node count index ≡ true)
      (sym (length-map words string_bytes)) ranges);
  completes = subst (λ tree.
      Completes (only_paths Finds) tree (map string_bytes words) index (items found)) built
      (subst (λ l. Completes l new (map string_bytes words) index (items found)) is completes);
}
are_found items Finds sources words index old new (Err e) is completes built ranges = tt

-- the same over given lines
pub are_found_with : {A : Type 0} (items : A → List CompletionCandidate) (Finds : Paths)
    (sources : MayReturn) (lines : List ℕ) (words copies : List (String Global)) (index : ℕ)
    (old : Tree) (result : Result A Error) → sources ≡ only_paths Finds
    → map string_bytes copies ≡ map string_bytes words
    → IfOk result (λ found.
    CompletesWith sources lines old (map string_bytes copies) index (items found))
    → OnOk result (is_in_range old.node (length copies) index ≡ true)
    → IfOk result (λ found.
    AreFoundWith Finds lines (map string_bytes words) index old (items found))
are_found_with items Finds sources lines words copies index old (Ok found) is same completes ranges =
    record {
      in_range = subst (λ count. is_in_range old.node count index ≡ true)
          (sym (length-map copies string_bytes) ∙ ap length same) ranges;
      completes = subst (λ l. CompletesWith l lines old (map string_bytes words) index (items found)) is
          (subst (λ ws. CompletesWith sources lines old ws index (items found)) same completes);
    }
are_found_with items Finds sources lines words copies index old (Err e) is same completes ranges = tt

-- why a call with given lines finds no candidates
finds_none_with : (lines : List ℕ) (old new : Tree) (words : List (List ℕ)) (index : ℕ) (e : Error)
    → RefusesWith lines old new words index e → FindsNone (length words) index old e
finds_none_with lines old new words index e (inl refused) =
    finds_none old new (length words) index e refused
finds_none_with lines old new words index e (inr refused) =
    subst (λ e. FindsNone (length words) index old e) (sym refused.0) tt

pub find_none_with : {A : Type 0} (lines : List ℕ) (old new : Tree)
    (words copies : List (String Global)) (index : ℕ) (result : Result A Error)
    → map string_bytes copies ≡ map string_bytes words
    → IfErr result (RefusesWith lines old new (map string_bytes copies) index)
    → IfErr result (FindsNone (length words) index old)
find_none_with lines old new words copies index (Ok found) same refuses = tt
find_none_with lines old new words copies index (Err e) same refuses =
    subst (λ count. FindsNone count index old e)
    (ap length same ∙ length-map words string_bytes)
    (finds_none_with lines old new (map string_bytes copies) index e refuses)

module _ {S : Type 0} (taken : S → List ℕ) (failed : S → Failures)
    (IsText : Tree → List ℕ → Type 0) (words : List (List ℕ)) (index : ℕ) where
  -- the candidates for copies of the words are those for the words
  recount : (copies : List (String Global)) → map string_bytes copies ≡ words
      → length copies ≡ length words
  recount copies are = sym (length-map copies string_bytes) ∙ ap length are

  -- nothing is found for the word
  pub nothing_found : (state : S) (file : Option (List ℕ)) (tree : Tree) (e : Error)
      (refusal : Refusal) (copies : List (String Global)) → map string_bytes copies ≡ words
      → HoldsTree file tree → FindsNone (length copies) index tree e → Reports e refusal
      → Finishes taken failed false (IsOutOfRange (length words) index) IsText state state file
      (Err refusal)
  nothing_found state file tree error.Memory refusal copies are held none reported =
      ends_unwritten taken failed false (IsOutOfRange (length words) index) IsText state file tree
      refusal held reported
  nothing_found state file tree error.NoCompletion refusal copies are held none reported =
      ends_rejected taken failed false (IsOutOfRange (length words) index) IsText state state file tree
      refusal held
      (record {
        out_of_range = subst (λ count. is_in_range (built_tree tree).node count index ≡ false)
            (recount copies are) none;
        reported = reported;
      }) (same taken failed state)
  nothing_found state file tree _ refusal copies are held none reported = absurd none

module _ {S : Type 0} (taken : S → List ℕ) (failed : S → Failures)
    (Rejects : Tree → Refusal → Type 0) (MayFind : Tree → List CompletionCandidate → Type 0) where
  -- candidates are found, and written
  pub found_written : (old new : S) (file : Option (List ℕ)) (tree : Tree)
      (found shown : List CompletionCandidate) → HoldsTree file tree → MayFind tree found
      → shown ≡ found → Writes taken failed (Ok tt) old new (lines_reply shown) → LinesRead shown
      → Finishes taken failed false Rejects (IsReplyOf MayFind) old new file (Ok tt)
  found_written old new file tree found shown held may all wrote read =
      ends_written taken failed false Rejects (IsReplyOf MayFind) old new file tree (lines_reply shown)
      held
      (record {
        found = found;
        are_found = may;
        is = ap lines_reply all;
        read_back = subst LinesRead all read;
      }) wrote.ok wrote.failures

  -- candidates are found, and writing them fails
  pub found_failed : (old new : S) (file : Option (List ℕ)) (tree : Tree)
      (found shown : List CompletionCandidate) (e : Error) (refusal : Refusal) → HoldsTree file tree
      → MayFind tree found → shown ≡ found → Writes taken failed (Err e) old new (lines_reply shown)
      → IsWrite e → LinesRead shown → Reports e refusal
      → Finishes taken failed false Rejects (IsReplyOf MayFind) old new file (Err refusal)
  found_failed old new file tree found shown e refusal held may all wrote kind read reported =
      ends_cut_off taken failed false Rejects (IsReplyOf MayFind) old new file tree (lines_reply shown)
      e refusal held
      (record {
        found = found;
        are_found = may;
        is = ap lines_reply all;
        read_back = subst LinesRead all read;
      }) wrote.begun wrote.failures kind reported

module _ {S : Type 0} (taken : S → List ℕ) (failed : S → Failures) (Finds : Paths)
    (words : List (List ℕ)) (index : ℕ) where
  -- no candidates are found
  pub none_found : (state : S) (file : Option (List ℕ)) (tree : Tree) (e : Error)
      (refusal : Refusal) (copies : List (String Global)) → map string_bytes copies ≡ words
      → HoldsTree file tree → FindsNone (length copies) index tree e → Reports e refusal
      → EndsReply taken failed Finds words index file state state (Err refusal)
  none_found = nothing_found taken failed (IsReply Finds words index) words index

  -- candidates are found, and written
  pub reply_written : (old new : S) (file : Option (List ℕ)) (tree : Tree)
      (found shown : List CompletionCandidate) (copies : List (String Global))
      → map string_bytes copies ≡ words → HoldsTree file tree
      → AreFound Finds (map string_bytes copies) index tree found → shown ≡ found
      → Writes taken failed (Ok tt) old new (lines_reply shown) → LinesRead shown
      → EndsReply taken failed Finds words index file old new (Ok tt)
  reply_written old new file tree found shown copies are held are_found all wrote read =
      found_written taken failed (IsOutOfRange (length words) index) (AreFound Finds words index) old
      new file tree found shown held (subst (λ ws. AreFound Finds ws index tree found) are are_found)
      all wrote read

  -- candidates are found, and writing them fails
  pub reply_failed : (old new : S) (file : Option (List ℕ)) (tree : Tree)
      (found shown : List CompletionCandidate) (e : Error) (refusal : Refusal)
      (copies : List (String Global)) → map string_bytes copies ≡ words → HoldsTree file tree
      → AreFound Finds (map string_bytes copies) index tree found → shown ≡ found
      → Writes taken failed (Err e) old new (lines_reply shown) → IsWrite e → LinesRead shown
      → Reports e refusal
      → EndsReply taken failed Finds words index file old new (Err refusal)
  reply_failed old new file tree found shown e refusal copies are held are_found all wrote kind
      read reported =
      found_failed taken failed (IsOutOfRange (length words) index) (AreFound Finds words index) old new
      file tree found shown e refusal held
      (subst (λ ws. AreFound Finds ws index tree found) are are_found) all wrote kind read reported
