-- The outcomes of carrying out a plan.
use Rattle.std.proofs.Common.{◌≡◌, ℕ, List, Option, None, Some, Result, Ok, Err, refl, subst, sym}
use Rattle.std.proofs.Common.{Global, String, Vec, map, string_bytes}
use Rattle.std.specs.Result.{result_and}
use Rattle.cc_base.specs.declared.failures.Failures.{Failures}
use Rattle.complgen_scripts.proofs.WritingLemmas.{same}
use Rattle.complgen_plans.specs.GivenReplies.{EndsReplyWith}
use Rattle.complgen_scripts.specs.Refusals.{IsMade, values_unreadable_at}
use Rattle.complgen_plans.specs.Replies.{EndsReply, Paths}
use Rattle.complgen_scripts.specs.declared.plans.Plan.{Plan}
use Rattle.complgen_scripts.specs.declared.plans.Plan.TheVariants.{Candidates, CandidatesWith}
use Rattle.complgen_scripts.specs.declared.refusals.Refusal.{Refusal}
use Rattle.complgen_plans.specs.Ends.{Ends, EndsValues, Succeeds}

-- a call that ends with 0 on success
pub succeeds : (EndsBy : Result (Unit {0}) Refusal → Type 0) (written : Result (Unit {0}) Refusal)
    (result : Result ℕ Refusal) → result ≡ result_and written (Ok 0) → EndsBy written
    → Succeeds EndsBy result
succeeds EndsBy (Ok tt) result is ends = subst (Succeeds EndsBy) (sym is) (refl, ends)
succeeds EndsBy (Err refusal) result is ends = subst (Succeeds EndsBy) (sym is) ends

module _ {S : Type 0} (taken : S → List ℕ) (failed : S → Failures) (Finds : Paths) (path : List ℕ)
    (words : List (List ℕ)) (index : ℕ) (file : Option (List ℕ)) where
  -- the file with values can't be read
  pub values_unread : (state : S) (values : Option (List ℕ)) (refusal : Refusal) → values ≡ None
      → IsMade (values_unreadable_at path) refusal
      → EndsValues taken failed Finds path words index file state state values (Err refusal)
  values_unread state values refusal is made = subst
      (λ (v : Option (List ℕ)).
      EndsValues taken failed Finds path words index file state state v (Err refusal)) (sym is)
      (made, same taken failed state)

  -- its lines are used
  pub values_used : (old new : S) (values : Option (List ℕ)) (lines : List ℕ)
      (result : Result (Unit {0}) Refusal) → values ≡ Some lines
      → EndsReplyWith taken failed Finds lines words index file old new result
      → EndsValues taken failed Finds path words index file old new values result
  values_used old new values lines result is ends = subst
      (λ (v : Option (List ℕ)).
      EndsValues taken failed Finds path words index file old new v result) (sym is) ends

module _ {S : Type 0} (taken : S → List ℕ) (failed : S → Failures) (Finds : Paths) (plan : Plan)
    (index : ℕ) (path : String Global) (words : Vec (String Global) Global)
    (passed : List (String Global)) (number : ℕ) (file values : Option (List ℕ)) (old new : S)
    (written : Result (Unit {0}) Refusal) (result : Result ℕ Refusal) where
  -- a plan of candidates for these words
  pub ends_candidates : plan ≡ Candidates index path words → passed ≡ words.items → number ≡ index
      → result ≡ result_and written (Ok 0)
      → EndsReply taken failed Finds (map string_bytes passed) number file old new written
      → Ends taken failed Finds plan file values old new result
  ends_candidates is all same told ends =
      subst (λ (p : Plan). Ends taken failed Finds p file values old new result) (sym is)
      (succeeds (EndsReply taken failed Finds (map string_bytes words.items) index file old new)
      written result told
      (subst (λ (ws : List (String Global)).
      EndsReply taken failed Finds (map string_bytes ws) index file old new written) all
      (subst (λ (n : ℕ).
      EndsReply taken failed Finds (map string_bytes passed) n file old new written) same ends)))

  -- the same over the lines of a file
  pub ends_with_values : (from : String Global) (named : List ℕ)
      → plan ≡ CandidatesWith from index path words → named ≡ string_bytes from
      → passed ≡ words.items → number ≡ index → result ≡ result_and written (Ok 0)
      → EndsValues taken failed Finds named (map string_bytes passed) number file old new values written
      → Ends taken failed Finds plan file values old new result
  ends_with_values from named is name all same told ends =
      subst (λ (p : Plan). Ends taken failed Finds p file values old new result) (sym is)
      (succeeds (EndsValues taken failed Finds (string_bytes from) (map string_bytes words.items)
      index file old new values) written result told
      (subst (λ (t : List ℕ). EndsValues taken failed Finds t (map string_bytes words.items)
      index file old new values written) name
      (subst (λ (ws : List (String Global)). EndsValues taken failed Finds named
      (map string_bytes ws) index file old new values written) all
      (subst (λ (n : ℕ). EndsValues taken failed Finds named (map string_bytes passed)
      n file old new values written) same ends))))
