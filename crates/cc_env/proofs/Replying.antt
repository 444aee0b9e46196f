-- The ends of a call that finds candidates and writes their reply.
use Rattle.std.proofs.Common.{◌≡◌, ◌∙◌, ℕ, Bool, true, List, length}
use Rattle.std.proofs.Common.{Result, Ok, Err, IfErr, IsErrAnd}
use Rattle.std.proofs.Common.{ap, inl, refl, subst, sym}
use Rattle.cc_env.specs.WantedWords.{WantsThese}
use Rattle.cc_env.specs.Replies.{FailsToReply, IsReply, IsWanted, Replies}
use Rattle.cc_base.specs.Writes.{IsWrite, Writes}
use Rattle.cc_base.specs.declared.error.Error.{Error}
use Rattle.cc_base.specs.declared.error.Error.TheVariants.{Memory, NoCompletion, Write}
use Rattle.cc_base.specs.declared.failures.Failures.{Failures}
use Rattle.cc_candidates.specs.declared.candidate.CompletionCandidate.{CompletionCandidate}
use Rattle.cc_command.specs.Built.{built_tree}
use Rattle.cc_command.specs.Tree.{Tree}
use Rattle.cc_engine.specs.Completion.{Refuses, is_in_range}

module _ {S : Type 0} (taken : S → List ℕ) (failed : S → Failures) (before after : Tree)
    (Wants : List (List ℕ) → ℕ → Type 0)
    (Offers : List (List ℕ) → ℕ → List CompletionCandidate → Type 0)
    (reply : List CompletionCandidate → List ℕ) where
  -- memory runs out while the tree is as it was
  pub out_of_memory : (result : Result (Unit {0}) Error) (sink : S)
      → IsErrAnd result (λ shown. shown ≡ Memory)
      → Replies taken failed result sink sink before before Wants Offers reply
  out_of_memory (Ok done) sink h = absurd h
  out_of_memory (Err shown) sink h =
      subst (λ e. Replies taken failed (Err e) sink sink before before Wants Offers reply) (sym h)
      (record { ok = tt; built = tt; in_range = tt; failures = refl; errors = (refl, inl refl) })

  -- the index is in range or not, by the words to complete
  range_wanted : (words : List (List ℕ)) (count index : ℕ) (within : Bool) → Wants words index
      → length words ≡ count → is_in_range after.node count index ≡ within
      → IsWanted Wants (λ words index. is_in_range after.node (length words) index ≡ within)
  range_wanted words count index within wants e h = record {
    words = words;
    index = index;
    wants = wants;
    holds = ap (λ n. is_in_range after.node n index) e ∙ h;
  }

  -- no candidates are found: nothing is written
  refused_with : (sink : S) (words : List (List ℕ)) (count index : ℕ) (error : Error)
      → Wants words index → length words ≡ count → Refuses before after count index error
      → Replies taken failed (Err error) sink sink before after Wants Offers reply
  refused_with sink words count index Memory wants e h =
      record { ok = tt; built = tt; in_range = tt; failures = refl; errors = (refl, h) }
  refused_with sink words count index NoCompletion wants e h = record {
    ok = tt;
    built = tt;
    in_range = tt;
    failures = refl;
    errors = (refl, h.0, range_wanted words count index _ wants e h.1);
  }
  refused_with sink words count index _ wants e h = absurd h

  pub refused : (result : Result (Unit {0}) Error) (sink : S) (words : List (List ℕ))
      (count index : ℕ) (error : Error) → IsErrAnd result (λ shown. shown ≡ error)
      → Wants words index → length words ≡ count → Refuses before after count index error
      → Replies taken failed result sink sink before after Wants Offers reply
  refused (Ok done) sink words count index error is wants e h = absurd is
  refused (Err shown) sink words count index error is wants e h =
      subst (λ e. Replies taken failed (Err e) sink sink before after Wants Offers reply) (sym is)
      (refused_with sink words count index error wants e h)

  -- a put fails
  unwritten : (old new : S) (words : List (List ℕ)) (count index : ℕ)
      (found : List CompletionCandidate) (error : Error) → Wants words index
      → length words ≡ count → after ≡ built_tree before
      → is_in_range after.node count index ≡ true → Offers words index found
      → Writes taken failed (Err error) old new (reply found) → IsWrite error
      → Replies taken failed (Err error) old new before after Wants Offers reply
  unwritten old new words count index found (Write kind) wants e built range offers w _ = record {
    ok = tt;
    built = tt;
    in_range = tt;
    failures = w.failures;
    errors = (
      built,
      range_wanted words count index true wants e range,
      reply found,
      record { words = words; index = index; wants = wants; holds = (found, offers, refl) },
      w.begun,
    );
  }
  unwritten old new words count index found _ wants e built range offers w h = absurd h

  -- candidates are found, and their reply is written, or a put fails
  written : (result : Result (Unit {0}) Error) (old new : S) (words : List (List ℕ))
      (count index : ℕ) (found : List CompletionCandidate) → Wants words index
      → length words ≡ count → after ≡ built_tree before
      → is_in_range after.node count index ≡ true → Offers words index found
      → Writes taken failed result old new (reply found) → IfErr result IsWrite
      → Replies taken failed result old new before after Wants Offers reply
  written (Ok done) old new words count index found wants e built range offers w _ = record {
    ok = (
      reply found,
      record { words = words; index = index; wants = wants; holds = (found, offers, refl) },
      w.ok,
    );
    built = built;
    in_range = range_wanted words count index true wants e range;
    failures = w.failures;
    errors = tt;
  }
  written (Err error) old new words count index found wants e built range offers w h =
      unwritten old new words count index found error wants e built range offers w h

  -- the same of candidates that are shown for them
  pub replied : (result : Result (Unit {0}) Error) (old new : S) (words : List (List ℕ))
      (count index : ℕ) (found shown : List CompletionCandidate) → Wants words index
      → length words ≡ count → after ≡ built_tree before
      → is_in_range after.node count index ≡ true → Offers words index found
      → shown ≡ found → Writes taken failed result old new (reply shown) → IfErr result IsWrite
      → Replies taken failed result old new before after Wants Offers reply
  replied result old new words count index found shown wants e built range offers same w h =
      written result old new words count index found wants e built range offers
      (subst (λ l. Writes taken failed result old new (reply l)) same w) h

  -- ---- if the words and the index are fixed

  these_words : (words : List (List ℕ)) (number : ℕ) → Wants words number
      → (Holds : List (List ℕ) → ℕ → Type 0) → IsWanted (WantsThese words number) Holds
      → IsWanted Wants Holds
  these_words words number wants Holds a = record {
    words = a.words;
    index = a.index;
    wants = subst (λ w. Wants w a.index) (sym a.wants.1) (subst (Wants words) (sym a.wants.0) wants);
    holds = a.holds;
  }

  these_error : (words : List (List ℕ)) (number : ℕ) → Wants words number → (old new : S)
      (error : Error) → FailsToReply taken old new before after (WantsThese words number)
      (IsReply (WantsThese words number) Offers reply) error
      → FailsToReply taken old new before after Wants (IsReply Wants Offers reply) error
  these_error words number wants old new Memory h = h
  these_error words number wants old new NoCompletion h =
      (h.0, h.1, these_words words number wants _ h.2)
  these_error words number wants old new (Write _) h =
      (h.0, these_words words number wants _ h.1, h.2, these_words words number wants _ h.3, h.4)
  these_error words number wants old new _ h = absurd h

  -- a reply for words and an index is one for whatever wants them
  pub replied_as_wanted : (result : Result (Unit {0}) Error) (old new : S) (words : List (List ℕ))
      (number : ℕ) → Wants words number
      → Replies taken failed result old new before after (WantsThese words number) Offers reply
      → Replies taken failed result old new before after Wants Offers reply
  replied_as_wanted (Ok done) old new words number wants r = record {
    ok = (r.ok.0, these_words words number wants _ r.ok.1, r.ok.2);
    built = r.built;
    in_range = these_words words number wants _ r.in_range;
    failures = r.failures;
    errors = tt;
  }
  replied_as_wanted (Err error) old new words number wants r = record {
    ok = tt;
    built = tt;
    in_range = tt;
    failures = r.failures;
    errors = these_error words number wants old new error r.errors;
  }

-- the same of a reply with another name
pub replied_named : {S : Type 0} (taken : S → List ℕ) (failed : S → Failures)
    (before after : Tree) (Wants : List (List ℕ) → ℕ → Type 0)
    (Offers : List (List ℕ) → ℕ → List CompletionCandidate → Type 0)
    (result : Result (Unit {0}) Error) (old new : S) (words : List (List ℕ)) (number : ℕ)
    (reply known : List CompletionCandidate → List ℕ) → reply ≡ known → Wants words number
    → Replies taken failed result old new before after (WantsThese words number) Offers reply
    → Replies taken failed result old new before after Wants Offers known
replied_named taken failed before after Wants Offers result old new words number reply known same
    wants r =
    replied_as_wanted taken failed before after Wants Offers known result old new words number wants
    (subst (λ k. Replies taken failed result old new before after (WantsThese words number) Offers k)
    same r)
