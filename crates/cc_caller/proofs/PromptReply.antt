-- The ends of a call that finds candidates for a word and writes their reply.
use Rattle.std.proofs.Common.{◌≡◌, ◌∙◌, ap, refl, subst, sym, ℕ, Bool, true, List, length, Result, Ok, Err, IfErr, IsErrAnd}
use Rattle.clap_complete.specs.cc_env.Replies.{IsWanted, Replies}
use Rattle.clap_complete.specs.cc_command.Built.{built_tree}
use Rattle.clap_complete.specs.cc_engine.Completion.{Refuses, is_in_range}
use Rattle.clap_complete.specs.cc_candidates.declared.candidate.CompletionCandidate.{CompletionCandidate}
use Rattle.clap_complete.specs.cc_base.declared.error.Error.{Error}
use Rattle.clap_complete.specs.cc_base.declared.error.Error.TheVariants.{Memory, NoCompletion, Write}
use Rattle.clap_complete.specs.cc_base.declared.failures.Failures.{Failures}
use Rattle.clap_complete.specs.cc_command.Tree.{Tree}
use Rattle.clap_complete.specs.cc_base.Writes.{IsWrite, Writes}

module _ {S : Type 0} (taken : S → List ℕ) (failed : S → Failures) (before after : Tree)
    (Wants : List (List ℕ) → ℕ → Type 0) (Offers : List (List ℕ) → ℕ → List CompletionCandidate → Type 0)
    (reply : List CompletionCandidate → List ℕ) where
  -- the word is there or not, by the words to complete
  range_wanted : (words : List (List ℕ)) (count index : ℕ) (within : Bool) → Wants words index → length words ≡ count
      → is_in_range after.node count index ≡ within → IsWanted Wants (λ ws i. is_in_range after.node (length ws) i ≡ within)
  range_wanted words count index within wants e h =
      record { words = words; index = index; wants = wants; holds = ap (λ n. is_in_range after.node n index) e ∙ h }

  -- no candidates are found: nothing is written
  refused_with : (sink : S) (words : List (List ℕ)) (count index : ℕ) (error : Error) → Wants words index → length words ≡ count
      → Refuses before after count index error → Replies taken failed (Err error) sink sink before after Wants Offers reply
  refused_with sink words count index Memory wants e h =
      record { ok = tt; built = tt; in_range = tt; failures = refl; errors = (refl, h) }
  refused_with sink words count index NoCompletion wants e h =
      record { ok = tt; built = tt; in_range = tt; failures = refl; errors = (refl, h.0, range_wanted words count index _ wants e h.1) }
  refused_with sink words count index _ wants e h = absurd h

  pub refused : (result : Result (Unit {0}) Error) (sink : S) (words : List (List ℕ)) (count index : ℕ) (error : Error)
      → IsErrAnd result (λ shown. shown ≡ error) → Wants words index → length words ≡ count → Refuses before after count index error
      → Replies taken failed result sink sink before after Wants Offers reply
  refused (Ok done) sink words count index error is wants e h = absurd is
  refused (Err shown) sink words count index error is wants e h =
      subst (λ e. Replies taken failed (Err e) sink sink before after Wants Offers reply) (sym is)
      (refused_with sink words count index error wants e h)

  -- candidates are found, and their reply is written, or a put fails
  written : (result : Result (Unit {0}) Error) (old new : S) (words : List (List ℕ)) (count index : ℕ) (found : List CompletionCandidate)
      → Wants words index → length words ≡ count → after ≡ built_tree before → is_in_range after.node count index ≡ true → Offers words index found
      → Writes taken failed result old new (reply found) → IfErr result IsWrite
      → Replies taken failed result old new before after Wants Offers reply
  written (Ok done) old new words count index found wants e built range offers w _ = record {
    ok = (reply found, record { words = words; index = index; wants = wants; holds = (found, offers, refl) }, w.ok);
    built = built;
    in_range = range_wanted words count index true wants e range;
    failures = w.failures;
    errors = tt;
  }
  written (Err (Write kind)) old new words count index found wants e built range offers w _ = record {
    ok = tt;
    built = tt;
    in_range = tt;
    failures = w.failures;
    errors = (
      built,
      range_wanted words count index true wants e range,
      reply found,
      record { words = words; index = index; wants = wants; holds = (found, offers, refl) },
      w.begun,
    );
  }
  written (Err _) old new words count index found wants e built range offers w h = absurd h

  pub replied : (result : Result (Unit {0}) Error) (old new : S) (words : List (List ℕ)) (count index : ℕ) (found shown : List CompletionCandidate)
      → Wants words index → length words ≡ count → after ≡ built_tree before → is_in_range after.node count index ≡ true → Offers words index found
      → shown ≡ found → Writes taken failed result old new (reply shown) → IfErr result IsWrite
      → Replies taken failed result old new before after Wants Offers reply
  replied result old new words count index found shown wants e built range offers same w h =
      written result old new words count index found wants e built range offers
      (subst (λ l. Writes taken failed result old new (reply l)) same w) h
