-- Replies that are written into memory.
use Rattle.std.proofs.Common.{◌≡◌, ◌++◌, sym, ap, ◌∙◌, subst, ℕ, List, [], Result, Ok, Err}
use Rattle.cc_env.specs.Builtins.{CompleterSpec}
use Rattle.cc_env.specs.Replies.{IsReply, Replies}
use Rattle.cc_base.specs.declared.error.Error.{Error}
use Rattle.cc_base.specs.declared.error.Error.TheVariants.{Write}
use Rattle.cc_base.specs.declared.failures.Failures.{Failures}
use Rattle.cc_candidates.specs.declared.candidate.CompletionCandidate.{CompletionCandidate}
use Rattle.cc_command.specs.Built.{built_tree}
use Rattle.cc_command.specs.Tree.{Tree}
use Rattle.cc_replies.specs.declared.environment.EnvValues.{EnvValues}
use Rattle.cc_env.specs.Steps.{RepliesAs, in_memory}

abbrev Words : Type 0
Words = List (List ℕ)

abbrev Done : Type 0
Done = Result (Unit {0}) Error

written_whole : (written : Done) (done : Unit {0}) → Ok done ≡ in_memory written → written ≡ Ok done
written_whole (Ok _) done is = sym is
written_whole (Err (Write kind)) done is = cc
written_whole (Err _) done is = cc

module _ (shell : CompleterSpec) (env : EnvValues) (words : Words) (Offers : Words → ℕ → List CompletionCandidate → Type 0)
    (before after : Tree) where
  -- the reply that the memory holds
  pub reply_held : {S : Type 0} (taken : S → List ℕ) (failed : S → Failures) (old new : S) (written : Done) (done : Unit {0})
      → taken old ≡ [] → Replies taken failed written old new before after (shell.Wants env words) Offers (shell.reply env)
      → ((candidates : List CompletionCandidate) → shell.ReplyReads env candidates) → Ok done ≡ in_memory written
      → RepliesAs shell env words Offers after (Ok (taken new))
  reply_held taken failed old new written done empty replies reads is =
      let whole = subst (λ w. Replies taken failed w old new before after (shell.Wants env words) Offers (shell.reply env)) (written_whole written done is) replies in (
        whole.in_range,
        subst (λ text. IsReply (shell.Wants env words) Offers (shell.reply env) text)
            (sym (whole.ok.2 ∙ ap (λ o. o ++ whole.ok.0) empty)) whole.ok.1,
        reads,
      )

  -- and the tree is built
  pub reply_built : {S : Type 0} (taken : S → List ℕ) (failed : S → Failures) (old new : S) (written : Done) (done : Unit {0})
      → Replies taken failed written old new before after (shell.Wants env words) Offers (shell.reply env) → Ok done ≡ in_memory written
      → after ≡ built_tree before
  reply_built taken failed old new written done replies is =
      (subst (λ w. Replies taken failed w old new before after (shell.Wants env words) Offers (shell.reply env)) (written_whole written done is) replies).built
