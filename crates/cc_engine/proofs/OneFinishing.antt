-- The values of an open option and the other lists, finished once.
use Rattle.std.proofs.Common.{◌≡◌, ◌∙◌, ap, refl, subst, sym, ℕ, List, [], ◌++◌}
use Rattle.std.proofs.lemmas.List.{append-nil}
use Rattle.std.specs.Prelude.{Bool, true, false, Option, Some, None, nat_le, if◌then◌else◌}
use Rattle.cc_arg.specs.declared.parts.ArgParts.{ArgParts as Arg}
use Rattle.cc_candidates.specs.declared.candidate.CompletionCandidate.{CompletionCandidate}
use Rattle.cc_command.specs.Tree.{Tree}
use Rattle.cc_engine.specs.Finished.{finish}
use Rattle.cc_engine.proofs.FinishingLaws.{finish_after}
use Rattle.cc_engine.specs.declared.walking.state.Pending.{Pending}
use Rattle.cc_engine.specs.declared.walking.state.Pending.TheVariants.{OptionOpen}
use Rattle.cc_engine.specs.declared.walking.state.State.{State}
use Rattle.cc_engine.specs.Lookup.{positional_at}
use Rattle.cc_engine.specs.Completion.{FinishesOnce, Returned, besides, candidates_for, finished_last, offered, opened_values, positional_values}
use Rattle.cc_engine.specs.OpenLists.{all_open, least, none_open, open_lists_by}
use Rattle.cc_engine.specs.Values.{values}

-- without a number a positional has no values
no_values : (positional : Option Arg) (word : List ℕ) (returned : List CompletionCandidate) → positional_values positional None word returned ≡ []
no_values None word returned = refl
no_values (Some argument) word returned = refl

-- if no list is open, nothing is offered
pub nothing_offered : (tree : Tree) (position : ℕ) (word : List ℕ) (returned : Returned) → offered tree position none_open word returned ≡ []
nothing_offered tree position word returned =
    append-nil (positional_values (positional_at tree.node.arguments position) None word returned.positional)
    ∙ no_values (positional_at tree.node.arguments position) word returned.positional

-- A relation of each list to itself, and of the values of an open option with what is finished after them to both as they are, is one of
-- the list whose finishing is offered to all that is gathered.
module _ (R : List CompletionCandidate → List CompletionCandidate → Type 0) (same : (xs : List CompletionCandidate) → R xs xs)
    (tree : Tree) (position : ℕ) (escaped : Bool) (word : List ℕ) (returned : Returned) where
  -- with an option that has enough values or too few
  abbrev beside : Bool → List CompletionCandidate
  beside enough = offered tree position (if enough then all_open escaped else none_open) word returned

  beside_option : (opened : List CompletionCandidate) (enough : Bool) → R (opened ++ finish (beside enough)) (opened ++ beside enough)
      → R (if enough then opened ++ finish (beside enough) else opened) (opened ++ beside enough)
  beside_option opened true finished = finished
  beside_option opened false finished =
      subst (R opened) (sym (append-nil opened) ∙ ap (λ rest. opened ++ rest) (sym (nothing_offered tree position word returned))) (same opened)

  abbrev others : Pending → List CompletionCandidate
  others pending = offered tree position (open_lists_by tree.node.arguments position escaped pending) word returned

  pub to_gathered : (pending : Pending)
      → R (opened_values pending word returned.opened ++ finish (others pending)) (opened_values pending word returned.opened ++ others pending)
      → R (finished_last pending word returned.opened (others pending)) (opened_values pending word returned.opened ++ others pending)
  to_gathered (OptionOpen option count) finished = beside_option (values option word returned.opened) (nat_le (least option) count) finished
  to_gathered pending finished = same (others pending)

pub finishes_once : (tree : Tree) (state : State) (word : List ℕ) (returned : Returned) (found : List CompletionCandidate)
    → found ≡ candidates_for tree state word returned → FinishesOnce tree state word returned found
finishes_once tree state word returned found is apart =
    is ∙ to_gathered (λ xs ys. finish xs ≡ finish ys) (λ xs. refl) tree state.position state.escaped word returned state.pending
    (finish_after (opened_values state.pending word returned.opened) (besides tree state word returned) apart)
