-- The candidates at a node, from the lists that are gathered there.
use Rattle.std.proofs.Common.{◌≡◌, ◌∙◌, ap, refl, subst, sym, ℕ, List, [], ◌++◌}
use Rattle.std.specs.Prelude.{nat_le, if◌then◌else◌}
use Rattle.cc_arg.specs.declared.parts.ArgParts.{ArgParts as Arg}
use Rattle.cc_candidates.specs.declared.candidate.CompletionCandidate.{CompletionCandidate}
use Rattle.cc_command.specs.Tree.{Tree}
use Rattle.cc_engine.specs.Finished.{finish}
use Rattle.cc_engine.specs.Values.{Allows, ArgumentValues, MayReturn}
use Rattle.cc_engine.specs.declared.walking.state.Pending.{Pending}
use Rattle.cc_engine.specs.declared.walking.state.Pending.TheVariants.{OptionOpen}
use Rattle.cc_engine.specs.declared.walking.state.State.{State}
use Rattle.cc_engine.specs.declared.open_lists.OpenLists.{OpenLists}
use Rattle.cc_engine.specs.Completion.{AreOffered, Offers, finished_last, open_question}
use Rattle.cc_engine.specs.OpenLists.{least, open_lists_by}

-- from a list for the open option and the other lists
together : (sources : MayReturn) (tree : Tree) (state : State) (word : List ℕ) (opened besides found : List CompletionCandidate)
    → AreOffered sources tree state.position (open_lists_by tree.node.arguments state.position state.escaped state.pending) word besides
    → Allows sources (open_question state.pending word) opened
    → found ≡ finish (finished_last state.pending word opened besides)
    → Offers sources tree state word found
together sources tree state word opened besides found offered allowed is = (
  record { children = offered.children; positional = offered.positional; within = offered.within; opened = opened },
  record {
    children = offered.children_returned;
    positional = offered.positional_returned;
    within = offered.within_returned;
    opened = allowed;
  },
  is ∙ ap (λ besides. finish (finished_last state.pending word opened besides)) offered.is,
)

-- if no option is open
pub without_option : (sources : MayReturn) (tree : Tree) (state : State) (word : List ℕ) (lists : OpenLists) (besides found : List CompletionCandidate)
    → lists ≡ open_lists_by tree.node.arguments state.position state.escaped state.pending
    → AreOffered sources tree state.position lists word besides
    → ((option : Arg) (count : ℕ) → state.pending ≡ OptionOpen option count → ⊥)
    → found ≡ finish besides
    → Offers sources tree state word found
without_option sources tree state word lists besides found made offered closed is =
    together sources tree state word [] besides found (subst (λ o. AreOffered sources tree state.position o word besides) made offered) (nothing_open state.pending closed) (is ∙ ap finish (besides_alone state.pending closed))
  where
    nothing_open : (pending : Pending) → ((option : Arg) (count : ℕ) → pending ≡ OptionOpen option count → ⊥) → Allows sources (open_question pending word) []
    nothing_open (OptionOpen option count) h = absurd (h option count refl)
    nothing_open _ h = refl

    besides_alone : (pending : Pending) → ((option : Arg) (count : ℕ) → pending ≡ OptionOpen option count → ⊥) → besides ≡ finished_last pending word [] besides
    besides_alone (OptionOpen option count) h = absurd (h option count refl)
    besides_alone _ h = refl

-- if an option is open
pub with_option : (sources : MayReturn) (tree : Tree) (state : State) (word : List ℕ) (lists : OpenLists) (option wanted counted : Arg) (count : ℕ) (vals besides found : List CompletionCandidate)
    → lists ≡ open_lists_by tree.node.arguments state.position state.escaped state.pending
    → AreOffered sources tree state.position lists word besides
    → state.pending ≡ OptionOpen option count
    → wanted ≡ option → counted ≡ option
    → ArgumentValues sources wanted word count vals
    → found ≡ finish (if nat_le (least counted) count then vals ++ finish besides else vals)
    → Offers sources tree state word found
with_option sources tree state word lists option wanted counted count vals besides found made offered is_open is_wanted is_counted valued is =
    let of_option : ArgumentValues sources option word count vals = subst (λ a. ArgumentValues sources a word count vals) is_wanted valued in
    together sources tree state word of_option.0 besides found
    (subst (λ o. AreOffered sources tree state.position o word besides) made offered)
    (subst (λ pending. Allows sources (open_question pending word) of_option.0) (sym is_open) of_option.1)
    (is ∙ ap (λ a. finish (if nat_le (least a) count then vals ++ finish besides else vals)) is_counted
    ∙ ap (λ vs. finish (if nat_le (least option) count then vs ++ finish besides else vs)) of_option.2
    ∙ ap (λ pending. finish (finished_last pending word of_option.0 besides)) (sym is_open))
