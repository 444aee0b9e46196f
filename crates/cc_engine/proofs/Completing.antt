-- The candidates that are offered at the node to which the words lead.
use Rattle.std.proofs.Common.{◌≡◌, subst, ℕ, List, []}
use Rattle.std.specs.Prelude.{IsUtf8, get_or}
use Rattle.cc_candidates.specs.declared.candidate.CompletionCandidate.{CompletionCandidate}
use Rattle.cc_command.specs.Tree.{Tree}
use Rattle.cc_engine.specs.Values.{MayReturn}
use Rattle.cc_engine.specs.declared.walking.state.State.{State}
use Rattle.cc_engine.specs.Destination.{WordsLeadTo, WordsLeadOnlyTo}
use Rattle.cc_engine.specs.Visible.{HasNoHiddenAlias, visible_end}
use Rattle.cc_engine.specs.Completion.{Completes, IsPlace, Offers, words_before}
use Rattle.cc_engine.proofs.Begins.{begins_or_is_completed}
use Rattle.cc_engine.proofs.Laws.{is_sorted, shows_visible}
use Rattle.cc_engine.proofs.OneFinishing.{finishes_once}

-- the place to which the words before the index lead
pub is_place : (root node : Tree) (state : State) (words before : List (List ℕ)) (index : ℕ) (word : List ℕ)
    → IsUtf8 (get_or words index [])
    → before ≡ words_before root.node words index → word ≡ get_or words index []
    → WordsLeadTo root before node state → WordsLeadOnlyTo root before node state
    → (HasNoHiddenAlias root before → node ≡ visible_end root before) → IsPlace root words index node state word
is_place root node state words before index word valid is_before is_word leads only visible =
    record {
      leads = rw is_before at leads;
      only = rw is_before at only;
      visible = rw is_before at visible;
      is_word = is_word;
      is_text = valid;
    }

-- what is offered for a word at its place, with what is so of it
pub completes : (sources : MayReturn) (root tree : Tree) (state : State) (words : List (List ℕ)) (index : ℕ) (word : List ℕ)
    (found : List CompletionCandidate) → IsPlace root words index tree state word → Offers sources tree state word found
    → Completes sources root words index found
completes sources root tree state words index word found place offered =
    let offers = subst (λ w. Offers sources tree state w found) place.is_word offered in
    record {
      tree = tree;
      state = state;
      leads = place.leads;
      only = place.only;
      visible = place.visible;
      offers = offers;
      grouped = is_sorted tree state (get_or words index []) offers.0 found offers.2;
      once = finishes_once tree state (get_or words index []) offers.0 found offers.2;
      shows_visible = shows_visible tree state (get_or words index []) offers.0 found offers.2;
      begins_or_completed = begins_or_is_completed sources tree state (get_or words index []) offers.0 found place.is_text offers.1 offers.2;
    }

-- the same of words that are equal
pub completes_words : (sources : MayReturn) (root : Tree) (words others : List (List ℕ)) (index : ℕ) (found : List CompletionCandidate)
    → others ≡ words → Completes sources root others index found → Completes sources root words index found
completes_words sources root words others index found is completed = subst (λ ws. Completes sources root ws index found) is completed
