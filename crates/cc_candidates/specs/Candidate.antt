-- New candidates and the order of candidates.
use Rattle.std.specs.Prelude.{ℕ, List, Bool, false, Option, None}
use Rattle.std.specs.declared.cmp.Ordering.{Ordering}
use Rattle.std.specs.Cmp.{IsTotalOrder, on_total, then_total, nat_cmp_total, bool_cmp_total}
use Rattle.std.specs.Cmp.Lexicographic.{slice_cmp, nat_list_cmp_total, options_total}
use Rattle.std.specs.Option.{option_cmp}
use Rattle.std.specs.Ordering.{nat_cmp, bool_cmp, ordering_then, is_lt}
use Rattle.cc_candidates.specs.declared.candidate.CompletionCandidate.{CompletionCandidate}

-- a visible candidate that holds only its value
abbrev pub new_candidate : List ℕ → CompletionCandidate
new_candidate value = record {
  value = value;
  help = None;
  id = None;
  tag = None;
  display_order = None;
  hidden = false;
}

-- texts by their bytes; a missing text comes first
abbrev pub texts_cmp : Option (List ℕ) → Option (List ℕ) → Ordering
texts_cmp = option_cmp (slice_cmp nat_cmp)

-- candidates by help text, then by id, tag, display order and hidden mark
abbrev pub besides_cmp : CompletionCandidate → CompletionCandidate → Ordering
besides_cmp one other =
    ordering_then (ordering_then (ordering_then (ordering_then
    (texts_cmp one.help other.help)
    (texts_cmp one.id other.id))
    (texts_cmp one.tag other.tag))
    (option_cmp nat_cmp one.display_order other.display_order))
    (bool_cmp one.hidden other.hidden)

-- candidates by value, then by help text, id, tag, display order and hidden mark
abbrev pub candidate_cmp : CompletionCandidate → CompletionCandidate → Ordering
candidate_cmp one other =
    ordering_then (ordering_then (ordering_then (ordering_then (ordering_then
    (slice_cmp nat_cmp one.value other.value)
    (texts_cmp one.help other.help))
    (texts_cmp one.id other.id))
    (texts_cmp one.tag other.tag))
    (option_cmp nat_cmp one.display_order other.display_order))
    (bool_cmp one.hidden other.hidden)

pub candidate_cmp_total : IsTotalOrder candidate_cmp
candidate_cmp_total =
    then_total (then_total (then_total (then_total (then_total
    (on_total (λ c. c.value) nat_list_cmp_total)
    (on_total (λ c. c.help) (options_total nat_list_cmp_total)))
    (on_total (λ c. c.id) (options_total nat_list_cmp_total)))
    (on_total (λ c. c.tag) (options_total nat_list_cmp_total)))
    (on_total (λ c. c.display_order) (options_total nat_cmp_total)))
    (on_total (λ c. c.hidden) bool_cmp_total)

-- one candidate belongs before another
abbrev pub comes_before : CompletionCandidate → CompletionCandidate → Bool
comes_before one other = is_lt (candidate_cmp one other)
