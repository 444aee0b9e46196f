-- The candidates that result from the returned list, by the properties of the argument.
use Rattle.std.proofs.Common.{◌≡◌, ◌∙◌, ap, sym, refl, subst, ℕ, List, [], map, Bool, true, false, Option, Some, None}
use Rattle.std.specs.Prelude.{filter}
use Rattle.cc_base.specs.Sorting.{in_order}
use Rattle.cc_arg.specs.declared.parts.ArgParts.{ArgParts as Arg}
use Rattle.cc_arg.specs.declared.possible_value.PossibleValue.{PossibleValue}
use Rattle.cc_arg.specs.declared.value_hint.ValueHint.{ValueHint}
use Rattle.cc_arg.specs.Arguments.{possible_values}
use Rattle.cc_arg.specs.Printed.{printed}
use Rattle.cc_candidates.specs.Beginning.{begins}
use Rattle.cc_candidates.specs.declared.candidate.CompletionCandidate.{CompletionCandidate}
use Rattle.cc_base.specs.declared.numbers.ArgValueCandidates.{ArgValueCandidates}
use Rattle.cc_base.specs.declared.numbers.ArgValueCompleter.{ArgValueCompleter}
use Rattle.cc_engine.specs.Parts.{front, part}
use Rattle.cc_engine.specs.Values.{Allows, Gathers, MayReturn, ArgumentValues, as_value, gather, gathered_by, is_path, question, question_by, question_of_hint, sorted, value_candidate, values}

sorted_none : sorted [] ≡ []
unfolding sorted in_order
sorted_none = refl

module _ (sources : MayReturn) (arg : Arg) (number : ℕ) (text : List ℕ) where
  by_parts : (completer : Option ArgValueCompleter) (list : Option ArgValueCandidates) (values : Option (List PossibleValue)) → arg.completer ≡ completer → arg.candidates ≡ list → possible_values arg ≡ values
      → (returned : List CompletionCandidate) → Allows sources (question_by completer list values arg.value_hint number text) returned → Gathers sources arg number text (gathered_by completer list values text returned)
  unfolding question gather
  by_parts completer list values is_completer is_list is_values returned allowed = (
    returned,
    subst (λ (x : Option ArgValueCompleter × Option ArgValueCandidates × Option (List PossibleValue)). Allows sources (question_by x.0 x.1 x.2 arg.value_hint number text) returned) (λ k. (sym is_completer k, sym is_list k, sym is_values k)) allowed,
    λ k. gathered_by (sym is_completer k) (sym is_list k) (sym is_values k) text returned,
  )

  pub of_completer : (which : ArgValueCompleter) (returned : List CompletionCandidate) → arg.completer ≡ Some which → sources.completes which.number number text returned → Gathers sources arg number text returned
  of_completer which returned is allowed = by_parts (Some which) arg.candidates (possible_values arg) is refl refl returned allowed

  pub of_list : (which : ArgValueCandidates) (returned kept : List CompletionCandidate) → arg.completer ≡ None → arg.candidates ≡ Some which → sources.lists which.number returned → kept ≡ filter (begins text) returned → Gathers sources arg number text kept
  of_list which returned kept none is allowed keeps = subst (Gathers sources arg number text) (sym keeps) (by_parts None (Some which) (possible_values arg) none is refl returned allowed)

  pub of_values : (values : List PossibleValue) (kept : List CompletionCandidate) → arg.completer ≡ None → arg.candidates ≡ None → possible_values arg ≡ Some values → kept ≡ filter (begins text) (map value_candidate values) → Gathers sources arg number text kept
  of_values values kept none none_too is keeps = subst (Gathers sources arg number text) (sym keeps) (by_parts None None (Some values) none none_too is [] refl)

  pub of_paths : (returned found : List CompletionCandidate) (hint : ValueHint) (path : Bool) → arg.completer ≡ None → arg.candidates ≡ None → possible_values arg ≡ None → hint ≡ arg.value_hint → path ≡ is_path hint → path ≡ true → sources.finds hint text returned → found ≡ sorted returned → Gathers sources arg number text found
  of_paths returned found hint path none none_too no_values own is so allowed sorts =
      subst (Gathers sources arg number text) (sym sorts)
      (by_parts None None None none none_too no_values returned
      (subst (λ h. Allows sources (question_of_hint (is_path h) h text) returned) own
      (subst (λ b. Allows sources (question_of_hint b hint text) returned) (sym so ∙ is) allowed)))

  pub of_nothing : (found : List CompletionCandidate) (hint : ValueHint) (path : Bool) → arg.completer ≡ None → arg.candidates ≡ None → possible_values arg ≡ None → hint ≡ arg.value_hint → path ≡ is_path hint → path ≡ false → found ≡ [] → Gathers sources arg number text found
  of_nothing found hint path none none_too no_values own is not_so empty =
      subst (Gathers sources arg number text) (sorted_none ∙ sym empty)
      (by_parts None None None none none_too no_values []
      (subst (λ h. Allows sources (question_of_hint (is_path h) h text) []) own
      (subst (λ b. Allows sources (question_of_hint b hint text) []) (sym not_so ∙ is) refl)))

pub argument_values : (sources : MayReturn) (arg : Arg) (number : ℕ) (word before text : List ℕ) (found result : List CompletionCandidate)
    → before ≡ front arg.value_delimiter word → text ≡ part arg.value_delimiter word → Gathers sources arg number text found → result ≡ map (as_value before (printed arg)) found → ArgumentValues sources arg word number result
unfolding values
argument_values sources arg number word before text found result is_before is_text gathers made = (
  gathers.0,
  subst (λ t. Allows sources (question arg number t) gathers.0) is_text gathers.1,
  made ∙ (λ k. map (as_value (is_before k) (printed arg)) (gathers.2 k)) ∙ ap (λ t. map (as_value (front arg.value_delimiter word) (printed arg)) (gather arg t gathers.0)) is_text,
)
