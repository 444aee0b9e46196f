-- The longs that begin with a text.
use Rattle.std.proofs.Common.{◌≡◌, ℕ, List, [], ◌∷◌, ◌++◌, Bool, true, filter, map, refl, ap, sym, ◌∙◌}
use Rattle.std.specs.Prelude.{codes}
use Rattle.std.specs.List.{flat_map}
use Rattle.std.proofs.lemmas.List.Elements.{filter-append}
use Rattle.cc_arg.specs.declared.parts.ArgParts.{ArgParts as Arg}
use Rattle.cc_candidates.specs.Beginning.{begins}
use Rattle.cc_arg.specs.ShownNames.{shown_longs}
use Rattle.cc_engine.specs.Options.{long_candidate, long_candidates, hidden_candidates, longs, longs_beginning, hidden_beginning}

-- a filter of joined lists
filter-flat_map : {X Y : Type 0} (p : Y → Bool) (f : X → List Y) (xs : List X) → filter p (flat_map f xs) ≡ flat_map (λ x. filter p (f x)) xs
filter-flat_map p f [] = refl
filter-flat_map p f (x ∷ xs) = filter-append p (f x) (flat_map f xs) ∙ ap (λ r. filter p (f x) ++ r) (filter-flat_map p f xs)

-- both parts, argument by argument
pub longs_in_parts : (long : List ℕ) (arguments : List Arg) →
    flat_map (longs_beginning long) arguments ++ flat_map (hidden_beginning long) arguments ≡ filter (begins (codes "--" ++ long)) (longs arguments)
unfolding longs
longs_in_parts long arguments = sym (
    filter-append (begins (codes "--" ++ long)) (flat_map long_candidates arguments) (flat_map hidden_candidates arguments)
    ∙ ap (λ r. r ++ filter (begins (codes "--" ++ long)) (flat_map hidden_candidates arguments)) (filter-flat_map (begins (codes "--" ++ long)) long_candidates arguments)
    ∙ ap (λ r. flat_map (longs_beginning long) arguments ++ r) (filter-flat_map (begins (codes "--" ++ long)) hidden_candidates arguments))

names_begin : (argument : Arg) (hidden : Bool) (names : List (List ℕ)) →
    filter (begins (codes "--")) (map (long_candidate argument hidden) names) ≡ map (long_candidate argument hidden) names
names_begin argument hidden [] = refl
names_begin argument hidden (name ∷ names) = ap (λ r. long_candidate argument hidden name ∷ r) (names_begin argument hidden names)

each : {X Y : Type 0} (p : Y → Bool) (f : X → List Y) → ((x : X) → filter p (f x) ≡ f x) → (xs : List X) → filter p (flat_map f xs) ≡ flat_map f xs
each p f same [] = refl
each p f same (x ∷ xs) =
    filter-append p (f x) (flat_map f xs) ∙ ap (λ r. r ++ filter p (flat_map f xs)) (same x) ∙ ap (λ r. f x ++ r) (each p f same xs)

-- every long begins with two hyphens
pub longs_begin : (arguments : List Arg) → filter (begins (codes "--")) (longs arguments) ≡ longs arguments
unfolding longs
longs_begin arguments =
    filter-append (begins (codes "--")) (flat_map long_candidates arguments) (flat_map hidden_candidates arguments)
    ∙ ap (λ r. r ++ filter (begins (codes "--")) (flat_map hidden_candidates arguments))
    (each (begins (codes "--")) long_candidates (λ a. names_begin a a.hide (shown_longs a)) arguments)
    ∙ ap (λ r. flat_map long_candidates arguments ++ r)
    (each (begins (codes "--")) hidden_candidates (λ a. names_begin a true a.aliases) arguments)
