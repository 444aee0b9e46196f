-- Filters of lists in pieces.
use Rattle.std.proofs.Common.{◌≡◌, ℕ, ◌+◌, ◌<◌, Bool, true, false, cond, List, [], ◌∷◌, ◌++◌, filter, length, drop, get_or, map, refl, ap, sym, ◌∙◌, append_assoc}
use Rattle.cc_base.proofs.Lists.{one_more}
use Rattle.cc_command.specs.declared.node.Node.{Node}
use Rattle.cc_command.specs.Tree.{Tree, forest_of}
use Rattle.cc_candidates.specs.declared.candidate.CompletionCandidate.{CompletionCandidate}
use Rattle.cc_engine.specs.Children.{child_candidates, children_candidates}
use Rattle.std.proofs.lemmas.List.Elements.{filter-append}

pub filter_first : {X : Type 0} (p : X → Bool) (x : X) (xs : List X) → filter p (x ∷ xs) ≡ filter p (x ∷ []) ++ filter p xs
filter_first p x xs = by (p x)
  where
    by : (b : Bool) → cond b (x ∷ filter p xs) (filter p xs) ≡ cond b (x ∷ []) [] ++ filter p xs
    by true = refl
    by false = refl

-- three pieces are added one after another
pub added : {X : Type 0} (p : X → Bool) (found one two three : List X) (x : X) (xs ys : List X) →
    one ≡ found ++ filter p (x ∷ []) → two ≡ one ++ filter p xs → three ≡ two ++ filter p ys →
    three ≡ found ++ filter p ((x ∷ xs) ++ ys)
added p found one two three x xs ys a b c =
    c ∙ ap (λ r. r ++ filter p ys) (b ∙ ap (λ r. r ++ filter p xs) a ∙ append_assoc found (filter p (x ∷ [])) (filter p xs)
    ∙ ap (λ r. found ++ r) (sym (filter_first p x xs)))
    ∙ append_assoc found (filter p (x ∷ xs)) (filter p ys) ∙ ap (λ r. found ++ r) (sym (filter-append p (x ∷ xs) ys))

-- the next of the mapped items is added
pub mapped_added : {X : Type 0} (p : CompletionCandidate → Bool) (f : X → CompletionCandidate) (found after whole : List CompletionCandidate) (xs : List X) (i : ℕ) (d x : X) →
    i < length xs → x ≡ get_or xs i d →
    found ++ filter p (map f (drop i xs)) ≡ whole →
    after ≡ found ++ filter p (f x ∷ []) →
    after ++ filter p (map f (drop (i + 1) xs)) ≡ whole
mapped_added p f found after whole xs i d x within is h push =
    let split = one_more xs i d x within is in
    let rest = map f (drop (i + 1) xs) in
    ap (λ r. r ++ filter p rest) push ∙ append_assoc found (filter p (f x ∷ [])) (filter p rest)
    ∙ ap (λ r. found ++ r) (sym (filter_first p (f x) rest) ∙ ap (λ s. filter p (map f s)) (sym split))
    ∙ h

-- one more child
pub child_added : (p : CompletionCandidate → Bool) (node : Node) (found after whole : List CompletionCandidate) (siblings : List Tree) (i : ℕ) (child : Tree) →
    i < length siblings → child ≡ get_or siblings i child →
    found ++ filter p (children_candidates node (forest_of (drop i siblings))) ≡ whole →
    after ≡ found ++ filter p (child_candidates node child.node) →
    after ++ filter p (children_candidates node (forest_of (drop (i + 1) siblings))) ≡ whole
child_added p node found after whole siblings i child within is h push =
    let split = one_more siblings i child child within is in
    let rest = children_candidates node (forest_of (drop (i + 1) siblings)) in
    ap (λ r. r ++ filter p rest) push ∙ append_assoc found (filter p (child_candidates node child.node)) (filter p rest)
    ∙ ap (λ r. found ++ r) (sym (filter-append p (child_candidates node child.node) rest)
    ∙ ap (λ (s : List Tree). filter p (children_candidates node (forest_of s))) (sym split))
    ∙ h
