-- `Writes` for an equal text and for one text written after another, and the beginnings of texts
-- that are written in parts.
use Rattle.std.proofs.Common.{◌≡◌, ◌≤◌, ℕ, List, [], ◌∷◌, ◌++◌, Result, Ok, ap, ◌∙◌, append_assoc, subst, refl, length, arith}
use Rattle.std.specs.Prelude.{Bool, true, false, ◌||◌, ◌&&◌, ◌==◌}
use Rattle.std.proofs.lemmas.Result.{on_ok_weaker, on_err_weaker}
use Rattle.std.proofs.lemmas.Bool.{and_parts, and_from, eq-eqb, false≢true}
use Rattle.std.proofs.lemmas.Grind.{common_steps}
use Rattle.std.proofs.lemmas.List.{append-nil}
use Rattle.cc_base.specs.declared.error.Error.{Error}
use Rattle.cc_base.specs.Partly.{begins, partly, begins_split, partly_split, partly_self}
use Rattle.cc_base.specs.Sink.{Failures}
use Rattle.cc_base.specs.Writes.{Writes, CountsWrite}

-- A loop that writes goes on: the bytes taken since it began and the rest are the whole, and no put
-- failed.
abbrev pub GoesOn : {S : Type 0} → (S → List ℕ) → (S → Failures) → S → S → List ℕ → List ℕ → Type 0
GoesOn taken failed begun sink all rest = record {
  whole : taken sink ++ rest ≡ taken begun ++ all;
  least : length (taken begun) ≤ length (taken sink);
  failures : failed sink ≡ failed begun;
}

-- a call that writes a text also writes an equal text
pub writes_same : {S : Type 0} {taken : S → List ℕ} {failed : S → Failures}
    {result : Result (Unit {0}) Error} {old new : S} (text other : List ℕ) → text ≡ other →
    Writes taken failed result old new text → Writes taken failed result old new other
writes_same {S} {taken} {failed} {result} {old} {new} text other e w =
    let P : List ℕ → Type 0 = λ t. Writes taken failed result old new t in subst P e w

-- whether the first text is no longer than the second, with which the third begins
unfoldable pub within : List ℕ → List ℕ → List ℕ → Bool
within [] new whole = begins new whole
within (x ∷ low) [] whole = false
within (x ∷ low) (y ∷ new) [] = false
within (x ∷ low) (y ∷ new) (z ∷ whole) = (y == z) && within low new whole

pub partly_within : (new old text : List ℕ) → partly new old text ≡ within old new (old ++ text)
unfolding partly within
partly_within new [] text = refl
partly_within [] (x ∷ old) text = refl
partly_within (x ∷ new) (y ∷ old) text = ap (λ t. (x == y) && t) (partly_within new old text)

-- a part of a text is a beginning of the whole
begins_whole : (new old a b : List ℕ) → partly new old a ≡ true → begins new ((old ++ a) ++ b) ≡ true
unfolding partly begins
begins_whole new [] a b p = begins_split new a b ∙ ap (λ t. t || partly new a b) p
begins_whole [] (y ∷ old) a b p = refl
begins_whole (x ∷ new) (y ∷ old) a b p =
    let k = and_parts (x == y) (partly new old a) p in
    and_from (x == y) (begins new ((old ++ a) ++ b)) k.0 (begins_whole new old a b k.1)

-- a part of what is written next is a part of the whole
pub within_loop : (low new old a b : List ℕ) → length low ≤ length old → partly new old a ≡ true →
    within low new ((old ++ a) ++ b) ≡ true
unfolding partly within
within_loop [] new old a b l p = begins_whole new old a b p
within_loop (z ∷ low) new [] a b l p = absurd (omega arith)
within_loop (z ∷ low) [] (y ∷ old) a b l p = absurd (false≢true p)
within_loop (z ∷ low) (x ∷ new) (y ∷ old) a b l p =
    let k = and_parts (x == y) (partly new old a) p in
    and_from (x == y) (within low new ((old ++ a) ++ b)) k.0 (within_loop low new old a b (omega arith) k.1)

pub within_step : (low new old a b : List ℕ) → length low ≤ length old → partly new old a ≡ true →
    within low new (old ++ (a ++ b)) ≡ true
within_step low new old a b l p =
    subst (λ t. within low new t ≡ true) (append_assoc old a b) (within_loop low new old a b l p)

pub within_byte : (low new old : List ℕ) (x : ℕ) (b : List ℕ) → length low ≤ length old →
    partly new old (x ∷ []) ≡ true → within low new (old ++ (x ∷ b)) ≡ true
within_byte low new old x b l p = within_step low new old (x ∷ []) b l p

pub within_last : (low new old a : List ℕ) → length low ≤ length old → partly new old a ≡ true →
    within low new (old ++ a) ≡ true
within_last low new old a l p =
    subst (λ t. within low new t ≡ true) (append-nil (old ++ a)) (within_loop low new old a [] l p)

-- what is taken so far is a part of the whole
pub within_self : (low new b : List ℕ) → length low ≤ length new → within low new (new ++ b) ≡ true
unfolding within begins
within_self [] [] b l = refl
within_self [] (x ∷ new) b l = and_from (x == x) (begins new (new ++ b)) (eq-eqb x x refl) (within_self [] new b (omega arith))
within_self (z ∷ low) [] b l = absurd (omega arith)
within_self (z ∷ low) (x ∷ new) b l = and_from (x == x) (within low new (new ++ b)) (eq-eqb x x refl) (within_self low new b (omega arith))

pub partly_first : (new old : List ℕ) (x : ℕ) (b : List ℕ) →
    partly new old (x ∷ b) ≡ (partly new old (x ∷ []) || partly new (old ++ x ∷ []) b)
partly_first new old x b = partly_split new old (x ∷ []) b

-- texts that are written in a loop, and after it
pub ruleset in_loops = (common_steps, partly_split, partly_self, partly_within, within_loop, within_self)

pub ruleset in_steps = (common_steps, partly_self, partly_within, within_step, within_self)

pub ruleset to_the_end = (in_loops, within_last)

-- texts that begin with a byte
pub ruleset after_bytes = (common_steps, partly_split, partly_self, partly_first)

pub part_later : (old mid new a b : List ℕ) → mid ≡ old ++ a → partly new mid b ≡ true →
    partly new old (a ++ b) ≡ true
part_later old mid new a b e p = grind (arith, in_loops)

-- one text is written after another
pub writes_then : {S : Type 0} {taken : S → List ℕ} {failed : S → Failures} {u : Unit {0}}
    {result : Result (Unit {0}) Error} {old mid new : S} (a b : List ℕ) →
    Writes taken failed (Ok u) old mid a → Writes taken failed result mid new b →
    Writes taken failed result old new (a ++ b)
writes_then {S} {taken} {failed} {u} {result} {old} {mid} {new} a b first second = record {
  ok = on_ok_weaker result
      (λ e. e ∙ ap (λ t. t ++ b) first.ok ∙ append_assoc (taken old) a b) second.ok;
  begun = on_err_weaker result
      (λ p. part_later (taken old) (taken mid) (taken new) a b first.ok p) second.begun;
  failures =
      let P : Failures → Type 0 = λ n. CountsWrite result n (failed new) in
      subst P first.failures second.failures;
  kinds = second.kinds;
}
