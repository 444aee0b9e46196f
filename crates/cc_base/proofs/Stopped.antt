-- Writes that stop: after an error the sink holds a beginning of the whole text.
use Rattle.std.proofs.Common.{◌≡◌, ◌≤◌, ◌<◌, ◌+◌, ◌∙◌, ℕ, List, ◌∷◌, ◌++◌, ◌||◌, Bool, append_assoc, true, Result, Ok, Err, ap, arith, drop, get_or, length, subst, sym}
use Rattle.std.specs.Result.{IsErrAnd}
use Rattle.std.specs.declared.io.ErrorKind.{ErrorKind}
use Rattle.cc_base.specs.declared.error.Error.{Error}
use Rattle.cc_base.specs.declared.error.Error.TheVariants.{Write}
use Rattle.cc_base.specs.declared.failures.Failures.{Failures}
use Rattle.cc_base.specs.Joined.{has_texts, joined_after}
use Rattle.cc_base.specs.Partly.{partly}
use Rattle.cc_base.specs.Writes.{Writes, CountsWrite, as_write}
use Rattle.cc_base.proofs.JoinedTexts.{joined_append}
use Rattle.cc_base.proofs.Lists.{one_more}
use Rattle.cc_base.proofs.WrittenTexts.{GoesOn, in_loops, in_steps, writes_same, writes_then}

pub part_first : (old new a b : List ℕ) → partly new old a ≡ true → partly new old (a ++ b) ≡ true
part_first old new a b p = grind (arith, in_loops)

pub part_within : (old mid new all a b : List ℕ) → length old ≤ length mid →
    mid ++ (a ++ b) ≡ old ++ all → partly new mid a ≡ true → partly new old all ≡ true
part_within old mid new all a b least whole p = grind (arith, in_steps)

module _ {S : Type 0} {taken : S → List ℕ} {failed : S → Failures} {error : Error} where
  -- a call that fails within a text also fails within a longer one
  pub stops_before : {old new : S} (a b : List ℕ) →
      Writes taken failed (Err error) old new a → Writes taken failed (Err error) old new (a ++ b)
  stops_before {old} {new} a b w = record {
    ok = tt;
    begun = part_first (taken old) (taken new) a b w.begun;
    failures = w.failures;
    kinds = w.kinds;
  }

  -- a loop that writes fails within the next of its texts
  pub stops_within : {before mid new : S} (all a b : List ℕ) →
      GoesOn taken failed before mid all (a ++ b) → Writes taken failed (Err error) mid new a →
      Writes taken failed (Err error) before new all
  stops_within {before} {mid} {new} all a b goes w = record {
    ok = tt;
    begun = part_within (taken before) (taken mid) (taken new) all a b goes.least goes.whole w.begun;
    failures =
        let P : Failures → Type 0 = λ n. CountsWrite {T = Unit {0}} (Err error) n (failed new) in
        subst P goes.failures w.failures;
    kinds = w.kinds;
  }

  -- the same for a loop over items
  pub stops_at : {X : Type 0} {before mid new : S} (text : List X → List ℕ) (items : List X) (i : ℕ)
      (item : X) (one : List ℕ) → i < length items → item ≡ get_or items i item →
      text (item ∷ drop (i + 1) items) ≡ one ++ text (drop (i + 1) items) →
      GoesOn taken failed before mid (text items) (text (drop i items)) →
      Writes taken failed (Err error) mid new one →
      Writes taken failed (Err error) before new (text items)
  stops_at {X} {before} {mid} {new} text items i item one less at opens goes w =
      let P : List ℕ → Type 0 = λ left. GoesOn taken failed before mid (text items) left in
      stops_within (text items) one (text (drop (i + 1) items))
      (subst P (ap text (one_more items i item item less at) ∙ opens) goes) w

  -- the same for a loop over texts that it joins
  pub stops_joined : {before mid new : S} (between : List ℕ) (begun : Bool) (all : List ℕ)
      (left first rest : List (List ℕ)) → left ≡ first ++ rest →
      GoesOn taken failed before mid all (joined_after between begun left) →
      Writes taken failed (Err error) mid new (joined_after between begun first) →
      Writes taken failed (Err error) before new all
  stops_joined {before} {mid} {new} between begun all left first rest is goes w =
      let P : List ℕ → Type 0 = λ text. GoesOn taken failed before mid all text in
      stops_within all (joined_after between begun first)
      (joined_after between (begun || has_texts first) rest)
      (subst P (ap (joined_after between begun) is ∙ joined_append between begun first rest) goes) w

  -- `?` returns the error as it is
  pub as_stopped : {old new : S} {text : List ℕ} (result : Result (Unit {0}) Error) →
      IsErrAnd result (λ other. other ≡ error) →
      Writes taken failed (Err error) old new text → Writes taken failed result old new text
  as_stopped {old} {new} {text} (Ok done) is w = absurd is
  as_stopped {old} {new} {text} (Err e) is w =
      let P : Error → Type 0 = λ e. Writes taken failed (Err e) old new text in
      subst P (sym is) w

-- the same for the kind of a failed put
pub put_stopped : {S : Type 0} {taken : S → List ℕ} {failed : S → Failures} {kind : ErrorKind}
    {old new : S} {text : List ℕ} (result : Result (Unit {0}) ErrorKind) →
    IsErrAnd result (λ other. other ≡ kind) →
    Writes taken failed (Err (Write kind)) old new text →
    Writes taken failed (as_write result) old new text
put_stopped {S} {taken} {failed} {kind} {old} {new} {text} (Ok done) is w = absurd is
put_stopped {S} {taken} {failed} {kind} {old} {new} {text} (Err k) is w =
    let P : ErrorKind → Type 0 = λ k. Writes taken failed (Err (Write k)) old new text in
    subst P (sym is) w

-- two texts are written after another
pub writes_two : {S : Type 0} {taken : S → List ℕ} {failed : S → Failures} {u : Unit {0}}
    {result : Result (Unit {0}) Error} {old mid new : S} (a b c : List ℕ) →
    Writes taken failed (Ok u) old mid a → Writes taken failed result mid new (b ++ c) →
    Writes taken failed result old new ((a ++ b) ++ c)
writes_two a b c first second =
    writes_same _ _ (sym (append_assoc a b c)) (writes_then a (b ++ c) first second)

regroup_three : (a b c d : List ℕ) → a ++ ((b ++ c) ++ d) ≡ ((a ++ b) ++ c) ++ d
regroup_three a b c d = simp append_assoc

-- three texts are written after another
pub writes_three : {S : Type 0} {taken : S → List ℕ} {failed : S → Failures} {u : Unit {0}}
    {result : Result (Unit {0}) Error} {old mid new : S} (a b c d : List ℕ) →
    Writes taken failed (Ok u) old mid a → Writes taken failed result mid new ((b ++ c) ++ d) →
    Writes taken failed result old new (((a ++ b) ++ c) ++ d)
writes_three a b c d first second =
    writes_same _ _ (regroup_three a b c d) (writes_then a ((b ++ c) ++ d) first second)
