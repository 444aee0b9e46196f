use Rattle.std.proofs.Common.{◌≡◌, ◌+◌, ◌-◌, true, drop, get_or, sym, ap, subst, ◌∙◌, arith, ◌<◌, ◌≤◌, ◌&&◌, ◌||◌, eqb, ℕ, List, ◌∷◌, false, length, get_or-drop, ap₂, ⊎_elim, eqb-true, add-one}
use Rattle.std.specs.Path.{is_leading, dot, slash}
use Rattle.std.specs.Str.{IsCharBoundary}
use Rattle.std.proofs.lemmas.Str.{IsCharBoundary-after_ascii}
use Rattle.std.proofs.Math.Seq.{drop-cons}
use Rattle.std.proofs.lemmas.Bool.{and_parts, cond-true, cond-false, or_cases}
use Rattle.std.proofs.lemmas.List.{drop_all}
use Rattle.cc_candidates.specs.PathTexts.{past_leading}
use Rattle.cc_candidates.proofs.paths.path_texts.past_leading.Goals.{then-loop-start-test+else-is_leading, else-loop-start-test}
use Rattle.cc_candidates.proofs.paths.path_texts.past_leading.Goals as goal

-- The steps that skip leading slashes and `.` components.
leading_ascii : (path : List ℕ) (i : ℕ) → is_leading path i ≡ true → get_or path i 0 < 128
leading_ascii path i e =
    let byte = get_or path i 0 in
    let next = eqb (get_or path (i + 1) slash) slash in
    ⊎_elim (λ is_slash. omega (arith, eqb-true byte slash is_slash))
    (λ is_dot. omega (arith, eqb-true byte dot (and_parts (eqb byte dot) next is_dot).0))
    (or_cases (eqb byte slash) (eqb byte dot && next) e)

is_leading-drop : (path : List ℕ) (i : ℕ) → is_leading (drop i path) 0 ≡ is_leading path i
is_leading-drop path i =
    let here : get_or (drop i path) 0 0 ≡ get_or path i 0 =
    get_or-drop i path 0 0 ∙ ap (λ k. get_or path k 0) {x = i + 0} {y = i} (omega arith) in
    ap₂ (λ byte next. eqb byte slash || (eqb byte dot && eqb next slash)) here
    (get_or-drop i path 1 slash)

next_byte : (path : List ℕ) (i : ℕ) → i < length path
    → drop i path ≡ get_or path i 0 ∷ drop (i + 1) path
next_byte path i h = rw (add-one, drop-cons path i 0)

of_cons : (text rest : List ℕ) (byte : ℕ) → text ≡ byte ∷ rest → is_leading text 0 ≡ true
    → past_leading text ≡ past_leading rest
of_cons text rest byte e h =
    ap past_leading e ∙ cond-true _ _ _ (ap (λ t. is_leading t 0) (sym e) ∙ h)

of_kept : (text rest : List ℕ) (byte : ℕ) → text ≡ byte ∷ rest → is_leading text 0 ≡ false
    → past_leading text ≡ text
of_kept text rest byte e h =
    ap past_leading e ∙ cond-false _ _ _ (ap (λ t. is_leading t 0) (sym e) ∙ h) ∙ sym e

past_leading-step : (path : List ℕ) (i : ℕ) → i < length path → is_leading path i ≡ true
    → past_leading (drop i path) ≡ past_leading (drop (i + 1) path)
past_leading-step path i h leading =
    of_cons (drop i path) (drop (i + 1) path) (get_or path i 0)
    (next_byte path i h) (is_leading-drop path i ∙ leading)

past_leading-stop : (path : List ℕ) (i : ℕ) → i < length path → is_leading path i ≡ false
    → past_leading (drop i path) ≡ drop i path
past_leading-stop path i h stays =
    of_kept (drop i path) (drop (i + 1) path) (get_or path i 0)
    (next_byte path i h) (is_leading-drop path i ∙ stays)

past_leading-end : (path : List ℕ) (i : ℕ) → length path ≤ i
    → past_leading (drop i path) ≡ drop i path
past_leading-end path i h =
    let none = drop_all i path h in ap past_leading none ∙ sym none

pub loop-start-preserved : goal.loop-start-preserved
loop-start-preserved c =
    let path = c.args.path.now in
    let start = c.loop-start.start in
    let leading : is_leading path start ≡ true =
    ap (λ bs. is_leading bs start) (sym c.as_bytes-bytes.ensures.value)
    ∙ sym c.is_leading.ensures ∙ c.if-is_leading.true in
    let back : get_or path ((start + 1) - 1) 0 ≡ get_or path start 0 =
    ap (λ k. get_or path k 0) {x = (start + 1) - 1} {y = start} (omega arith) in
    record {
      within = omega arith;
      same = sym (past_leading-step path start (omega arith) leading) ∙ c.loop-start.invariant.same;
      ascii = λ _. omega (arith, leading_ascii path start leading);
    }

pub range_from-requires : goal.range_from-requires
range_from-requires c =
    let path = c.args.path.now in
    let start = c.loop-start.start in
    λ some. subst (IsCharBoundary path) {x = (start - 1) + 1} {y = start} (omega arith)
    (IsCharBoundary-after_ascii path (start - 1) c.utf8.path (omega arith)
    (c.loop-start.invariant.ascii some))

pub returns : goal.returns
returns c =
    let path = c.args.path.now in
    let start = c.loop-start.start in
    let stops : past_leading (drop start path) ≡ drop start path = elim c.loop-start-test.branch [
      | then-loop-start-test+else-is_leading w ↦ past_leading-stop path start (omega arith)
          (ap (λ bs. is_leading bs start) (sym c.as_bytes-bytes.ensures.value)
          ∙ sym w.is_leading.ensures ∙ w.if-is_leading.false)
      | else-loop-start-test w ↦
          past_leading-end path start (omega (arith, w.loop-start-test.false))
    ] in
    c.range_from.ensures.value ∙ sym stops ∙ c.loop-start.invariant.same
