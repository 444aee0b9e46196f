use Rattle.std.proofs.Common.{◌≡◌, ◌-◌, true, sym, ap, ◌∙◌, arith, ◌<◌, ◌&&◌, ◌||◌, eqb, ltb, ℕ, List, suc, false, length, get_or, take, ⊎_elim, eqb-true}
use Rattle.std.specs.Path.{is_trailing, trimmed_len, dot, slash, trim_trailing}
use Rattle.std.proofs.lemmas.Bool.{and_parts, cond-false, cond-true, or_cases}
use Rattle.cc_candidates.proofs.paths.path_texts.trim_trailing.Goals.{then-loop-end-test+else-is_trailing, else-loop-end-test}
use Rattle.cc_candidates.proofs.paths.path_texts.trim_trailing.Goals as goal

-- The steps that trim the end of a path. The part that is cut off begins with an ASCII byte.
trimmed_len-trailing : (path : List ℕ) (n : ℕ) → 0 < n → is_trailing path (n - 1) ≡ true
    → trimmed_len path n ≡ trimmed_len path (n - 1)
trimmed_len-trailing path n some e =
    ap (trimmed_len path) {x = n} {y = suc (n - 1)} (omega arith) ∙ cond-true _ _ _ e

trimmed_len-kept : (path : List ℕ) (n : ℕ) → 0 < n → is_trailing path (n - 1) ≡ false
    → trimmed_len path n ≡ n
trimmed_len-kept path n some e =
    ap (trimmed_len path) {x = n} {y = suc (n - 1)} (omega arith) ∙ cond-false _ _ _ e
    ∙ omega arith

trailing_ascii : (path : List ℕ) (i : ℕ) → is_trailing path i ≡ true → get_or path i 0 < 128
trailing_ascii path i e =
    let byte = get_or path i 0 in
    let before = eqb (get_or path (i - 1) 0) slash in
    ⊎_elim (λ is_slash. omega (arith, eqb-true byte slash is_slash))
    (λ is_dot. omega (arith, eqb-true byte dot (and_parts (eqb byte dot) before is_dot).0))
    (or_cases (eqb byte slash) (eqb byte dot && before)
    (and_parts (ltb 0 i) (eqb byte slash || (eqb byte dot && before)) e).1)

trim_trailing-at : (path : List ℕ) (n : ℕ) → trimmed_len path (length path) ≡ n
    → take n path ≡ trim_trailing path
unfolding trim_trailing
trim_trailing-at path n e = ap (λ k. take k path) (sym e)

pub loop-end-preserved : goal.loop-end-preserved
loop-end-preserved c =
    let path = c.args.path.now in
    let end = c.loop-end.end in
    let trailing : is_trailing path (end - 1) ≡ true =
    ap (λ bs. is_trailing bs (end - 1)) (sym c.as_bytes-bytes.ensures.value)
    ∙ sym c.is_trailing.ensures ∙ c.if-is_trailing.true in
    record {
      within = omega arith;
      same = c.loop-end.invariant.same ∙ trimmed_len-trailing path end c.loop-end-test.true trailing;
      ascii = λ _. trailing_ascii path (end - 1) trailing;
    }

pub returns : goal.returns
returns c =
    let path = c.args.path.now in
    let end = c.loop-end.end in
    let stays : trimmed_len path end ≡ end = elim c.loop-end-test.branch [
      | then-loop-end-test+else-is_trailing w ↦ trimmed_len-kept path end w.loop-end-test.true
          (ap (λ bs. is_trailing bs (end - 1)) (sym c.as_bytes-bytes.ensures.value)
          ∙ sym w.is_trailing.ensures ∙ w.if-is_trailing.false)
      | else-loop-end-test w ↦
          let none : end ≡ 0 = omega (arith, w.loop-end-test.false) in
          ap (trimmed_len path) none ∙ sym none
    ] in
    let is = trim_trailing-at path end (c.loop-end.invariant.same ∙ stays) in
    grind (arith, is, c.range.ensures.value)
