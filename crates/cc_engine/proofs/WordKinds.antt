-- The match of a word with the options, from the results of the calls in the code.
use Rattle.std.proofs.Common.{◌≡◌, ◌<◌, ◌-◌, ◌==◌, ◌++◌, ℕ, suc, List, [], ◌∷◌, length, take, get_or, true, false, eqb, Some, None, refl, ap, sym, subst, ◌∙◌, arith}
use Rattle.std.specs.Prelude.{codes, filter, find, IsUtf8, if◌then◌else◌}
use Rattle.std.specs.Str.{IsCharBoundary}
use Rattle.std.proofs.lemmas.Bool.{ne_eqb}
use Rattle.std.proofs.lemmas.List.{length-append}
use Rattle.std.proofs.lemmas.Str.{IsCharBoundary-at_seam}
use Rattle.std.proofs.Math.Seq.{take-append_seam}
use Rattle.cc_base.specs.Bytes.{dash, equals}
use Rattle.cc_arg.specs.declared.parts.ArgParts.{ArgParts as Arg}
use Rattle.cc_candidates.specs.Beginning.{begins}
use Rattle.cc_engine.specs.OwnLongs.{has_own_long}
use Rattle.cc_engine.specs.Options.{longs, shorts}
use Rattle.cc_engine.specs.OptionMatches.{flag_match, long_match, short_match, after_equals, value_query_after, without_end, after_one_dash, after_two_dashes, match_of}
use Rattle.cc_engine.specs.declared.gathering.options.OptionMatch.TheVariants.{Listed}
use Rattle.cc_engine.specs.Words.{EndsWith, before_equals}
use Rattle.cc_engine.proofs.Forms.{empty, flag_some, no_equals_tail}

-- ---- the kinds of words

pub match_plain : (arguments : List Arg) (w : List ℕ) → ((rest : List ℕ) → w ≡ dash ∷ rest → ⊥) →
    match_of arguments w ≡ Listed (if length w == 0 then longs arguments ++ shorts (codes "-") arguments else [])
unfolding match_of
match_plain arguments [] h = refl
match_plain arguments (c ∷ s) h =
    let long : eqb (suc (length s)) 0 ≡ false = ne_eqb (suc (length s)) 0 (λ e. omega (arith, e)) in
    rw (ne_eqb c dash (λ e. h s (ap (λ x. x ∷ s) e)))
    (ap (λ b. Listed (if b then longs arguments ++ shorts (codes "-") arguments else [])) (sym long))

pub match_dash : (arguments : List Arg) (w s : List ℕ) → w ≡ dash ∷ s → (length s == 0) ≡ true →
    match_of arguments w ≡ Listed (shorts (codes "-") arguments ++ longs arguments)
unfolding match_of
match_dash arguments w s e h = ap (match_of arguments) (e ∙ ap (λ t. dash ∷ t) (empty s h))

one_short : (arguments : List Arg) (s : List ℕ) → (length s == 0) ≡ false → ((rest : List ℕ) → s ≡ dash ∷ rest → ⊥) →
    after_one_dash arguments s ≡ short_match arguments s
one_short arguments [] e h = cc
one_short arguments (c ∷ s) e h = rw (ne_eqb c dash (λ e. h s (ap (λ x. x ∷ s) e))) refl

pub match_short : (arguments : List Arg) (w s : List ℕ) → w ≡ dash ∷ s → (length s == 0) ≡ false → ((rest : List ℕ) → s ≡ dash ∷ rest → ⊥) →
    match_of arguments w ≡ short_match arguments s
unfolding match_of
match_short arguments w s e f h = ap (match_of arguments) e ∙ one_short arguments s f h

pub match_two : (arguments : List Arg) (w s t : List ℕ) → w ≡ dash ∷ s → s ≡ dash ∷ t → (length t == 0) ≡ true →
    match_of arguments w ≡ Listed (longs arguments)
unfolding match_of
match_two arguments w s t e f h = ap (match_of arguments) (e ∙ ap (λ x. dash ∷ x) (f ∙ ap (λ x. dash ∷ x) (empty t h)))

two_long : (arguments : List Arg) (t : List ℕ) → (length t == 0) ≡ false → after_two_dashes arguments t ≡ long_match arguments t (after_equals t)
two_long arguments [] e = cc
two_long arguments (c ∷ t) e = refl

pub match_long : (arguments : List Arg) (w s t : List ℕ) → w ≡ dash ∷ s → s ≡ dash ∷ t → (length t == 0) ≡ false →
    match_of arguments w ≡ long_match arguments t (after_equals t)
unfolding match_of
match_long arguments w s t e f h = ap (match_of arguments) (e ∙ ap (λ x. dash ∷ x) f) ∙ two_long arguments t h

-- ---- the first `=`

pub after_none : (s : List ℕ) → ((i : ℕ) → i < length s → get_or s i 0 ≡ equals → ⊥) → after_equals s ≡ None
after_none [] h = refl
after_none (c ∷ s) h =
    let other : eqb c equals ≡ false = ne_eqb c equals (h 0 (omega arith)) in
    rw other (after_none s (no_equals_tail c s h))

pub after_some : (s t : List ℕ) → ((i : ℕ) → i < length s → get_or s i 0 ≡ equals → ⊥) → after_equals (s ++ equals ∷ t) ≡ Some t
after_some [] t h = refl
after_some (c ∷ s) t h =
    let other : eqb c equals ≡ false = ne_eqb c equals (h 0 (omega arith)) in
    rw other (after_some s t (no_equals_tail c s h))

pub long_none : (arguments : List Arg) (long : List ℕ) → ((i : ℕ) → i < length long → get_or long i 0 ≡ equals → ⊥) →
    long_match arguments long (after_equals long) ≡ Listed (filter (begins (codes "--" ++ long)) (longs arguments))
long_none arguments long h = ap (long_match arguments long) (after_none long h)

pub long_some : (arguments : List Arg) (long flag text : List ℕ) → long ≡ flag ++ equals ∷ text → ((i : ℕ) → i < length flag → get_or flag i 0 ≡ equals → ⊥) →
    long_match arguments long (after_equals long) ≡ flag_match (find (has_own_long flag) arguments) flag text
long_some arguments long flag text is h =
    ap (long_match arguments long) (ap after_equals is ∙ after_some flag text h)
    ∙ ap (λ f. flag_match (find (has_own_long f) arguments) f text) (ap before_equals is ∙ (flag_some flag text h).0)

-- ---- a `=` in front of a value

pub wanted_plain : (argument : Arg) (before rest : List ℕ) → ((s : List ℕ) → rest ≡ equals ∷ s → ⊥) →
    value_query_after argument before rest ≡ record { argument = argument; before = before; text = rest }
wanted_plain argument before [] h = refl
wanted_plain argument before (c ∷ s) h = rw (ne_eqb c equals (λ e. h s (ap (λ x. x ∷ s) e))) refl

-- ---- the end of a word

seam : (text leading end : List ℕ) → text ≡ leading ++ end → length text - length end ≡ length leading
seam text leading end is = let total = ap length is in omega (arith, total, length-append leading end)

pub ends_past_dash : (word rest end : List ℕ) → word ≡ codes "-" ++ rest → EndsWith rest end → EndsWith word end
ends_past_dash word rest end e (leading, is) = (codes "-" ++ leading, e ∙ ap (λ s. codes "-" ++ s) is)

pub end_begins : (text end : List ℕ) → EndsWith text end → IsUtf8 end → IsCharBoundary text (length text - length end)
end_begins text end (leading, is) valid =
    subst (IsCharBoundary text) (sym (seam text leading end is)) (IsCharBoundary-at_seam text leading end is valid)

pub end_off : (text leading end : List ℕ) → text ≡ leading ++ end → without_end text end ≡ leading
end_off text leading end is =
    ap (λ n. take n text) (seam text leading end is) ∙ ap (take (length leading)) is ∙ take-append_seam leading end

pub with_end : (text end : List ℕ) → EndsWith text end → without_end text end ++ end ≡ text
with_end text end (leading, is) = ap (λ s. s ++ end) (end_off text leading end is) ∙ sym is
