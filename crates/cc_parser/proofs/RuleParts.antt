-- The content of a rule after the settings of an argument.
use Rattle.std.proofs.Common.{◌≡◌, ◌∙◌, ℕ, ◌+◌, ◌<◌, get_or, add-one, Bool, true, false, not, ◌&&◌, ◌==◌, List, [], ◌∷◌, ◌++◌, length, map, take, Option, Some, None, is_some, option_map, refl, sym, ap, ap₂, arith, eqb-true, true≢false}
use Rattle.std.proofs.Math.Bool.{and-false, and-true}
use Rattle.std.proofs.Math.Seq.{take-suc}
use Rattle.std.proofs.lemmas.List.{map-append}
use Rattle.std.specs.Borrow.{Bor}
use Rattle.std.specs.Option.{option_copied}
use Rattle.cc_arg.specs.declared.parts.ArgParts.{ArgParts as Argument}
use Rattle.cc_arg.specs.declared.possible_value.PossibleValue.{PossibleValue as Possible}
use Rattle.clap.specs.Walk.{Rule, is_empty, is_free_arg, is_simple_arg, rule_of}
use Rattle.clap.specs.Words.{AddsAliases, AddsShortAliases}
use Rattle.clap.specs.declared.builder.arg.Arg.{Arg}
use Rattle.clap.specs.declared.builder.possible_value.PossibleValue.{PossibleValue}
use Rattle.cc_parser.specs.Arguments.{ArePossible, AreRulesOf, IsPossible, IsRuleOf, given}

pub given_none : {A : Type 0} (value : Option A) → given value None ≡ value
given_none None = refl
given_none (Some x) = refl

pub is_some-copied : {A : Type 0} (o : Option (Bor A)) (p : Option A) → option_copied o ≡ p → is_some o ≡ is_some p
is_some-copied None None e = refl
is_some-copied (Some x) (Some y) e = refl
is_some-copied None (Some y) e = cc
is_some-copied (Some x) None e = cc

-- the settings of an argument that had none
pub set_simple : (o f g n r : Bool) (v : Option ℕ) (u : Option (Bor (List ℕ))) (hv lv gv : Bool)
    → (o && (f && (g && (not (is_some v) && (not (is_some u) && (not hv && (not n && (not r && (not lv && not gv))))))))) ≡ true
    → (d : Option ℕ) (t : Option (Bor (List ℕ))) (h l all : Bool)
    → (o && (f && (g && (not (is_some (given d v)) && (not (is_some (given t u)) && (not h && (not n && (not r && (not l && not all)))))))))
    ≡ (not (is_some d) && (not (is_some t) && (not h && (not l && not all))))
set_simple true true true false false None None hv lv gv e d t h l all =
    ap₂ (λ d t. not (is_some d) && (not (is_some t) && (not h && (not l && not all)))) (given_none d) (given_none t)
set_simple false f g n r v u hv lv gv e d t h l all = cc
set_simple true false g n r v u hv lv gv e d t h l all = cc
set_simple true true false n r v u hv lv gv e d t h l all = cc
set_simple true true true n r (Some x) u hv lv gv e d t h l all = cc
set_simple true true true n r None (Some y) hv lv gv e d t h l all = cc
set_simple true true true true r None None true lv gv e d t h l all = cc
set_simple true true true true r None None false lv gv e d t h l all = cc
set_simple true true true false true None None true lv gv e d t h l all = cc
set_simple true true true false true None None false lv gv e d t h l all = cc

-- one more possible value
pub more_possible : (xs : List Possible) (ys : List PossibleValue) (x : Possible) (y : PossibleValue)
    → ArePossible xs ys → IsPossible x y → ArePossible (xs ++ x ∷ []) (ys ++ y ∷ [])
more_possible [] [] x y h k = (k, tt)
more_possible (z ∷ xs) (w ∷ ys) x y h k = (h.0, more_possible xs ys x y h.1 k)
more_possible [] (w ∷ ys) x y h k = absurd h
more_possible (z ∷ xs) [] x y h k = absurd h

-- one more rule
pub more_rules : (args : List Argument) (rules : List Rule) (arg : Argument) (rule : Rule)
    → AreRulesOf args rules → IsRuleOf arg rule → AreRulesOf (args ++ arg ∷ []) (rules ++ rule ∷ [])
more_rules [] [] arg rule h k = (k, tt)
more_rules (z ∷ args) (w ∷ rules) arg rule h k = (h.0, more_rules args rules arg rule h.1 k)
more_rules [] (w ∷ rules) arg rule h k = absurd h
more_rules (z ∷ args) [] arg rule h k = absurd h

-- conflicts are added to an argument that had none
set_free : (x : Bool) (n : ℕ) (a b d e f : Bool) → (not x && ((n == 0) && (a && (b && (d && (e && f)))))) ≡ true
    → (m i : ℕ) → m ≡ n + i → (not x && ((m == 0) && (a && (b && (d && (e && f)))))) ≡ (i == 0)
set_free true n a b d e f h m i g = cc
set_free false n true true true true true h m i g =
    let none : n ≡ 0 = eqb-true n 0 (sym (and-true (n == 0)) ∙ h) in
    let same : m ≡ i = omega (arith, none, g) in
    and-true (m == 0) ∙ ap (λ k. k == 0) same
set_free false n false b d e f h m i g = absurd (true≢false (sym h ∙ and-false (n == 0)))
set_free false n true false d e f h m i g = absurd (true≢false (sym h ∙ and-false (n == 0)))
set_free false n true true false e f h m i g = absurd (true≢false (sym h ∙ and-false (n == 0)))
set_free false n true true true false f h m i g = absurd (true≢false (sym h ∙ and-false (n == 0)))
set_free false n true true true true false h m i g = absurd (true≢false (sym h ∙ and-false (n == 0)))

pub free_rule : (old new : Arg) → is_free_arg old ≡ true → new ≡ record old { conflicts = new.conflicts } → (i : ℕ)
    → length new.conflicts.items ≡ length old.conflicts.items + i → rule_of new ≡ record (rule_of old) { is_free = i == 0 }
free_rule old new free same i count = ap rule_of same ∙ (λ j. record (rule_of old) {
  is_free = set_free old.exclusive (length old.conflicts.items) (is_empty old.needs.items) (is_empty old.r_ifs.items) (is_empty old.r_ifs_all.items)
      (is_empty old.r_unless.items) (is_empty old.r_unless_all.items) free (length new.conflicts.items) i count j;
})

-- one more alias
pub more_long : (old new : Arg) (alias : Bor (List ℕ)) (shown : Bool) → AddsAliases old new ((alias, shown) ∷ [])
    → rule_of new ≡ record (rule_of old) { aliases = (rule_of old).aliases ++ alias.now ∷ [] }
more_long old new alias shown adds = ap rule_of adds.0
    ∙ ap (λ (names : List (List ℕ)). record (rule_of old) { aliases = names })
    (ap (map (λ (a : Bor (List ℕ) × Bool). a.0.now)) adds.1 ∙ map-append (λ (a : Bor (List ℕ) × Bool). a.0.now) old.aliases.items ((alias, shown) ∷ []))

pub more_short : (old new : Arg) (alias : ℕ) (shown : Bool) → AddsShortAliases old new ((alias, shown) ∷ [])
    → rule_of new ≡ record (rule_of old) { short_aliases = (rule_of old).short_aliases ++ alias ∷ [] }
more_short old new alias shown adds = ap rule_of adds.0
    ∙ ap (λ (names : List ℕ). record (rule_of old) { short_aliases = names })
    (ap (map (λ (a : ℕ × Bool). a.0)) adds.1 ∙ map-append (λ (a : ℕ × Bool). a.0) old.short_aliases.items ((alias, shown) ∷ []))

abbrev pub with_set : Arg → Option ℕ → Option (Bor (List ℕ)) → Bool → Bool → Bool → Arg
with_set a d t h l all = record a {
  last = l;
  global = all;
  allow_hyphen_values = h;
  val_delim = given d a.val_delim;
  terminator = given t a.terminator;
}

pub set_rule : (a : Arg) → is_simple_arg a ≡ true → (d : Option ℕ) (t : Option (Bor (List ℕ))) (h l all : Bool)
    → rule_of (with_set a d t h l all) ≡ record (rule_of a) {
      is_simple = not (is_some d) && (not (is_some t) && (not h && (not l && not all)));
    }
set_rule a e d t h l all = λ i. record (rule_of a) {
  is_simple = set_simple (is_empty a.overrides.items) (is_empty a.default_vals_ifs.items) (is_empty a.groups.items) a.allow_negative_numbers a.require_equals
      a.val_delim a.terminator a.allow_hyphen_values a.last a.global e d t h l all i;
}

pub given_map : {A B : Type 0} (f : A → B) (x y : Option A) → option_map f (given x y) ≡ given (option_map f x) (option_map f y)
given_map f None y = refl
given_map f (Some x) y = refl

pub map_copied : {A : Type 0} (o : Option (Bor A)) → option_map (λ s. s.now) o ≡ option_copied o
map_copied None = refl
map_copied (Some x) = refl

-- one more element is skipped
pub take_more : {X : Type 0} (xs : List X) (i : ℕ) (x : X) → i < length xs → x ≡ get_or xs i x → take (i + 1) xs ≡ take i xs ++ x ∷ []
take_more xs i x lt is = rw add-one (take-suc xs i x lt ∙ ap (λ y. take i xs ++ y ∷ []) (sym is))
