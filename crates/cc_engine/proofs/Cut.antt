-- The blocks and the machine agree.
use Rattle.std.proofs.Common.{◌≡◌, ◌<◌, ◌≤◌, ◌+◌, ℕ, suc, List, [], ◌∷◌, ◌++◌, length, Bool, true, false, cond, ltb, refl, inl, inr, ap, ◌∙◌, arith, add-zero, zero-add, one-add, ◌⊎◌, not, ◌&&◌, Option, Some, None, sym, subst}
use Rattle.std.specs.List.{All}
use Rattle.std.proofs.lemmas.Bool.{cases_Bool, ltb-true, lt-ltb, and_parts}
use Rattle.std.proofs.lemmas.List.Elements.{All-head, All-tail}
use Rattle.std.specs.Prelude.{find, encode_utf8_all}
use Rattle.cc_arg.specs.declared.parts.ArgParts.{ArgParts as Arg}
use Rattle.cc_arg.specs.Arguments.{takes_values}
use Rattle.cc_engine.specs.Blocks.{AreBlocks, BeginsWithNoFollower, BeginsWithNoValues, Block, Dashes, Flag, Follows, IsValueAt, Opened, Values, state_after, after_block, follows, is_value, join, position_after}
use Rattle.cc_engine.specs.Lookup.{allows_hyphens_at, max_values, capacity_at, has_long, has_short}
use Rattle.cc_engine.specs.Machine.{closed_step, open_step, option_state, run, step, value_state}
use Rattle.cc_engine.specs.WordClasses.{class_of, character_value, cluster_class, last_class, value_character, flag_class, if_taking, class_of_form, value_argument}
use Rattle.cc_engine.specs.declared.walking.word_class.WordClass.{WordClass}
use Rattle.cc_engine.specs.declared.walking.word_class.WordClass.TheVariants.{Closed, Opens, Plain, Unknown}
use Rattle.cc_engine.specs.declared.walking.state.Pending.{Pending}
use Rattle.cc_engine.specs.declared.walking.state.Pending.TheVariants.{OptionOpen, PositionMoved, Nothing, PositionalRun}
use Rattle.cc_engine.specs.declared.walking.word_class.ValueCharacter.{ValueCharacter}
use Rattle.cc_engine.specs.Words.{Form, Long, Other, Short, TwoHyphens, form_of}

-- An opened option takes values.
abbrev TakesValues : Arg → Type 0
TakesValues a = 0 < max_values a

flag_takes : (o : Option Arg) (has_equals : Bool) (a : Arg) → flag_class o has_equals ≡ Opens a → TakesValues a
flag_takes None has_equals a e = cc
flag_takes (Some b) has_equals a e = elim (cases_Bool (takes_values b && not has_equals)) [
  | inl t ↦ let same : Opens b ≡ Opens a = sym (rw t refl) ∙ e in let is : b ≡ a = cc in rw is at (ltb-true 0 (max_values b) (and_parts (takes_values b) (not has_equals) t).0)
  | inr f ↦ let apart : Closed ≡ Opens a = sym (rw f refl) ∙ e in cc
]

taking_takes : (o : Option Arg) (a : Arg) → if_taking o ≡ Some a → TakesValues a
taking_takes None a e = cc
taking_takes (Some b) a e = elim (cases_Bool (takes_values b)) [
  | inl t ↦ let same : Some b ≡ Some a = sym (rw t refl) ∙ e in let is : b ≡ a = cc in rw is at (ltb-true 0 (max_values b) t)
  | inr f ↦ let apart : None ≡ Some a = sym (rw f refl) ∙ e in cc
]

character_takes : (o : Option Arg) (cs : List ℕ) (others : Option ValueCharacter) (found : ValueCharacter) → ((b : Arg) → o ≡ Some b → TakesValues b) → (others ≡ Some found → TakesValues found.argument) → character_value o cs others ≡ Some found → TakesValues found.argument
character_takes None cs others found here later e = later e
character_takes (Some b) cs others found here later e = let is : record { argument = b; after = encode_utf8_all cs } ≡ found = cc in subst TakesValues (ap (λ f. f.argument) is) (here b refl)

value_takes : (arguments : List Arg) (cs : List ℕ) (found : ValueCharacter) → value_character arguments cs ≡ Some found → TakesValues found.argument
value_takes arguments [] found e = cc
value_takes arguments (c ∷ cs) found e = character_takes (value_argument arguments c) cs (value_character arguments cs) found (λ b. taking_takes (find (has_short c) arguments) b) (value_takes arguments cs found) e

last_takes : (b a : Arg) (s : List ℕ) → TakesValues b → last_class b s ≡ Opens a → TakesValues a
last_takes b a [] takes e = let is : b ≡ a = cc in rw is at takes
last_takes b a (c ∷ cs) takes e = cc

cluster_takes : (o : Option ValueCharacter) (a : Arg) → ((found : ValueCharacter) → o ≡ Some found → TakesValues found.argument) → cluster_class o ≡ Opens a → TakesValues a
cluster_takes None a takes e = cc
cluster_takes (Some found) a takes e = last_takes found.argument a found.after (takes found refl) e

form_takes : (arguments : List Arg) (form : Form) (a : Arg) → class_of_form arguments form ≡ Opens a → TakesValues a
form_takes arguments TwoHyphens a e = cc
form_takes arguments (Long flag has_equals) a e = flag_takes (find (has_long flag) arguments) has_equals a e
form_takes arguments (Short characters) a e = cluster_takes (value_character arguments characters) a (value_takes arguments characters) e
form_takes arguments Other a e = cc

pub Opens-takes : (arguments : List Arg) (word : List ℕ) (a : Arg) → class_of arguments word ≡ Opens a → 0 < max_values a
unfolding class_of
Opens-takes arguments word a e = form_takes arguments (form_of word) a e

-- an open option takes a follower
open_follows : (arguments : List Arg) (position : ℕ) (a : Arg) (value : ℕ) (class : WordClass) → follows a class ≡ true → open_step arguments position a value class ≡ option_state position a (suc value)
open_follows arguments position a value class e = rw e refl

-- any other word closes it
open_leaves : (arguments : List Arg) (position : ℕ) (a : Arg) (value : ℕ) (class : WordClass) → follows a class ≡ false → open_step arguments position a value class ≡ closed_step arguments position 0 class
open_leaves arguments position a value class e = rw e refl

-- a positional value
value_step : (arguments : List Arg) (position values : ℕ) (escaped : Bool) (class : WordClass) (word : List ℕ) → class_of arguments word ≡ class → IsValueAt arguments position escaped word → step arguments position escaped (PositionalRun values) class ≡ value_state arguments position escaped values
value_step arguments position values true class word is e = refl
value_step arguments position values false class word is e = by_class arguments position values class (rw is at e)
  where
    by_class : (arguments : List Arg) (position values : ℕ) (class : WordClass) → is_value (allows_hyphens_at arguments position) class ≡ true → closed_step arguments position values class ≡ value_state arguments position false values
    by_class arguments position values Plain e = refl
    by_class arguments position values Unknown e = rw e
    by_class arguments position values _ e = cc

option_more : (arguments : List Arg) (position : ℕ) (a : Arg) (k : ℕ) (class : WordClass) → k < max_values a → follows a class ≡ true → step arguments position false (option_state position a k).pending class ≡ option_state position a (suc k)
option_more arguments position a k class below e = rw (lt-ltb k (max_values a) below) (open_follows arguments position a k class e)

run_followers : (arguments : List Arg) (position : ℕ) (a : Arg) (words rest : List (List ℕ)) (k : ℕ) → All (Follows arguments a) words → k + length words ≤ max_values a → run arguments (option_state position a k) (words ++ rest) ≡ run arguments (option_state position a (k + length words)) rest
run_followers arguments position a [] rest k all fits = rw add-zero
run_followers arguments position a (word ∷ words) rest k all fits =
    ap (λ s. run arguments s (words ++ rest)) (option_more arguments position a k (class_of arguments word) (omega arith) (All-head (Follows arguments a) word words all))
    ∙ (let same : suc k + length words ≡ k + suc (length words) = omega arith in
    rw same at (run_followers arguments position a words rest (suc k) (All-tail (Follows arguments a) word words all) (omega arith)))

value_more : (arguments : List Arg) (position : ℕ) (escaped : Bool) (k : ℕ) (word : List ℕ) → suc k < capacity_at arguments position → IsValueAt arguments position escaped word → (let state = value_state arguments position escaped k in step arguments state.position state.escaped state.pending (class_of arguments word)) ≡ value_state arguments position escaped (suc k)
value_more arguments position escaped k word below e = rw (lt-ltb (suc k) (capacity_at arguments position) below) (value_step arguments position (suc k) escaped (class_of arguments word) word refl e)

run_values : (arguments : List Arg) (position : ℕ) (escaped : Bool) (words rest : List (List ℕ)) (k : ℕ) → All (IsValueAt arguments position escaped) words → suc k + length words ≤ capacity_at arguments position → run arguments (value_state arguments position escaped k) (words ++ rest) ≡ run arguments (value_state arguments position escaped (k + length words)) rest
run_values arguments position escaped [] rest k all fits = rw add-zero
run_values arguments position escaped (word ∷ words) rest k all fits =
    ap (λ s. run arguments s (words ++ rest)) (value_more arguments position escaped k word (omega arith) (All-head (IsValueAt arguments position escaped) word words all))
    ∙ (let same : suc k + length words ≡ k + suc (length words) = omega arith in
    rw same at (run_values arguments position escaped words rest (suc k) (All-tail (IsValueAt arguments position escaped) word words all) (omega arith)))

-- the first word is read as if nothing were pending
abbrev pub Fresh : List Arg → ℕ → Bool → Pending → List (List ℕ) → Type 0
Fresh arguments position escaped pending [] = Unit {0}
Fresh arguments position escaped pending (word ∷ words) = step arguments position escaped pending (class_of arguments word) ≡ step arguments position escaped Nothing (class_of arguments word)

pub fresh_nothing : (arguments : List Arg) (position : ℕ) (escaped : Bool) (words : List (List ℕ)) → Fresh arguments position escaped Nothing words
fresh_nothing arguments position escaped [] = tt
fresh_nothing arguments position escaped (word ∷ words) = refl

fresh_moved : (arguments : List Arg) (position : ℕ) (escaped : Bool) (words : List (List ℕ)) → Fresh arguments position escaped PositionMoved words
fresh_moved arguments position escaped [] = tt
fresh_moved arguments position true (word ∷ words) = refl
fresh_moved arguments position false (word ∷ words) = refl

fresh_option : (arguments : List Arg) (position : ℕ) (a : Arg) (value : ℕ) (words : List (List ℕ)) → BeginsWithNoFollower arguments a words → Fresh arguments position false (OptionOpen a value) words
fresh_option arguments position a value [] h = tt
fresh_option arguments position a value (word ∷ words) h = open_leaves arguments position a value (class_of arguments word) h

-- the words after an incomplete run do not begin with values
fresh_run : (arguments : List Arg) (position : ℕ) (escaped : Bool) (values : ℕ) (bs : List Block) → BeginsWithNoValues arguments bs → AreBlocks arguments position escaped bs → Fresh arguments position escaped (PositionalRun values) (join bs)
fresh_run arguments position escaped values [] none are = tt
fresh_run arguments position escaped values (Dashes word ∷ bs) none (unescaped, class, are) = rw (unescaped, class) refl
fresh_run arguments position escaped values (Opened opener option options ∷ bs) none (unescaped, class, all, fits, next, are) = rw (unescaped, class) refl
fresh_run arguments position escaped values (Values first more ∷ bs) none are = absurd none
fresh_run arguments position escaped values (Flag word ∷ bs) none (unescaped, class, are) = elim class [
  | inl closed ↦ rw (unescaped, closed) refl
  | inr unknown ↦ rw (unescaped, unknown.0) (rw unknown.1 refl)
]

opened_state : (arguments : List Arg) (position : ℕ) (word : List ℕ) (a : Arg) → class_of arguments word ≡ Opens a → step arguments position false Nothing (class_of arguments word) ≡ option_state position a 0
opened_state arguments position word a class = rw (class, lt-ltb 0 (max_values a) (Opens-takes arguments word a class)) refl

first_value : (arguments : List Arg) (position : ℕ) (escaped : Bool) (class : WordClass) (word : List ℕ) → class_of arguments word ≡ class → IsValueAt arguments position escaped word → step arguments position escaped Nothing class ≡ value_state arguments position escaped 0
first_value arguments position true class word is e = refl
first_value arguments position false class word is e = value_step arguments position 0 false class word is e

values_state : (arguments : List Arg) (position : ℕ) (escaped : Bool) (first : List ℕ) (more : List (List ℕ)) → value_state arguments position escaped (length more) ≡ after_block arguments position escaped (Values first more)
values_state arguments position escaped first more = elim (cases_Bool (ltb (suc (length more)) (capacity_at arguments position))) [ inl t ↦ rw t refl | inr f ↦ rw f refl ]

fresh_options : (arguments : List Arg) (position : ℕ) (a : Arg) (k : ℕ) (words : List (List ℕ)) → (k < max_values a → BeginsWithNoFollower arguments a words) → Fresh arguments position false (option_state position a k).pending words
fresh_options arguments position a k words next = elim (cases_Bool (ltb k (max_values a))) [
  | inl t ↦ rw t (fresh_option arguments position a k words (next (ltb-true k (max_values a) t)))
  | inr f ↦ rw f (fresh_nothing arguments position false words)
]

fresh_values : (arguments : List Arg) (position : ℕ) (escaped : Bool) (first : List ℕ) (more : List (List ℕ)) (bs : List Block) → (suc (length more) < capacity_at arguments position → BeginsWithNoValues arguments bs) → AreBlocks arguments (position_after arguments position (suc (length more))) escaped bs → (let state = after_block arguments position escaped (Values first more) in Fresh arguments state.position state.escaped state.pending (join bs))
fresh_values arguments position escaped first more bs next are = elim (cases_Bool (ltb (suc (length more)) (capacity_at arguments position))) [
  | inl t ↦ rw t (fresh_run arguments position escaped (suc (length more)) bs (next (ltb-true (suc (length more)) (capacity_at arguments position) t)) (rw t at are))
  | inr f ↦ rw f (fresh_full arguments position escaped (join bs))
]
  where
    fresh_full : (arguments : List Arg) (position : ℕ) (escaped : Bool) (words : List (List ℕ)) → Fresh arguments (position + 1) escaped (cond escaped PositionMoved Nothing) words
    fresh_full arguments position true words = fresh_moved arguments (position + 1) true words
    fresh_full arguments position false words = fresh_nothing arguments (position + 1) false words

-- the machine returns the state after the blocks
pub run_blocks : (arguments : List Arg) (bs : List Block) (position : ℕ) (escaped : Bool) (pending : Pending) → AreBlocks arguments position escaped bs → Fresh arguments position escaped pending (join bs)
    → run arguments (record { position = position; escaped = escaped; pending = pending }) (join bs) ≡ state_after arguments (record { position = position; escaped = escaped; pending = pending }) bs
run_blocks arguments [] position escaped pending are fresh = refl
run_blocks arguments (Dashes word ∷ bs) position escaped pending (unescaped, class, are) fresh =
    ap (λ s. run arguments s (join bs)) (fresh ∙ rw (unescaped, class) refl)
    ∙ run_blocks arguments bs position true Nothing are (fresh_nothing arguments position true (join bs))
run_blocks arguments (Opened opener option values ∷ bs) position true pending (unescaped, class, all, fits, next, are) fresh = cc
run_blocks arguments (Opened opener option values ∷ bs) position false pending (unescaped, class, all, fits, next, are) fresh =
    ap (λ s. run arguments s (values ++ join bs)) (fresh ∙ opened_state arguments position opener option class)
    ∙ rw zero-add at (run_followers arguments position option values (join bs) 0 all (rw zero-add fits))
    ∙ run_blocks arguments bs position false (option_state position option (length values)).pending are (fresh_options arguments position option (length values) (join bs) next)
run_blocks arguments (Values first more ∷ bs) position escaped pending (value, all, fits, next, are) fresh =
    ap (λ s. run arguments s (more ++ join bs)) (fresh ∙ first_value arguments position escaped (class_of arguments first) first refl value)
    ∙ rw zero-add at (run_values arguments position escaped more (join bs) 0 all (rw one-add fits))
    ∙ ap (λ s. run arguments s (join bs)) (values_state arguments position escaped first more)
    ∙ (let state = after_block arguments position escaped (Values first more) in run_blocks arguments bs state.position escaped state.pending are (fresh_values arguments position escaped first more bs next are))
run_blocks arguments (Flag word ∷ bs) position true pending (unescaped, class, are) fresh = cc
run_blocks arguments (Flag word ∷ bs) position false pending (unescaped, class, are) fresh =
    ap (λ s. run arguments s (join bs)) (fresh ∙ flag_state arguments position word class)
    ∙ run_blocks arguments bs position false Nothing are (fresh_nothing arguments position false (join bs))
  where
    flag_state : (arguments : List Arg) (position : ℕ) (word : List ℕ) → ((class_of arguments word ≡ Closed) ⊎ ((class_of arguments word ≡ Unknown) × (allows_hyphens_at arguments position ≡ false))) → step arguments position false Nothing (class_of arguments word) ≡ record { position = position; escaped = false; pending = Nothing }
    flag_state arguments position word (inl closed) = rw closed refl
    flag_state arguments position word (inr unknown) = rw (unknown.0, unknown.1) refl
