-- The argument that a word asks for at the node to which the words before it lead.
use Rattle.std.proofs.Common.{◌≡◌, ◌∙◌, refl, ap, sym, ℕ, List, [], ◌∷◌, ◌++◌, Bool, true, false, cond, Bor}
use Rattle.std.specs.Prelude.{Option, None, Some, find, is_some, option_to_list}
use Rattle.std.specs.Option.{option_copied}
use Rattle.cc_arg.specs.declared.parts.ArgParts.{ArgParts as Arg}
use Rattle.cc_command.specs.Tree.{Tree}
use Rattle.cc_engine.specs.declared.walking.state.State.{State}
use Rattle.cc_engine.specs.Asked.{Asks, asked_argument}
use Rattle.cc_engine.specs.Completion.{IsPlace}

-- the argument that a word asks for at its place
pub asks : (root tree : Tree) (state : State) (words : List (List ℕ)) (index : ℕ) (word : List ℕ) (found result : Option Arg)
    → IsPlace root words index tree state word → found ≡ asked_argument tree state word → result ≡ found
    → Asks root words index result
asks root tree state words index word found result place asked is = record {
  tree = tree;
  state = state;
  leads = place.leads;
  only = place.only;
  asked = is ∙ asked ∙ ap (asked_argument tree state) place.is_word;
}

-- ---- the first of three

pub is_some_copied : {T : Type 0} (option : Option (Bor T)) → is_some (option_copied option) ≡ is_some option
is_some_copied None = refl
is_some_copied (Some borrowed) = refl

-- if one of the first passes
first_passes : (test : Arg → Bool) (xs ys : List Arg) → is_some (find test xs) ≡ true → find test (xs ++ ys) ≡ find test xs
first_passes test [] ys e = cc
first_passes test (x ∷ xs) ys e = by (test x) (first_passes test xs ys) e
  where
    by : (b : Bool) → (is_some (find test xs) ≡ true → find test (xs ++ ys) ≡ find test xs)
        → is_some (cond b (Some x) (find test xs)) ≡ true → cond b (Some x) (find test (xs ++ ys)) ≡ cond b (Some x) (find test xs)
    by true rest e = refl
    by false rest e = rest e

-- if none of them does
none_passes : (test : Arg → Bool) (xs ys : List Arg) → is_some (find test xs) ≡ false → find test (xs ++ ys) ≡ find test ys
none_passes test [] ys e = refl
none_passes test (x ∷ xs) ys e = by (test x) (none_passes test xs ys) e
  where
    by : (b : Bool) → (is_some (find test xs) ≡ false → find test (xs ++ ys) ≡ find test ys)
        → is_some (cond b (Some x) (find test xs)) ≡ false → cond b (Some x) (find test (xs ++ ys)) ≡ find test ys
    by true rest e = cc
    by false rest e = rest e

abbrev first_of : (Arg → Bool) → Option Arg → Option Arg → Option Arg → Option Arg
first_of test first second third = find test (option_to_list first ++ (option_to_list second ++ option_to_list third))

pub second_is : (test : Arg → Bool) (first second third before found : Option Arg) → before ≡ find test (option_to_list first) → is_some before ≡ false
    → found ≡ find test (option_to_list second) → is_some found ≡ true → found ≡ first_of test first second third
second_is test first second third before found is_before none is some =
    is ∙ sym (first_passes test (option_to_list second) (option_to_list third) (sym (ap is_some is) ∙ some))
    ∙ sym (none_passes test (option_to_list first) (option_to_list second ++ option_to_list third) (sym (ap is_some is_before) ∙ none))

pub third_is : (test : Arg → Bool) (first second third before between found : Option Arg) → before ≡ find test (option_to_list first) → is_some before ≡ false
    → between ≡ find test (option_to_list second) → is_some between ≡ false → found ≡ find test (option_to_list third)
    → found ≡ first_of test first second third
third_is test first second third before between found is_before none is_between neither is =
    is ∙ sym (none_passes test (option_to_list second) (option_to_list third) (sym (ap is_some is_between) ∙ neither))
    ∙ sym (none_passes test (option_to_list first) (option_to_list second ++ option_to_list third) (sym (ap is_some is_before) ∙ none))
