-- The words of a node, as they are written.
use Rattle.std.proofs.Common.{◌≡◌, List, ℕ, Bool, false, ◌||◌, [], ◌∷◌, ◌++◌, codes, flat_map, filter, inl, inr, refl, sym, ap, ◌∙◌}
use Rattle.std.proofs.lemmas.Bool.{cases_Bool}
use Rattle.std.proofs.lemmas.Grind.{common_steps}
use Rattle.cc_arg.specs.declared.parts.ArgParts.{ArgParts as Arg}
use Rattle.cc_arg.specs.Arguments.{is_positional}
use Rattle.cc_base.specs.Joined.{has_texts}
use Rattle.cc_base.specs.Partly.{partly_self, partly_split}
use Rattle.cc_base.proofs.JoinedTexts.{has_texts_append, joined_append}
use Rattle.cc_command.specs.Tree.{Forest, Tree}
use Rattle.cc_generator.specs.Subcommands.{sibling_names}
use Rattle.cc_bash.specs.Arms.{long_words, short_words, value_names, words_at}
use Rattle.cc_bash.specs.Nodes.{part_words}
use Rattle.cc_bash.specs.Words.{words_after, words_text}
use Rattle.cc_bash.specs.declared.words.Part.TheVariants.{Longs, Shorts, Values}

-- the values of positionals
positional_values : (arguments : List Arg) →
    flat_map (part_words Values) arguments ≡ flat_map value_names (filter is_positional arguments)
positional_values [] = refl
positional_values (argument ∷ arguments) = elim (cases_Bool (is_positional argument)) [
  | inl t ↦ rw t (ap (λ ws. value_names argument ++ ws) (positional_values arguments))
  | inr f ↦ rw f (positional_values arguments)
]

joined : (first rest : List (List ℕ)) (begun : Bool) (text : List ℕ) →
    text ≡ words_after false first → begun ≡ has_texts first →
    text ++ words_after begun rest ≡ words_after false (first ++ rest)
joined first rest begun text e is =
    ap (λ t. t ++ words_after begun rest) e
    ∙ ap (λ b. words_after false first ++ words_after b rest) is
    ∙ sym (joined_append (codes " ") false first rest)

joined_begun : (first rest : List (List ℕ)) (begun now : Bool) → begun ≡ has_texts first →
    now ≡ (begun || has_texts rest) → now ≡ has_texts (first ++ rest)
joined_begun first rest begun now is then =
    then ∙ ap (λ b. b || has_texts rest) is ∙ sym (has_texts_append first rest)

-- the words of a node, part by part
pub words_written : (tree : Tree) (arguments : List Arg) (children : Forest) (one two three : Bool)
    → arguments ≡ tree.node.arguments → children ≡ tree.children →
    one ≡ (false || has_texts (flat_map short_words arguments)) →
    two ≡ (one || has_texts (flat_map long_words arguments)) →
    three ≡ (two || has_texts (flat_map (part_words Values) arguments)) →
    ((words_after false (flat_map short_words arguments)
    ++ words_after one (flat_map long_words arguments))
    ++ words_after two (flat_map (part_words Values) arguments))
    ++ words_after three (sibling_names children)
    ≡ words_text (words_at tree)
unfolding words_at
words_written tree arguments children one two three same below is1 is2 is3 =
    let s = flat_map short_words arguments in
    let l = flat_map long_words arguments in
    let v = flat_map (part_words Values) arguments in
    let c = sibling_names children in
    let b2 = joined_begun s l one two is1 is2 in
    let b3 = joined_begun (s ++ l) v two three b2 is3 in
    joined ((s ++ l) ++ v) c three _ (joined (s ++ l) v two _
    (joined s l one (words_after false s) refl is1) b2) b3
    ∙ ap (λ vs. words_text (((s ++ l) ++ vs) ++ c)) (positional_values arguments)
    ∙ ap (λ as'. words_text (((flat_map short_words as' ++ flat_map long_words as')
    ++ flat_map value_names (filter is_positional as')) ++ c)) same
    ∙ ap (λ f. words_text (((flat_map short_words tree.node.arguments
    ++ flat_map long_words tree.node.arguments)
    ++ flat_map value_names (filter is_positional tree.node.arguments)) ++ sibling_names f))
    below

pub words_open : (tree : Tree) → words_text (words_at tree)
    ≡ (let shorts : List (List ℕ) = flat_map (part_words Shorts) tree.node.arguments in
    let longs : List (List ℕ) = flat_map (part_words Longs) tree.node.arguments in
    let values : List (List ℕ) = flat_map (part_words Values) tree.node.arguments in
    let one : Bool = false || has_texts shorts in
    let two : Bool = one || has_texts longs in
    words_after false shorts ++ words_after one longs ++ words_after two values
    ++ words_after (two || has_texts values) (sibling_names tree.children))
words_open tree =
    sym (words_written tree tree.node.arguments tree.children _ _ _ refl refl refl refl refl)

pub ruleset in_words = (common_steps, partly_split, partly_self, words_open)
