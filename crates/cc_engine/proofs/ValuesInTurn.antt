-- The values that a word is asked for.
use Rattle.std.proofs.Common.{◌≡◌, ◌∙◌, refl, ap, sym, ℕ, List, [], ◌++◌, map, append_assoc}
use Rattle.std.specs.Prelude.{Option, None, Some, option_to_list}
use Rattle.std.proofs.lemmas.List.{map-append}
use Rattle.cc_arg.specs.declared.parts.ArgParts.{ArgParts as Arg}
use Rattle.cc_command.specs.Tree.{Tree}
use Rattle.cc_engine.specs.Asked.{WordValues, as_asked, in_turn, opened_value, positional_value, question_of, questions_of, value_within, values_of_lists, values_of_word}
use Rattle.cc_engine.specs.Completion.{Questions, match_question, offered_match, open_question, positional_question, questions}
use Rattle.cc_engine.specs.declared.gathering.options.OptionMatch.{OptionMatch}
use Rattle.cc_engine.specs.declared.gathering.options.OptionMatch.TheVariants.{Listed, ValuesOf}
use Rattle.cc_engine.specs.declared.open_lists.OpenLists.{OpenLists}
use Rattle.cc_engine.specs.declared.questions.AskedValue.{AskedValue}
use Rattle.cc_engine.specs.declared.walking.state.Pending.{Pending}
use Rattle.cc_engine.specs.declared.walking.state.Pending.TheVariants.{OptionOpen}
use Rattle.cc_engine.specs.declared.walking.state.State.{State}
use Rattle.cc_engine.specs.Lookup.{positional_at}
use Rattle.cc_engine.specs.OpenLists.{open_lists_by}
use Rattle.cc_engine.specs.Values.{Question}

-- ---- the questions are those for the values

opened_asks : (pending : Pending) (word : List ℕ) → open_question pending word ≡ question_of (opened_value pending word)
opened_asks (OptionOpen option count) word = refl
opened_asks _ word = refl

within_asks : (matched : OptionMatch) → match_question matched ≡ question_of (value_within matched)
within_asks (Listed found) = refl
within_asks (ValuesOf wanted) = refl

positional_asks : (argument : Option Arg) (number : Option ℕ) (word : List ℕ)
    → positional_question argument number word ≡ question_of (positional_value argument number word)
positional_asks (Some argument) (Some number) word = refl
positional_asks (Some argument) None word = refl
positional_asks None number word = refl

abbrev questions_with : Question → Question → Question → Question → Questions
questions_with children opened within positional =
    record { children = children; positional = positional; within = within; opened = opened }

pub same : (tree : Tree) (state : State) (word : List ℕ)
    → questions tree state word ≡ questions_of (questions tree state word).children (values_of_word tree state word)
same tree state word =
    let lists = open_lists_by tree.node.arguments state.position state.escaped state.pending in
    let children = (questions tree state word).children in
    let matched = offered_match lists.options tree.node.arguments word in
    let argument = positional_at tree.node.arguments state.position in
    ap (λ opened. questions_with children opened (match_question matched) (positional_question argument lists.value word)) (opened_asks state.pending word)
    ∙ ap (λ within. questions_with children (question_of (opened_value state.pending word)) within (positional_question argument lists.value word)) (within_asks matched)
    ∙ ap (λ positional. questions_with children (question_of (opened_value state.pending word)) (question_of (value_within matched)) positional)
    (positional_asks argument lists.value word)

-- ---- the list of them

in_parts : (values : WordValues) → map as_asked (in_turn values)
    ≡ (([] ++ map as_asked (option_to_list values.opened)) ++ map as_asked (option_to_list values.within))
    ++ map as_asked (option_to_list values.positional)
in_parts values =
    let opened = option_to_list values.opened in
    let within = option_to_list values.within in
    let positional = option_to_list values.positional in
    map-append as_asked opened (within ++ positional)
    ∙ ap (λ r. map as_asked opened ++ r) (map-append as_asked within positional)
    ∙ sym (append_assoc (map as_asked opened) (map as_asked within) (map as_asked positional))

-- the values are added one after another
pub values_pushed : (tree : Tree) (state : State) (word : List ℕ) (arguments : List Arg) (lists : OpenLists) (positional : Option Arg)
    (none one two all : List AskedValue) → arguments ≡ tree.node.arguments
    → lists ≡ open_lists_by arguments state.position state.escaped state.pending → positional ≡ positional_at arguments state.position
    → none ≡ [] → one ≡ none ++ map as_asked (option_to_list (opened_value state.pending word))
    → two ≡ one ++ map as_asked (option_to_list (value_within (offered_match lists.options arguments word)))
    → all ≡ two ++ map as_asked (option_to_list (positional_value positional lists.value word))
    → all ≡ map as_asked (in_turn (values_of_word tree state word))
values_pushed tree state word arguments lists positional none one two all are is_lists is_positional start first second third =
    let opened = map as_asked (option_to_list (opened_value state.pending word)) in
    let within = map as_asked (option_to_list (value_within (offered_match lists.options arguments word))) in
    third
    ∙ ap (λ r. r ++ map as_asked (option_to_list (positional_value positional lists.value word)))
    (second ∙ ap (λ r. r ++ within) (first ∙ ap (λ r. r ++ opened) start))
    ∙ ap (λ argument. (([] ++ opened) ++ within) ++ map as_asked (option_to_list (positional_value argument lists.value word))) is_positional
    ∙ sym (in_parts (values_of_lists arguments state.position lists state.pending word))
    ∙ ap (λ (lists : OpenLists). map as_asked (in_turn (values_of_lists arguments state.position lists state.pending word))) is_lists
    ∙ ap (λ (arguments : List Arg). map as_asked (in_turn (values_of_lists arguments state.position
    (open_lists_by arguments state.position state.escaped state.pending) state.pending word))) are
