-- The argument that a word asks for, on small trees.
use Rattle.std.proofs.Common.{◌≡◌, ℕ, List, [], ◌∷◌, Option, Some, None, codes, map, false, true, refl}
use Rattle.std.specs.Prelude.{⊤}
use Rattle.std.specs.Option.{option_map}
use Rattle.std.specs.Str.{chars}
use Rattle.cc_arg.specs.declared.action.ArgAction.TheVariants.{SetTrue}
use Rattle.cc_arg.specs.declared.parts.ArgParts.{ArgParts as Arg}
use Rattle.cc_arg.specs.declared.value_hint.ValueHint.TheVariants.{Username}
use Rattle.cc_arg.specs.declared.value_source.SourceValues.TheVariants.{Listed}
use Rattle.cc_arg.specs.Arguments.{exactly, new_arg}
use Rattle.cc_arg.specs.PossibleValues.{new_possible_value}
use Rattle.cc_command.specs.Built.{built_tree}
use Rattle.cc_command.specs.Generated.{help_argument}
use Rattle.cc_command.specs.Made.{new_tree, with_argument, with_child}
use Rattle.cc_command.specs.Texts.{help_about, help_help, help_name}
use Rattle.cc_command.specs.Tree.{Tree}
use Rattle.cc_command.specs.ValueLists.{listed_tree}
use Rattle.cc_engine.specs.Numbers.{is_number}
use Rattle.cc_engine.specs.Options.{longs, shorts}
use Rattle.cc_engine.specs.OptionMatches.{match_of}
use Rattle.cc_engine.specs.Values.{candidates, nothing, question}
use Rattle.cc_engine.specs.Blocks.{start}
use Rattle.cc_engine.specs.Lookup.{allows_hyphens_at, capacity_at, positional_at}
use Rattle.cc_engine.specs.Machine.{NodeState, walk}
use Rattle.cc_engine.specs.WordClasses.{class_of}
use Rattle.cc_engine.specs.Asked.{arguments_of_word, as_asked, asked_argument, in_turn, values_of_word}
use Rattle.cc_engine.specs.declared.questions.AskedValue.{AskedValue}
use Rattle.cc_engine.specs.Parts.{front_length}
use Rattle.cc_engine.specs.Completion.{Questions, questions}

-- what opens each definition
unfoldable definitions : ⊤
unfolding help_argument help_name help_about help_help positional_at match_of longs shorts
    lib.Utf8.encode class_of capacity_at allows_hyphens_at chars is_number
definitions = tt

-- where these words lead from the root
abbrev node_state_after : Tree → List (List ℕ) → NodeState
node_state_after root words = walk (record { tree = root; state = start false }) words

-- the ids of the arguments that the word can ask for after these words
abbrev possible_after : Tree → List (List ℕ) → List ℕ → List (List ℕ)
possible_after root words word =
    map (λ argument. argument.id) (arguments_of_word (node_state_after root words).tree (node_state_after root words).state word)

-- the id of the argument that the word asks for there
abbrev asked_after : Tree → List (List ℕ) → List ℕ → Option (List ℕ)
asked_after root words word =
    option_map (λ argument. argument.id) (asked_argument (node_state_after root words).tree (node_state_after root words).state word)

abbrev with : Tree → Arg → Tree
with tree argument = record tree { node = with_argument tree.node argument }

abbrev option : List ℕ → Arg
option name = record (new_arg name) { long = Some name }

-- the same argument, whose values are what `git branch` prints
abbrev of_branches : Arg → Arg
of_branches argument = record argument { values_from = Some (codes "git" ∷ codes "branch" ∷ []) }

-- `app` with an option `-o`, `--onto` of a branch, an option `--user` of one user or none, an option
-- `--date`, a flag `-v`, and the positionals `from`, a branch, and `to`, of which there are two
abbrev described : Tree
described = with (with (with (with (with (with (new_tree (codes "app"))
    (of_branches (record (option (codes "onto")) { short = Some 111 })))
    (record (option (codes "user")) {
      num_args = Some (record { least = 0; greatest = 1 });
      value_hint = Username;
    }))
    (option (codes "date")))
    (record (new_arg (codes "verbose")) { short = Some 118; action = Some SetTrue }))
    (of_branches (new_arg (codes "from"))))
    (record (of_branches (new_arg (codes "to"))) { num_args = Some (exactly 2) })

abbrev app : Tree
app = built_tree described

open_option :
    -- the word asks for an option that needs a value, and for nothing else
    (asked_after app (codes "--onto" ∷ []) [] ≡ Some (codes "onto"))
    × (possible_after app (codes "--onto" ∷ []) [] ≡ codes "onto" ∷ [])
    -- one that has enough values goes before the positional
    × (asked_after app (codes "--user" ∷ []) [] ≡ Some (codes "user"))
    × (possible_after app (codes "--user" ∷ []) [] ≡ codes "user" ∷ codes "from" ∷ [])
    -- if the open option has no source and needs a value, the word asks for nothing
    × (asked_after app (codes "--date" ∷ []) [] ≡ None)
unfolding definitions
open_option = (refl, refl, refl, refl, refl)

within_a_word :
    -- after the `=` of a long, instead of the positional
    (asked_after app [] (codes "--onto=m") ≡ Some (codes "onto"))
    × (possible_after app [] (codes "--onto=m") ≡ codes "onto" ∷ [])
    -- after a short, also one that follows a flag
    × (asked_after app [] (codes "-om") ≡ Some (codes "onto"))
    × (asked_after app [] (codes "-vo=m") ≡ Some (codes "onto"))
    -- also after an option that has enough values
    × (possible_after app (codes "--user" ∷ []) (codes "--onto=m") ≡ codes "onto" ∷ [])
    -- if the option within the word has no source, the word asks for nothing
    × (possible_after app [] (codes "--date=m") ≡ codes "date" ∷ [])
    × (asked_after app [] (codes "--date=m") ≡ None)
    -- after `--` the word is no option, and it begins with `-`
    × (possible_after app (codes "--" ∷ []) (codes "--onto=m") ≡ [])
unfolding definitions
within_a_word = (refl, refl, refl, refl, refl, refl, refl, refl)

-- `app` with an option and a positional of a branch that accept words with a hyphen
abbrev with_hyphens : Tree
with_hyphens = built_tree (with (with (new_tree (codes "app"))
    (of_branches (record (option (codes "onto")) { allow_hyphen_values = true })))
    (of_branches (record (new_arg (codes "from")) { allow_hyphen_values = true; value_delimiter = Some 44 })))

a_word_with_a_hyphen :
    -- it asks for no positional
    (asked_after app [] (codes "-") ≡ None)
    × (asked_after app [] (codes "--") ≡ None)
    × (asked_after app [] (codes "--on") ≡ None)
    × (asked_after app [] (codes "-v") ≡ None)
    × (asked_after app (codes "--" ∷ []) (codes "-m") ≡ None)
    × (possible_after app [] (codes "--on") ≡ [])
    -- and for no open option
    × (asked_after app (codes "--onto" ∷ []) (codes "-m") ≡ None)
    × (possible_after app (codes "--user" ∷ []) (codes "--on") ≡ [])
    -- even if they accept such words
    × (asked_after with_hyphens [] (codes "-m") ≡ None)
    × (asked_after with_hyphens (codes "--onto" ∷ []) (codes "-m") ≡ None)
    -- also after a delimiter
    × (asked_after with_hyphens [] (codes "-x,m") ≡ None)
    -- a hyphen further on is a character like another
    × (asked_after app [] (codes "m-") ≡ Some (codes "from"))
    × (asked_after with_hyphens [] (codes "x,-m") ≡ Some (codes "from"))
unfolding definitions
a_word_with_a_hyphen = (refl, refl, refl, refl, refl, refl, refl, refl, refl, refl, refl, refl, refl)

positional :
    (asked_after app [] (codes "m") ≡ Some (codes "from"))
    -- the second one
    × (asked_after app (codes "m" ∷ []) [] ≡ Some (codes "to"))
    -- its second value
    × (asked_after app (codes "m" ∷ codes "n" ∷ []) [] ≡ Some (codes "to"))
    -- there is no third one
    × (asked_after app (codes "m" ∷ codes "n" ∷ codes "o" ∷ []) [] ≡ None)
    × (possible_after app (codes "m" ∷ codes "n" ∷ codes "o" ∷ []) [] ≡ [])
unfolding definitions
positional = (refl, refl, refl, refl, refl)

-- `app` with an option `--branch`, and with a positional of the same source that has a list of its
-- own, or possible values
abbrev app_with : Arg → Tree
app_with first = built_tree (with (with (new_tree (codes "app")) (of_branches (option (codes "branch")))) first)

own_values :
    -- they go before the source
    (asked_after (app_with (of_branches (record (new_arg (codes "first")) {
      candidates = Some (record { number = 0 });
    }))) [] [] ≡ None)
    × (asked_after (app_with (of_branches (record (new_arg (codes "first")) {
      possible_values = Some (new_possible_value (codes "x") ∷ []);
    }))) [] [] ≡ None)
    -- no source at all
    × (asked_after (app_with (new_arg (codes "first"))) [] [] ≡ None)
unfolding definitions
own_values = (refl, refl, refl)

-- `app` with a child `push` of a branch, where `--all` is a global option of a branch
abbrev nested : Tree
nested = built_tree (with (with_child (new_tree (codes "app")) (with (new_tree (codes "push")) (of_branches (new_arg (codes "target")))))
    (of_branches (record (option (codes "all")) { global = true })))

at_a_child :
    (asked_after nested (codes "push" ∷ []) [] ≡ Some (codes "target"))
    -- the root has none
    × (asked_after nested [] [] ≡ None)
    -- the child has the global option
    × (asked_after nested (codes "push" ∷ codes "--all" ∷ []) [] ≡ Some (codes "all"))
unfolding definitions
at_a_child = (refl, refl, refl)

-- THE VALUES

-- the values that the word after these words is asked for
abbrev values_after : Tree → List (List ℕ) → List ℕ → List AskedValue
values_after root words word =
    map as_asked (in_turn (values_of_word (node_state_after root words).tree (node_state_after root words).state word))

abbrev asked : List ℕ → ℕ → List ℕ → AskedValue
asked id number text = record { id = id; number = number; text = text }

values_in_turn :
    -- the open option goes first, then the positional
    (values_after app (codes "--user" ∷ []) (codes "m") ≡ asked (codes "user") 0 (codes "m") ∷ asked (codes "from") 0 (codes "m") ∷ [])
    -- an option without a source is asked, too
    × (values_after app (codes "--date" ∷ []) (codes "n") ≡ asked (codes "date") 0 (codes "n") ∷ [])
    -- within a word, the value begins after the `=`, or after the short
    × (values_after app [] (codes "--onto=m") ≡ asked (codes "onto") 0 (codes "m") ∷ asked (codes "from") 0 (codes "--onto=m") ∷ [])
    × (values_after app [] (codes "-vo=m") ≡ asked (codes "onto") 0 (codes "m") ∷ asked (codes "from") 0 (codes "-vo=m") ∷ [])
    × (values_after app [] (codes "-vom") ≡ asked (codes "onto") 0 (codes "m") ∷ asked (codes "from") 0 (codes "-vom") ∷ [])
    -- the second value of the positional
    × (values_after app (codes "m" ∷ codes "n" ∷ []) [] ≡ asked (codes "to") 1 [] ∷ [])
    -- the text begins after the delimiter
    × (values_after with_hyphens [] (codes "x,m") ≡ asked (codes "from") 0 (codes "m") ∷ [])
    -- there is no third value
    × (values_after app (codes "m" ∷ codes "n" ∷ codes "o" ∷ []) [] ≡ [])
unfolding definitions front_length
values_in_turn = (refl, refl, refl, refl, refl, refl, refl, refl)

-- THE LIST AT THE ARGUMENTS OF THE SOURCE

-- the questions for the word after these words, if the arguments of the source of `asked` have the
-- list 5
abbrev questions_listed : Arg → List (List ℕ) → List ℕ → Questions
questions_listed asked words word =
    let there = node_state_after (built_tree (listed_tree asked (Listed (record { number = 5 })) described)) words in
    questions there.tree there.state word

abbrev branches : Arg
branches = of_branches (new_arg (codes "any"))

abbrev users : Arg
users = record (new_arg (codes "any")) { value_hint = Username }

list_wanted :
    -- for the open option
    ((questions_listed branches (codes "--onto" ∷ []) []).opened ≡ candidates 5)
    -- for the value within the word, and for the positional of the same source
    × ((questions_listed branches [] (codes "--onto=m")).within ≡ candidates 5)
    × ((questions_listed branches [] (codes "--onto=m")).positional ≡ candidates 5)
    × ((questions_listed branches (codes "m" ∷ codes "n" ∷ []) []).positional ≡ candidates 5)
    -- not for an argument of another source
    × ((questions_listed users (codes "--user" ∷ []) []).opened ≡ candidates 5)
    × ((questions_listed users (codes "--user" ∷ []) []).positional ≡ nothing)
    × ((questions_listed branches (codes "--user" ∷ []) []).opened ≡ nothing)
unfolding definitions question
list_wanted = (refl, refl, refl, refl, refl, refl, refl)
