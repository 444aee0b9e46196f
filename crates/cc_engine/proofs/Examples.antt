-- The candidates for a word, on small trees.
use Rattle.std.proofs.Common.{◌≡◌, ℕ, List, [], ◌∷◌, Some, codes, map, true, false, refl}
use Rattle.std.specs.Prelude.{⊤}
use Rattle.std.specs.Path.{path_file_name, path_join, split_last_component, trim_trailing}
use Rattle.std.specs.Str.{chars}
use Rattle.cc_arg.specs.declared.action.ArgAction.TheVariants.{SetTrue}
use Rattle.cc_arg.specs.declared.parts.ArgParts.{ArgParts as Arg}
use Rattle.cc_arg.specs.declared.value_hint.ValueHint.TheVariants.{FilePath}
use Rattle.cc_arg.specs.Arguments.{exactly, new_arg}
use Rattle.cc_arg.specs.PossibleValues.{new_possible_value}
use Rattle.cc_arg.specs.Printed.{printed, printed_after_name, printed_names, printed_values}
use Rattle.cc_base.specs.Sorting.{in_order, insert}
use Rattle.cc_candidates.specs.declared.candidate.CompletionCandidate.{CompletionCandidate}
use Rattle.cc_base.specs.declared.numbers.ArgValueCompleter.{ArgValueCompleter}
use Rattle.cc_candidates.specs.Candidate.{new_candidate}
use Rattle.cc_command.specs.Built.{built_tree}
use Rattle.cc_command.specs.Generated.{help_argument}
use Rattle.cc_command.specs.Made.{new_tree, with_argument, with_child}
use Rattle.cc_command.specs.Texts.{help_about, help_help, help_name}
use Rattle.cc_command.specs.Tree.{Tree}
use Rattle.cc_engine.specs.Children.{in_candidates_order, subcommand_candidates}
use Rattle.cc_engine.specs.Finished.{finish, group, shown_or_all}
use Rattle.cc_engine.specs.Numbers.{is_number}
use Rattle.cc_engine.specs.Options.{longs, shorts}
use Rattle.cc_engine.specs.OptionMatches.{match_of}
use Rattle.cc_candidates.specs.PathCandidates.{grouped_candidates, groups}
use Rattle.cc_candidates.specs.PathTexts.{word_prefix}
use Rattle.cc_engine.specs.Parts.{front_length}
use Rattle.cc_engine.specs.Values.{completer, gather, nothing, paths, question, sorted, values}
use Rattle.cc_engine.specs.Blocks.{start}
use Rattle.cc_engine.specs.Lookup.{allows_hyphens_at, capacity_at, positional_at}
use Rattle.cc_engine.specs.Machine.{NodeState, walk}
use Rattle.cc_engine.specs.WordClasses.{class_of}
use Rattle.cc_engine.specs.Completion.{Returned, Questions, candidates_for, is_in_range, questions, words_before}

-- what opens each definition
unfoldable definitions : ⊤
unfolding help_argument help_name help_about help_help subcommand_candidates in_candidates_order
    in_order insert finish shown_or_all group positional_at match_of longs shorts lib.Utf8.encode
    class_of capacity_at allows_hyphens_at chars values gather front_length printed printed_names
    printed_values printed_after_name question groups path_join path_file_name
    split_last_component trim_trailing word_prefix sorted is_number
definitions = tt

-- where these words lead from the root
abbrev node_state_after : Tree → List (List ℕ) → NodeState
node_state_after root words = walk (record { tree = root; state = start false }) words

-- the questions for the word after these words
abbrev questions_after : Tree → List (List ℕ) → List ℕ → Questions
questions_after root words word =
    questions (node_state_after root words).tree (node_state_after root words).state word

-- the values of the candidates for the word after these words, where these lists are returned
abbrev offered_after : Tree → List (List ℕ) → List ℕ → Returned → List (List ℕ)
offered_after root words word returned =
    map (λ c. c.value) (candidates_for (node_state_after root words).tree (node_state_after root words).state word returned)

abbrev no_lists : Returned
no_lists = record { children = []; positional = []; within = []; opened = [] }

abbrev with : Tree → Arg → Tree
with tree argument = record tree { node = with_argument tree.node argument }

abbrev without_help : Tree → Tree
without_help tree = record tree { node = record tree.node { disable_help_flag = true } }

abbrev option : List ℕ → Arg
option name = record (new_arg name) { long = Some name }

abbrev zeroth : ArgValueCompleter
zeroth = record { number = 0 }

-- `app` with a child `test` that is shown as `t` too
abbrev test : Tree
test =
    let returned = new_tree (codes "test") in
    record returned { node = record returned.node { visible_aliases = codes "t" ∷ [] } }

abbrev app : Tree
app = built_tree (with_child (new_tree (codes "app")) test)

-- THE INDEX

the_index :
    -- the program's name is not completed, unless the words begin without it. No word past the
    -- last is completed
    (is_in_range app.node 2 0 ≡ false)
    × (is_in_range app.node 1 1 ≡ false)
    × (is_in_range app.node 2 1 ≡ true)
    × (is_in_range (record app.node { no_binary_name = true }) 1 0 ≡ true)
    × (words_before app.node (codes "app" ∷ codes "--" ∷ codes "te" ∷ []) 2
    ≡ codes "--" ∷ [])
    × (words_before (record app.node { no_binary_name = true }) (codes "--" ∷ codes "te" ∷ []) 1
    ≡ codes "--" ∷ [])
unfolding definitions
the_index = (refl, refl, refl, refl, refl, refl)

-- CHILDREN

children :
    -- the first name of each child by the candidates' order, then the help flag
    (offered_after app [] [] no_lists ≡ codes "t" ∷ codes "help" ∷ codes "--help" ∷ [])
    -- after `--` no option
    × (offered_after app (codes "--" ∷ []) [] no_lists ≡ codes "t" ∷ codes "help" ∷ [])
    -- at a child without children that `--` precedes, nothing
    × (offered_after app (codes "--" ∷ codes "test" ∷ []) [] no_lists ≡ [])
unfolding definitions
children = (refl, refl, refl)

-- A POSITIONAL

-- `app` with an option `--opt`, a positional that takes words with hyphens, and one that is `x` or
-- `y`
abbrev hyphens : Tree
hyphens = built_tree (with (with (with (new_tree (codes "app")) (option (codes "opt")))
    (record (new_arg (codes "first")) { allow_hyphen_values = true }))
    (record (new_arg (codes "second")) {
      possible_values = Some (new_possible_value (codes "x") ∷ new_possible_value (codes "y") ∷ []);
    }))

-- the word that leaves the option is the first positional's value
second_positional : offered_after hyphens (codes "--opt" ∷ codes "-z" ∷ []) [] no_lists
    ≡ codes "x" ∷ codes "y" ∷ codes "--opt" ∷ codes "--help" ∷ []
unfolding definitions
second_positional = refl

-- `app` with a positional of the completer 0 and no flag
abbrev completed : Arg → Tree
completed argument =
    built_tree (without_help (with (new_tree (codes "app")) (record argument { completer = Some zeroth })))

abbrev pair : Arg
pair = record (new_arg (codes "pair")) { num_args = Some (exactly 2) }

abbrev kinds : Arg
kinds = record (new_arg (codes "kinds")) { value_delimiter = Some 44; completer = Some zeroth }

second_of_two :
    -- the second of two values has the number 1
    ((questions_after (completed pair) (codes "a" ∷ []) []).positional ≡ completer 0 1 [])
    -- only what follows the last delimiter is completed
    × ((questions_after (completed kinds) [] (codes "a,b,c")).positional
    ≡ completer 0 0 (codes "c"))
    -- and is after the parts before it
    × (map (λ c. c.value) (values kinds (codes "a,b,c") (new_candidate (codes "cc") ∷ []))
    ≡ codes "a,b,cc" ∷ [])
unfolding definitions
second_of_two = (refl, refl, refl)

-- `app` with a positional that is a file's path, and no flag
abbrev files : Tree
files = built_tree (without_help (with (new_tree (codes "app"))
    (record (new_arg (codes "file")) { value_hint = FilePath })))

-- a hint of files wants paths
file_path : (questions_after files [] (codes "sr")).positional ≡ paths FilePath (codes "sr")
unfolding definitions
file_path = refl

-- the folder holds `.git` and `src`, which are folders, and `a.txt`
abbrev folder_paths : List CompletionCandidate
folder_paths = grouped_candidates [] false
    (record { name = codes ".git"; is_folder = true; passes = false }
    ∷ record { name = codes "a.txt"; is_folder = false; passes = true }
    ∷ record { name = codes "src"; is_folder = true; passes = false } ∷ [])

offered_paths :
    -- what is found there: a file, then the folders, of which one is hidden
    (map (λ c. c.value) folder_paths
    ≡ codes "a.txt" ∷ codes ".git/" ∷ codes "src/" ∷ [])
    -- of these paths the visible ones
    × (offered_after files [] [] (record no_lists { positional = folder_paths })
    ≡ codes "a.txt" ∷ codes "src/" ∷ [])
unfolding definitions
offered_paths = (refl, refl)

-- AN OPEN OPTION

abbrev auto : CompletionCandidate
auto = record (new_candidate (codes "auto")) {
  id = Some (codes "arg::col");
  tag = Some (codes "Auto");
}

-- `app` with an option `--col` of at most one value, of the completer 0, and an option `--port` under
-- a heading of its own
abbrev options : Tree
options = built_tree (with (with (new_tree (codes "app"))
    (record (option (codes "col")) {
      num_args = Some (record { least = 0; greatest = 1 });
      completer = Some zeroth;
    }))
    (record (option (codes "port")) { help_heading = Some (codes "Net") }))

open_option :
    ((questions_after options (codes "--col" ∷ []) []).opened ≡ completer 0 0 [])
    -- the value has the id of `--col`, which goes only after the others are finished
    × (offered_after options (codes "--col" ∷ []) [] (record no_lists { opened = auto ∷ [] })
    ≡ codes "auto" ∷ codes "--help" ∷ codes "--port" ∷ [])
unfolding definitions
open_option = (refl, refl)

-- WITHIN A WORD

-- `app` with an option `-1`, `--color` and a positional that takes words with hyphens, each of the
-- completer 0
abbrev colors : Tree
colors = built_tree (without_help (with (with (new_tree (codes "app"))
    (record (option (codes "color")) { short = Some 49; completer = Some zeroth }))
    (record (new_arg (codes "count")) { allow_hyphen_values = true; completer = Some zeroth })))

within_a_word :
    -- the value of a long is its first
    ((questions_after colors [] (codes "--color=a")).within ≡ completer 0 0 (codes "a"))
    -- and its candidates are after the long
    × (offered_after colors [] (codes "--color=a")
    (record no_lists { within = new_candidate (codes "auto") ∷ [] })
    ≡ codes "--color=auto" ∷ [])
    -- a number wants nothing of the options, also where its first digit is a short that takes values
    × ((questions_after colors [] (codes "-15")).within ≡ nothing)
    -- it is the positional's
    × ((questions_after colors [] (codes "-15")).positional ≡ completer 0 0 (codes "-15"))
unfolding definitions
within_a_word = (refl, refl, refl, refl)

-- OPTIONS

-- `app` with a flag `-v`, `--verbose` that is `--loud` too and, hidden, `--noisy`, and with an
-- option `-c`, `--color` of one value, which is `auto` or, hidden, `never`
abbrev colored : Tree
colored = built_tree (with (with (new_tree (codes "app"))
    (record (option (codes "color")) {
      short = Some 99;
      num_args = Some (exactly 1);
      possible_values = Some (new_possible_value (codes "auto")
          ∷ record (new_possible_value (codes "never")) { hide = true } ∷ []);
    }))
    (record (option (codes "verbose")) {
      short = Some 118;
      visible_aliases = codes "loud" ∷ [];
      aliases = codes "noisy" ∷ [];
      action = Some SetTrue;
    }))

options_and_values :
    -- of an argument's names the first
    (offered_after colored [] [] no_lists
    ≡ codes "--color" ∷ codes "--verbose" ∷ codes "--help" ∷ [])
    -- the shorts come first after a dash
    × (offered_after colored [] (codes "-") no_lists
    ≡ codes "-c" ∷ codes "-v" ∷ codes "-h" ∷ [])
    -- a hidden alias where nothing else begins so
    × (offered_after colored [] (codes "--no") no_lists ≡ codes "--noisy" ∷ [])
    -- of the values of a long the visible one
    × (offered_after colored [] (codes "--color=") no_lists
    ≡ codes "--color=auto" ∷ [])
    -- the hidden one where no visible one begins so
    × (offered_after colored [] (codes "--color=n") no_lists ≡ codes "--color=never" ∷ [])
    -- the values of a short after another
    × (offered_after colored [] (codes "-vc=a") no_lists ≡ codes "-vc=auto" ∷ [])
    -- an option that needs a value leaves nothing but its values
    × (offered_after colored (codes "--color" ∷ []) [] no_lists ≡ codes "auto" ∷ [])
    -- a `=` closes the option
    × (offered_after colored (codes "-c=" ∷ []) [] no_lists
    ≡ codes "--color" ∷ codes "--verbose" ∷ codes "--help" ∷ [])
    -- nothing begins with a number
    × (offered_after colored [] (codes "-1") no_lists ≡ [])
    × (offered_after colored [] (codes "-5e3") no_lists ≡ [])
unfolding definitions
options_and_values = (refl, refl, refl, refl, refl, refl, refl, refl, refl, refl)

-- ODD WORDS

-- `app` with a child `test` that has a hidden alias `tst` and a flag `--deep`
abbrev deep : Tree
deep =
    let child = with (new_tree (codes "test")) (record (option (codes "deep")) { action = Some SetTrue }) in
    built_tree (with_child (new_tree (codes "app"))
    (record child { node = record child.node { aliases = codes "tst" ∷ [] } }))

below_names :
    -- a hidden alias leads down
    (offered_after deep (codes "tst" ∷ []) [] no_lists
    ≡ codes "--deep" ∷ codes "--help" ∷ [])
    -- so does a name after `--`, because no option can follow
    × (offered_after deep (codes "--" ∷ codes "test" ∷ []) [] no_lists ≡ [])
    -- `-` is the option's value, so the first positional is next, which has no values to offer
    × (offered_after hyphens (codes "--opt" ∷ codes "-" ∷ []) [] no_lists
    ≡ codes "--opt" ∷ codes "--help" ∷ [])
unfolding definitions
below_names = (refl, refl, refl)
