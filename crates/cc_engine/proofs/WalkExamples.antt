-- Examples of the destination of words, on small trees.
use Rattle.std.proofs.Common.{◌≡◌, ℕ, List, [], ◌∷◌, Some, codes, true, false, refl}
use Rattle.std.specs.Str.{chars}
use Rattle.cc_arg.specs.declared.parts.ArgParts.{ArgParts as Arg}
use Rattle.cc_arg.specs.Arguments.{exactly, new_arg}
use Rattle.cc_command.specs.Tree.{Tree}
use Rattle.cc_command.specs.Made.{new_tree, with_argument, with_child}
use Rattle.cc_engine.specs.declared.walking.state.Pending.{Pending}
use Rattle.cc_engine.specs.declared.walking.state.Pending.TheVariants.{OptionOpen, PositionMoved, Nothing, PositionalRun}
use Rattle.cc_engine.specs.Lookup.{allows_hyphens_at, capacity_at, positional_at}
use Rattle.cc_engine.specs.Machine.{NodeState}
use Rattle.cc_engine.specs.WordClasses.{class_of}
use Rattle.cc_engine.proofs.Whole.{walked}

abbrev with : Tree → Arg → Tree
with tree argument = record tree { node = with_argument tree.node argument }

abbrev option : List ℕ → Arg
option name = record (new_arg name) { long = Some name; display_order = Some 0 }

abbrev positional : ℕ → Arg
positional position = record (new_arg (codes "values")) { index = Some position }

abbrev node_state : Tree → ℕ → Pending → NodeState
node_state tree position pending = record { tree = tree; state = record { position = position; escaped = false; pending = pending } }

abbrev escaped_node_state : Tree → ℕ → Pending → NodeState
escaped_node_state tree position pending = record { tree = tree; state = record { position = position; escaped = true; pending = pending } }

-- `test`, with a visible and a hidden alias
abbrev test : Tree
test = let child = new_tree (codes "test") in record child { node = record child.node { visible_aliases = codes "t" ∷ []; aliases = codes "tst" ∷ []; display_order = Some 0 } }

abbrev app : Tree
app = with_child (new_tree (codes "app")) test

to_children :
    -- no words, and `--` alone
    (walked app [] ≡ node_state app 1 Nothing)
    × (walked app (codes "--" ∷ []) ≡ escaped_node_state app 1 Nothing)
    -- each name of a child leads to it, even after `--`
    × (walked app (codes "t" ∷ []) ≡ node_state test 1 Nothing)
    × (walked app (codes "tst" ∷ []) ≡ node_state test 1 Nothing)
    × (walked app (codes "--" ∷ codes "test" ∷ []) ≡ escaped_node_state test 1 Nothing)
unfolding class_of
to_children = (refl, refl, refl, refl, refl)

-- `--opt` with one value, and two positionals, the first of which accepts words with hyphens
abbrev opt : Arg
opt = option (codes "opt")

abbrev hyphens : Tree
hyphens = with (with (with (new_tree (codes "app")) opt) (record (positional 1) { allow_hyphen_values = true })) (positional 2)

hyphens_taken :
    (walked hyphens (codes "--opt" ∷ []) ≡ node_state hyphens 1 (OptionOpen opt 0))
    × (walked hyphens (codes "--opt" ∷ codes "-z" ∷ []) ≡ node_state hyphens 2 Nothing)
    × (walked hyphens (codes "--opt" ∷ codes "-" ∷ []) ≡ node_state hyphens 1 Nothing)
    × (walked hyphens (codes "--other" ∷ []) ≡ node_state hyphens 2 Nothing)
unfolding class_of chars capacity_at allows_hyphens_at positional_at
hyphens_taken = (refl, refl, refl, refl)

-- `-c`, `--color` with one value, and `-v`, `--verbose` (visible alias `loud`, hidden alias
-- `noisy`) without values
abbrev color : Arg
color = record (option (codes "color")) { short = Some 99 }

abbrev verbose : Arg
verbose = record (option (codes "verbose")) { short = Some 118; visible_aliases = codes "loud" ∷ []; aliases = codes "noisy" ∷ []; num_args = Some (exactly 0) }

abbrev colors : Tree
colors = with (with (new_tree (codes "app")) color) verbose

option_opened :
    (walked colors (codes "--color" ∷ []) ≡ node_state colors 1 (OptionOpen color 0))
    × (walked colors (codes "--color=auto" ∷ []) ≡ node_state colors 1 Nothing)
    × (walked colors (codes "-c=" ∷ []) ≡ node_state colors 1 Nothing)
    × (walked colors (codes "-vc" ∷ []) ≡ node_state colors 1 (OptionOpen color 0))
    -- the second `c` is the value of the first
    × (walked colors (codes "-cc" ∷ []) ≡ node_state colors 1 Nothing)
    × (walked colors (codes "-c" ∷ codes "auto" ∷ []) ≡ node_state colors 1 Nothing)
unfolding class_of chars lib.Utf8.encode
option_opened = (refl, refl, refl, refl, refl, refl)

-- a positional with two values, and one without values
abbrev two : Tree
two = with (with (new_tree (codes "app")) (record (positional 1) { num_args = Some (exactly 2) })) (record (positional 2) { num_args = Some (exactly 0) })

runs :
    (walked two (codes "a" ∷ []) ≡ node_state two 1 (PositionalRun 1))
    × (walked two (codes "a" ∷ codes "b" ∷ []) ≡ node_state two 2 Nothing)
    × (walked two (codes "a" ∷ codes "--" ∷ []) ≡ escaped_node_state two 1 Nothing)
    × (walked two (codes "--" ∷ codes "a" ∷ codes "b" ∷ []) ≡ escaped_node_state two 2 PositionMoved)
    × (walked two (codes "a" ∷ codes "b" ∷ codes "c" ∷ []) ≡ node_state two 3 Nothing)
unfolding class_of capacity_at positional_at
runs = (refl, refl, refl, refl, refl)

-- an option that accepts words with hyphens does not take `--`
abbrev greedy : Tree
greedy = with (new_tree (codes "app")) (record (option (codes "o")) { allow_hyphen_values = true })

greedy_options :
    (walked greedy (codes "--o" ∷ codes "--o" ∷ []) ≡ node_state greedy 1 Nothing)
    × (walked greedy (codes "--o" ∷ codes "--" ∷ []) ≡ escaped_node_state greedy 1 Nothing)
unfolding class_of
greedy_options = (refl, refl)
