-- The completions that the parser accepts.
use Rattle.std.specs.Prelude.{◌≡◌, ℕ, List, [], ◌∷◌, ◌++◌, ◌&&◌, ◌||◌, ◌==◌, Bool, true, false, not, if◌then◌else◌, Option, is_some, find, option_map, IfSome, codes}
use Rattle.std.specs.List.{list_all, list_any, AllByRecursion}
use Rattle.std.specs.Option.{option_map_or}
use Rattle.std.specs.Str.{bytes_eq}
use Rattle.cc_arg.specs.declared.parts.ArgParts.{ArgParts as Arg}
use Rattle.cc_arg.specs.ShownNames.{shown_longs, shown_shorts}
use Rattle.cc_arg.specs.Arguments.{is_positional, possible_values}
use Rattle.cc_command.specs.declared.node.Node.{Node}
use Rattle.cc_command.specs.Names.{visible_names}
use Rattle.cc_command.specs.Tree.{Forest, none, more, has_nodes, Tree}
use Rattle.clap.specs.Walk.{Rule, answers_to, arg_by_long, arg_by_short, is_empty}
use Rattle.clap.specs.Simple.{App, built, names_of}
use Rattle.clap.specs.Takes.{value_passes}
use Rattle.cc_parser.specs.Parsers.{has_generated, kept}

-- the argument is not a positional, and the text is its long or an alias of it, visible or hidden
abbrev pub answers_long : List ℕ → Arg → Bool
answers_long name arg = not (is_some arg.index)
    && (option_map_or (λ s. bytes_eq s name) arg.long false
    || list_any (λ alias. bytes_eq alias name) (arg.visible_aliases ++ arg.aliases))

-- the same for a short
abbrev pub answers_short : ℕ → Arg → Bool
answers_short c arg = not (is_some arg.index) && (option_map_or (λ s. s == c) arg.short false
    || list_any (λ alias. alias == c) (arg.visible_short_aliases ++ arg.short_aliases))

-- the id of the first argument with the long
abbrev pub id_of_long : List ℕ → List Arg → Option (List ℕ)
id_of_long name args = option_map (λ arg. arg.id) (find (answers_long name) args)

abbrev pub id_of_short : ℕ → List Arg → Option (List ℕ)
id_of_short c args = option_map (λ arg. arg.id) (find (answers_short c) args)

-- the id of the argument that the parser, once built, finds by the long
abbrev pub parsed_long : App → List ℕ → Option (List ℕ)
parsed_long app name = option_map (λ rule. rule.id) (arg_by_long (built app).top.rules name)

abbrev pub parsed_short : App → ℕ → Option (List ℕ)
parsed_short app c = option_map (λ rule. rule.id) (arg_by_short (built app).top.rules c)

-- ---- trees that fit their parser

-- a positional has an index and no alias of a long; any other argument has no index
abbrev pub has_index_or_name : Arg → Bool
has_index_or_name arg =
    if is_positional arg then is_some arg.index && is_empty arg.aliases
    else not (is_some arg.index)

-- a node that `build` added has only the name `help`
abbrev pub is_help_if_generated : Node → Bool
is_help_if_generated node = not node.generated || (bytes_eq node.name (codes "help")
    && (is_empty node.visible_aliases && is_empty node.aliases))

abbrev pub are_help_if_generated : Forest → Bool
are_help_if_generated none = true
are_help_if_generated (more node below rest) =
    is_help_if_generated node && are_help_if_generated rest

-- the siblings that `build` added are a `help` next to other commands
abbrev pub has_help_beside_others : Forest → Bool
has_help_beside_others children = are_help_if_generated children
    && (not (has_generated children) || has_nodes (kept false children))

-- This holds for a tree that was built if its options and flags have no index, and its positionals
-- no aliases.
abbrev pub fits_parser : Tree → Bool
fits_parser tree =
    list_all has_index_or_name tree.node.arguments && has_help_beside_others tree.children

-- ---- what the parser accepts

-- the parser has an argument with this long
abbrev pub KnowsLong : App → List ℕ → Type 0
KnowsLong app name = is_some (parsed_long app name) ≡ true

abbrev pub KnowsShort : App → ℕ → Type 0
KnowsShort app c = is_some (parsed_short app c) ≡ true

-- the parser has an argument for each long and short that completion offers for this one
abbrev pub TakesNames : App → Arg → Type 0
TakesNames app arg = AllByRecursion (KnowsLong app) (shown_longs arg ++ arg.aliases)
    × AllByRecursion (KnowsShort app) (shown_shorts arg)

-- the parser has a child with this name
abbrev pub KnowsChild : App → List ℕ → Type 0
KnowsChild app word = list_any (answers_to word) (names_of (built app)) ≡ true

-- the parser has a child for each name of each sibling, visible or hidden
abbrev pub TakesSiblings : App → Forest → Type 0
TakesSiblings app none = Unit {0}
TakesSiblings app (more node below rest) =
    AllByRecursion (KnowsChild app) (visible_names node ++ node.aliases) × TakesSiblings app rest

-- each possible value passes the parser of the values
abbrev pub TakesValues : Arg → Rule → Type 0
TakesValues arg rule = IfSome (possible_values arg)
    (AllByRecursion (λ value. value_passes rule value.name ≡ true))

abbrev pub TakesAllValues : List Arg → List Rule → Type 0
TakesAllValues [] [] = Unit {0}
TakesAllValues (arg ∷ args) (rule ∷ rules) = TakesValues arg rule × TakesAllValues args rules
TakesAllValues _ _ = ⊥

-- The parser accepts what completion offers for the root. By a long or a short, the parser finds
-- the first argument of the tree that has it, or none. It finds one for each long, short and alias
-- that is offered, and a child for each name. Each possible value passes the rule of its argument.
pub record TakesOffered (tree : Tree) (app : App) : Type 0 where
  pub longs : (name : List ℕ) → parsed_long app name ≡ id_of_long name tree.node.arguments
  pub shorts : (c : ℕ) → parsed_short app c ≡ id_of_short c tree.node.arguments
  pub names : AllByRecursion (TakesNames app) tree.node.arguments
  pub children : TakesSiblings app tree.children
  pub values : TakesAllValues tree.node.arguments (built app).top.rules
