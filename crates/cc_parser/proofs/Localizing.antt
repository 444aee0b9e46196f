-- Trees whose arguments are no longer global.
use Rattle.std.proofs.Common.{◌≡◌, ◌∙◌, ℕ, Bool, true, false, not, cond, ◌||◌, ◌&&◌, List, [], ◌∷◌, ◌++◌, refl, ap, ap₂}
use Rattle.std.specs.List.{AllByRecursion, list_all}
use Rattle.std.proofs.lemmas.List.{map-append}
use Rattle.cc_arg.specs.declared.parts.ArgParts.{ArgParts as Arg}
use Rattle.cc_command.specs.declared.node.Node.{Node}
use Rattle.cc_command.specs.Tree.{Forest, none, more, join, has_nodes, Tree}
use Rattle.clap.specs.Simple.{App, built}
use Rattle.clap.specs.Walk.{Rule}
use Rattle.cc_parser.specs.Local.{local_argument, local_arguments, local_forest, local_node, local_tree}
use Rattle.cc_parser.specs.Parsers.{IsAppOf, any_global, globals_in, has_generated, has_globals, is_disabled_below, is_left_out, kept, named_app}
use Rattle.cc_parser.specs.Taken.{TakesAllValues, TakesNames, TakesOffered, TakesSiblings, answers_long, answers_short, are_help_if_generated, fits_parser, has_index_or_name, id_of_long, id_of_short, is_help_if_generated}
use Rattle.cc_parser.proofs.Taking.{find_both, takes_tree}

pub local_arguments-more : (local : Bool) (arguments : List Arg) (argument : Arg)
    → local_arguments local (arguments ++ argument ∷ []) ≡ local_arguments local arguments ++ local_argument local argument ∷ []
local_arguments-more local arguments argument = map-append (local_argument local) arguments (argument ∷ [])

pub local_forest-join : (local : Bool) (f g : Forest) → local_forest local (join f g) ≡ join (local_forest local f) (local_forest local g)
local_forest-join local none g = refl
local_forest-join local (more node below rest) g = ap (more (local_node local node) (local_forest local below)) (local_forest-join local rest g)

pub has_generated-local : (local : Bool) (f : Forest) → has_generated (local_forest local f) ≡ has_generated f
has_generated-local local none = refl
has_generated-local local (more node below rest) = ap (λ b. node.generated || b) (has_generated-local local rest)

pub named_app-local : (local : Bool) (node : Node) (below : Forest) → named_app (local_node local node) (local_forest local below) ≡ named_app node below
named_app-local local node below = rw (has_generated-local local below)

-- ---- if all are local, none is global

any_global-local : (arguments : List Arg) → any_global (local_arguments true arguments) ≡ false
any_global-local [] = refl
any_global-local (a ∷ arguments) = any_global-local arguments

none_of : (a b c : Bool) → a ≡ false → b ≡ false → c ≡ false → ((a || b) || c) ≡ false
none_of a b c p q r = ap₂ (λ x y. x || y) (ap₂ (λ x y. x || y) p q) r

globals_in-local : (above here : Bool) (f : Forest) → globals_in above here (local_forest true f) ≡ false
globals_in-local above here none = refl
globals_in-local above here (more node below rest) =
    let deep : Forest = local_forest true below in
    let later : Forest = local_forest true rest in
    elim (is_left_out above node) as (λ b. cond b (globals_in above here later)
    ((any_global (local_arguments true node.arguments) || globals_in here (is_disabled_below here deep) deep) || globals_in above here later) ≡ false) [
      | true ↦ globals_in-local above here rest
      | false ↦ none_of (any_global (local_arguments true node.arguments)) (globals_in here (is_disabled_below here deep) deep)
          (globals_in above here later) (any_global-local node.arguments) (globals_in-local here (is_disabled_below here deep) below) (globals_in-local above here rest)
    ]

pub has_globals-local : (tree : Tree) → has_globals (local_tree true tree) ≡ false
has_globals-local tree =
    let children : Forest = local_forest true tree.children in
    ap₂ (λ a b. a || b) (any_global-local tree.node.arguments)
    (globals_in-local false (is_disabled_below false children) tree.children)

-- ---- if none is to be local, the tree is the same

same_arguments : (arguments : List Arg) → local_arguments false arguments ≡ arguments
same_arguments [] = refl
same_arguments (a ∷ arguments) = ap (λ later. a ∷ later) (same_arguments arguments)

same_forest : (f : Forest) → local_forest false f ≡ f
same_forest none = refl
same_forest (more node below rest) = λ i. more (record node { arguments = same_arguments node.arguments i }) (same_forest below i) (same_forest rest i)

pub same_tree : (tree : Tree) → local_tree false tree ≡ tree
same_tree tree = λ i. record {
  node = record tree.node { arguments = same_arguments tree.node.arguments i };
  children = same_forest tree.children i;
}

-- ---- what is offered does not depend on it

module _ (local : Bool) where
  same_long_id : (name : List ℕ) (arguments : List Arg) → id_of_long name (local_arguments local arguments) ≡ id_of_long name arguments
  same_long_id name [] = refl
  same_long_id name (a ∷ arguments) =
      find_both (answers_long name) (answers_long name) (λ a. a.id) (λ a. a.id) (local_argument local a) a (local_arguments local arguments) arguments
      refl refl (same_long_id name arguments)

  same_short_id : (c : ℕ) (arguments : List Arg) → id_of_short c (local_arguments local arguments) ≡ id_of_short c arguments
  same_short_id c [] = refl
  same_short_id c (a ∷ arguments) =
      find_both (answers_short c) (answers_short c) (λ a. a.id) (λ a. a.id) (local_argument local a) a (local_arguments local arguments) arguments
      refl refl (same_short_id c arguments)

  same_names : (app : App) (arguments : List Arg) → AllByRecursion (TakesNames app) (local_arguments local arguments) → AllByRecursion (TakesNames app) arguments
  same_names app [] h = tt
  same_names app (a ∷ arguments) h = (h.0, same_names app arguments h.1)

  same_siblings : (app : App) (f : Forest) → TakesSiblings app (local_forest local f) → TakesSiblings app f
  same_siblings app none h = tt
  same_siblings app (more node below rest) h = (h.0, same_siblings app rest h.1)

  same_values : (arguments : List Arg) (rules : List Rule) → TakesAllValues (local_arguments local arguments) rules → TakesAllValues arguments rules
  same_values [] [] h = tt
  same_values (a ∷ arguments) (r ∷ rules) h = (h.0, same_values arguments rules h.1)
  same_values [] (r ∷ rules) h = absurd h
  same_values (a ∷ arguments) [] h = absurd h

  same_tidy : (arguments : List Arg) → list_all has_index_or_name (local_arguments local arguments) ≡ list_all has_index_or_name arguments
  same_tidy [] = refl
  same_tidy (a ∷ arguments) = ap (λ b. has_index_or_name a && b) (same_tidy arguments)

  same_help : (f : Forest) → are_help_if_generated (local_forest local f) ≡ are_help_if_generated f
  same_help none = refl
  same_help (more node below rest) = ap (λ b. is_help_if_generated node && b) (same_help rest)

  same_kept : (f : Forest) → has_nodes (kept false (local_forest local f)) ≡ has_nodes (kept false f)
  same_kept none = refl
  same_kept (more node below rest) =
      elim (is_left_out false node) as (λ b. has_nodes (cond b (kept false (local_forest local rest))
      (more (local_node local node) (local_forest local below) (kept false (local_forest local rest))))
      ≡ has_nodes (cond b (kept false rest) (more node below (kept false rest)))) [
        | true ↦ same_kept rest
        | false ↦ refl
      ]

  same_fit : (tree : Tree) → fits_parser (local_tree local tree) ≡ fits_parser tree
  same_fit tree =
      ap₂ (λ a b. a && b) (same_tidy tree.node.arguments)
      (ap₂ (λ a b. a && b) (same_help tree.children)
      (ap₂ (λ a b. not a || b) (has_generated-local local tree.children) (same_kept tree.children)))

  pub takes_local : (tree : Tree) (app : App) → IsAppOf (local_tree local tree) app → fits_parser tree ≡ true → TakesOffered tree app
  takes_local tree app is fits =
      let takes = takes_tree (local_tree local tree) app is (same_fit tree ∙ fits) in record {
        longs = λ name. takes.longs name ∙ same_long_id name tree.node.arguments;
        shorts = λ c. takes.shorts c ∙ same_short_id c tree.node.arguments;
        names = same_names app tree.node.arguments takes.names;
        children = same_siblings app tree.children takes.children;
        values = same_values tree.node.arguments (built app).top.rules takes.values;
      }
