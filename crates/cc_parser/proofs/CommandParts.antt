-- The parser while arguments and children are added to it.
use Rattle.std.proofs.Common.{◌≡◌, ◌∙◌, ℕ, Bool, true, false, not, cond, ◌||◌, ◌&&◌, Option, is_some, List, [], ◌∷◌, ◌++◌, map, refl, sym, ap, ap₂, subst}
use Rattle.std.proofs.Math.Bool.{and-true, or_assoc, or-false}
use Rattle.std.proofs.lemmas.List.{map-append}
use Rattle.std.specs.Borrow.{Bor}
use Rattle.cc_arg.specs.declared.parts.ArgParts.{ArgParts as Arg}
use Rattle.cc_command.specs.declared.node.Node.{Node}
use Rattle.cc_command.specs.Tree.{Forest, none, more, join, has_nodes, Tree, forest_of}
use Rattle.clap.specs.Walk.{Rule, is_empty}
use Rattle.clap.specs.Words.{AddsCommandAliases, app_of}
use Rattle.clap.specs.declared.builder.command.Command.{Command}
use Rattle.clap.specs.declared.builder.command.Command.TheViews.{out-Command}
use Rattle.clap.specs.Simple.{App, Shape, app_of_fields, new_app, on_top, with_rule, with_subcommand}
use Rattle.cc_parser.specs.Arguments.{AreRulesOf, IsRuleOf}
use Rattle.cc_parser.specs.Parsers.{AddsArguments, AddsChildren, AddsShapes, AreShapesOf, IsLeaf, IsShapeOf, any_global, globals_in, has_globals, has_globals_under, is_disabled_below, is_left_out, kept, named_app, shape_of_node}
use Rattle.cc_parser.proofs.RuleParts.{more_rules}

-- ---- arguments

pub any_global-more : (args : List Arg) (arg : Arg) → any_global (args ++ arg ∷ []) ≡ (any_global args || arg.global)
any_global-more [] arg = or-false arg.global
any_global-more (a ∷ args) arg = ap (λ b. a.global || b) (any_global-more args arg) ∙ sym (or_assoc a.global (any_global args) arg.global)

pub more_arguments : (args : List Arg) (old new : App) (arg : Arg) (rule : Rule) → AddsArguments args old new → IsRuleOf arg rule
    → AddsArguments (args ++ arg ∷ []) old (with_rule new rule)
more_arguments args old new arg rule h k = (
  more_rules args new.top.rules arg rule h.0 k,
  ap (on_top (λ (s : Shape). record s { rules = new.top.rules ++ rule ∷ [] })) h.1,
)

-- ---- children

pub forest_of-more : (trees : List Tree) (tree : Tree) → forest_of (trees ++ tree ∷ []) ≡ join (forest_of trees) (more tree.node tree.children none)
forest_of-more [] tree = refl
forest_of-more (t ∷ trees) tree = ap (more t.node t.children) (forest_of-more trees tree)

module _ (above : Bool) where
  kept-join : (f g : Forest) → kept above (join f g) ≡ join (kept above f) (kept above g)
  kept-join none g = refl
  kept-join (more node below rest) g = go (kept-join rest g) (is_left_out above node)
    where
      go : kept above (join rest g) ≡ join (kept above rest) (kept above g) → (b : Bool)
          → cond b (kept above (join rest g)) (more node below (kept above (join rest g)))
          ≡ join (cond b (kept above rest) (more node below (kept above rest))) (kept above g)
      go later true = later
      go later false = ap (more node below) later

  module _ (here : Bool) where
    globals_in-join : (f g : Forest) → globals_in above here (join f g) ≡ (globals_in above here f || globals_in above here g)
    globals_in-join none g = refl
    globals_in-join (more node below rest) g =
        go (any_global node.arguments || globals_in here (is_disabled_below here below) below) (globals_in-join rest g) (is_left_out above node)
      where
        go : (one : Bool) → globals_in above here (join rest g) ≡ (globals_in above here rest || globals_in above here g) → (b : Bool)
            → cond b (globals_in above here (join rest g)) (one || globals_in above here (join rest g))
            ≡ (cond b (globals_in above here rest) (one || globals_in above here rest) || globals_in above here g)
        go one later true = later
        go one later false = ap (λ c. one || c) later ∙ sym (or_assoc one (globals_in above here rest) (globals_in above here g))

join-none : (f : Forest) → join f none ≡ f
join-none none = refl
join-none (more node below rest) = ap (more node below) (join-none rest)

has_nodes-join : (f : Forest) (node : Node) (below : Forest) → has_nodes (join f (more node below none)) ≡ true
has_nodes-join none node below = refl
has_nodes-join (more n b rest) node below = refl

AreShapesOf-more : (here : Bool) (f : Forest) (shapes : List Shape) (node : Node) (below : Forest) (shape : Shape) → AreShapesOf here f shapes
    → IsShapeOf here node below shape → AreShapesOf here (join f (more node below none)) (shapes ++ shape ∷ [])
AreShapesOf-more here none [] node below shape h k = (k, tt)
AreShapesOf-more here (more n b rest) (s ∷ shapes) node below shape h k = (h.0, AreShapesOf-more here rest shapes node below shape h.1 k)
AreShapesOf-more here none (s ∷ shapes) node below shape h k = absurd h
AreShapesOf-more here (more n b rest) [] node below shape h k = absurd h

module _ (above here : Bool) (children : Forest) (tree : Tree) where
  abbrev longer : Forest
  longer = join children (more tree.node tree.children none)

  pub globals_in-kept : is_left_out above tree.node ≡ false → globals_in above here longer ≡ (globals_in above here children || has_globals_under here tree)
  globals_in-kept is = globals_in-join above here children (more tree.node tree.children none)
      ∙ ap (λ b. globals_in above here children || cond b false (has_globals_under here tree || false)) is
      ∙ ap (λ b. globals_in above here children || b) (or-false (has_globals_under here tree))

  pub globals_in-left_out : is_left_out above tree.node ≡ true → globals_in above here longer ≡ globals_in above here children
  globals_in-left_out is = globals_in-join above here children (more tree.node tree.children none)
      ∙ ap (λ b. globals_in above here children || cond b false (has_globals_under here tree || false)) is
      ∙ or-false (globals_in above here children)

  pub more_children : (old new : App) (shape : Shape) → is_left_out above tree.node ≡ false → AddsShapes above here children old new
      → IsShapeOf here tree.node tree.children shape → AddsShapes above here longer old (with_subcommand new shape)
  more_children old new shape is h k =
      let same : kept above longer ≡ join (kept above children) (more tree.node tree.children none) =
      kept-join above children (more tree.node tree.children none) ∙ ap (λ b. join (kept above children) (cond b none (more tree.node tree.children none))) is in (
        subst (λ f. AreShapesOf here f (new.subs ++ shape ∷ [])) (sym same)
            (AreShapesOf-more here (kept above children) new.subs tree.node tree.children shape h.0 k),
        ap (λ (s : Shape). record s { is_leaf = false }) h.1
            ∙ ap (λ b. record old.top { is_leaf = not b }) (sym (ap has_nodes same ∙ has_nodes-join (kept above children) tree.node tree.children)),
      )

  pub left_out : (old new : App) → is_left_out above tree.node ≡ true → AddsShapes above here children old new → AddsShapes above here longer old new
  left_out old new is h =
      let same : kept above longer ≡ kept above children =
      kept-join above children (more tree.node tree.children none) ∙ ap (λ b. join (kept above children) (cond b none (more tree.node tree.children none))) is
      ∙ join-none (kept above children) in (
        subst (λ f. AreShapesOf here f new.subs) (sym same) h.0,
        h.1 ∙ ap (λ f. record old.top { is_leaf = not (has_nodes f) }) (sym same),
      )

-- ---- the whole command

pub app_made : (above : Bool) (tree : Tree) (a b c : App) → a ≡ named_app tree.node tree.children → AddsArguments tree.node.arguments a b
    → AddsChildren above tree.children b c → IsShapeOf above tree.node tree.children c.top
app_made above tree a b c named args children =
    let rules : c.top.rules ≡ b.top.rules = ap (λ (s : Shape). s.rules) children.1 in (
      children.1 ∙ ap (λ (x : App). record x.top { is_leaf = not (has_nodes (kept above tree.children)) })
          (args.1 ∙ ap (on_top (λ (s : Shape). record s { rules = b.top.rules })) named)
          ∙ ap (shape_of_node above tree.node tree.children) (sym rules),
      subst (AreRulesOf tree.node.arguments) (sym rules) args.0,
    )

-- ---- names and settings

pub more_names : (old new : Command) (alias : Bor (List ℕ)) (shown : Bool) → AddsCommandAliases old new ((alias, shown) ∷ [])
    → app_of new ≡ on_top (λ top. record top { aliases = top.aliases ++ alias.now ∷ [] }) (app_of old)
more_names old new alias shown adds = ap app_of_fields adds.0
    ∙ ap (λ (names : List (List ℕ)). on_top (λ (top : Shape). record top { aliases = names }) (app_of old))
    (ap (map (λ (a : Bor (List ℕ) × Bool). a.0.now)) adds.1
    ∙ map-append (λ (a : Bor (List ℕ) × Bool). a.0.now) (out-Command old).aliases.items ((alias, shown) ∷ []))

set_plain : (g e r : Bool) → (g && (not e && r)) ≡ true → (other : Bool) → (g && (not other && r)) ≡ not other
set_plain true false true h other = and-true (not other)
set_plain true false false h other = cc
set_plain true true r h other = cc
set_plain false e r h other = cc

-- the settings of a command that had none
pub with_settings : (c : Command) (name : List ℕ) → app_of c ≡ new_app name → (order : Option ℕ) (hide no_name external disabled required or_help : Bool)
    → app_of_fields (record (out-Command c) {
      hide = hide;
      disp_ord = order;
      no_binary_name = no_name;
      allow_external_subcommands = external;
      disable_help_flag = true;
      disable_version_flag = true;
      disable_help_subcommand = disabled;
      subcommand_required = required;
      arg_required_else_help = or_help;
    }) ≡ on_top (λ top. record top {
      is_plain = not external;
      no_binary_name = no_name;
      disable_help_flag = true;
      disable_version_flag = true;
      disable_help_subcommand = disabled;
      subcommand_required = required;
      arg_required_else_help = or_help;
    }) (new_app name)
with_settings c name is order hide no_name external disabled required or_help =
    let f = out-Command c in
    let plain = set_plain (is_empty f.groups.items) f.allow_external_subcommands
    (not f.has_globals && (not f.infer_long_args && (not f.allow_missing_positional && (not f.infer_subcommands
    && (not f.args_conflicts_with_subcommands && (not f.subcommand_precedence_over_arg && (not (is_some f.long_flag)
    && (not (is_some f.short_flag) && (is_empty f.long_flag_aliases.items && is_empty f.short_flag_aliases.items)))))))))
    (ap (λ (a : App). a.top.is_plain) is) external in
    ap₂ (λ (a : App) (b : Bool). on_top (λ (top : Shape). record top {
      is_plain = b;
      no_binary_name = no_name;
      disable_help_flag = true;
      disable_version_flag = true;
      disable_help_subcommand = disabled;
      subcommand_required = required;
      arg_required_else_help = or_help;
    }) a) is plain

-- a command with only its arguments has no children
pub is_leaf : (args : List Arg) (node : Node) (below : Forest) (a : App) → AddsArguments args (named_app node below) a → IsLeaf a
is_leaf args node below a h = (ap (λ (x : App). x.subs) h.1, ap (λ (x : App). x.top.is_leaf) h.1)
