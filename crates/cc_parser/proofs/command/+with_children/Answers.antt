use Rattle.std.proofs.Common.{◌≡◌, ◌<◌, ◌∙◌, ◌+◌, ◌||◌, List, Bool, true, false, not, ap, ap₂, sym, subst, refl, rules, take}
use Rattle.cc_command.specs.Tree.{Forest, Tree, none, more, join, forest_of, forest_size}
use Rattle.cc_command.proofs.Forests.{below_is_smaller}
use Rattle.clap.specs.Simple.{App}
use Rattle.clap.specs.Words.{app_of}
use Rattle.clap.specs.declared.builder.command.Command.TheViews.{out-Command}
use Rattle.std.proofs.Math.Bool.{or_assoc}
use Rattle.std.proofs.lemmas.Bool.{or_parts}
use Rattle.cc_parser.specs.Local.{local_forest, local_tree}
use Rattle.cc_parser.specs.Parsers.{AddsChildren, AddsShapes, IsLeaf, any_global, globals_below, globals_in, has_globals_under, is_disabled_below, is_left_out, named_app}
use Rattle.cc_parser.proofs.Localizing.{has_generated-local, local_forest-join}
use Rattle.cc_parser.proofs.RuleParts.{take_more}
use Rattle.cc_parser.proofs.CommandParts.{app_made, forest_of-more, globals_in-kept, globals_in-left_out, is_leaf, left_out, more_children}
use Rattle.cc_parser.proofs.command.+with_children.Goals as goal

pub with_children-requires : goal.with_children-requires
with_children-requires t c =
    let siblings : List Tree = c.args.children.now in
    let child : Tree = c.child-item.result in
    let below : forest_of c.get_subcommands.result.now ≡ child.children = c.get_subcommands.ensures in
    let smaller : forest_size (forest_of c.get_subcommands.result.now) < forest_size (forest_of siblings) =
    subst (λ (forest : Forest). forest_size forest < forest_size (forest_of siblings))
    (ap (λ (tree : Tree). tree.children) (sym c.child-item.is) ∙ sym below)
    (below_is_smaller siblings c.loop-child.child-index child c.loop-child-test.true) in
    search rules

pub loop-child-preserved : goal.loop-child-preserved
loop-child-preserved t c =
    let above : Bool = c.args.above in
    let local : Bool = c.args.local in
    let all : Forest = forest_of c.args.children.now in
    let here : Bool = is_disabled_below above (local_forest local all) in
    let seen : List Tree = take c.loop-child.child-index c.args.children.now in
    let before : Forest = local_forest local (forest_of seen) in
    let given : Tree = c.child-item.result in
    let child : Tree = local_tree local given in
    let is_here : c.is_disabled_below-here.result ≡ here =
    c.is_disabled_below-here.ensures ∙ ap (λ made. above || not made) (sym (has_generated-local local all)) in
    let kept_one : is_left_out above child.node ≡ false = sym c.is_left_out.ensures ∙ c.if-is_left_out.false in
    let first : App = app_of c.args.parser in
    let longer : local_forest local (forest_of (take (c.loop-child.child-index + 1) c.args.children.now)) ≡ join before (more child.node child.children none) =
    ap (λ (trees : List Tree). local_forest local (forest_of trees))
    (take_more c.args.children.now c.loop-child.child-index given c.loop-child-test.true c.child-item.is)
    ∙ ap (local_forest local) (forest_of-more seen given)
    ∙ local_forest-join local (forest_of seen) (more given.node given.children none) in
    let below : globals_below c.is_disabled_below-here.result (local_forest local (forest_of c.get_subcommands.result.now)) ≡ globals_below here child.children =
    ap₂ (λ (b : Bool) (f : Forest). globals_below b (local_forest local f)) is_here c.get_subcommands.ensures in
    let globals = c.in-Ok-with_children.ensures.globals ∙ ap₂ (λ (a b : Bool). a || b) c.in-Ok.ensures.globals below in
    let counted = globals_in-kept above here before child kept_one in
    let has : Bool = (out-Command c.args.parser).has_globals in (
      subst (λ (f : Forest). globals_in above here f ≡ false → IsLeaf first → AddsShapes above here f first (app_of c.in_ok-parser-in-Ok-with_children.parser)) (sym longer) (λ clear leaf.
          let parts = or_parts (globals_in above here before) (has_globals_under here child) (sym counted ∙ clear) in
          let mine = or_parts (any_global child.node.arguments) (globals_below here child.children) parts.1 in
          let args = c.in-Ok.ensures.app mine.0 in
          let added = subst (λ (b : Bool). AddsChildren b child.children (app_of c.in-Ok.made) (app_of c.in-Ok-with_children.made)) is_here
          (subst (λ (f : Forest). AddsChildren c.is_disabled_below-here.result (local_forest local f) (app_of c.in-Ok.made) (app_of c.in-Ok-with_children.made)) c.get_subcommands.ensures
          (c.in-Ok-with_children.ensures.app (below ∙ mine.1) (is_leaf child.node.arguments child.node child.children (app_of c.in-Ok.made) args))) in
          let shape = app_made here child (named_app child.node child.children) (app_of c.in-Ok.made) (app_of c.in-Ok-with_children.made) refl args added in
          subst (λ (a : App). AddsShapes above here (join before (more child.node child.children none)) first a)
          (sym (c.in_ok-parser-in-Ok-with_children.ensures.shape (globals ∙ parts.1)))
          (more_children above here before child first (app_of c.loop-child.parser) (app_of c.in-Ok-with_children.made).top kept_one
          (c.loop-child.invariant.0 parts.0 leaf) shape)),
      c.in_ok-parser-in-Ok-with_children.ensures.globals ∙ ap₂ (λ (a b : Bool). a || b) c.loop-child.invariant.1 globals
          ∙ or_assoc has (globals_in above here before) (has_globals_under here child)
          ∙ ap (λ b. has || b) (sym counted) ∙ ap (λ f. has || globals_in above here f) (sym longer),
    )

pub loop-child-preserved-then-is_left_out : goal.loop-child-preserved-then-is_left_out
loop-child-preserved-then-is_left_out t c =
    let above : Bool = c.args.above in
    let local : Bool = c.args.local in
    let here : Bool = is_disabled_below above (local_forest local (forest_of c.args.children.now)) in
    let seen : List Tree = take c.loop-child.child-index c.args.children.now in
    let before : Forest = local_forest local (forest_of seen) in
    let given : Tree = c.child-item.result in
    let child : Tree = local_tree local given in
    let out : is_left_out above child.node ≡ true = sym c.is_left_out.ensures ∙ c.if-is_left_out.true in
    let first : App = app_of c.args.parser in
    let longer : local_forest local (forest_of (take (c.loop-child.child-index + 1) c.args.children.now)) ≡ join before (more child.node child.children none) =
    ap (λ (trees : List Tree). local_forest local (forest_of trees))
    (take_more c.args.children.now c.loop-child.child-index given c.loop-child-test.true c.child-item.is)
    ∙ ap (local_forest local) (forest_of-more seen given)
    ∙ local_forest-join local (forest_of seen) (more given.node given.children none) in
    let counted = globals_in-left_out above here before child out in
    let has : Bool = (out-Command c.args.parser).has_globals in (
      subst (λ (f : Forest). globals_in above here f ≡ false → IsLeaf first → AddsShapes above here f first (app_of c.loop-child.parser)) (sym longer) (λ clear leaf.
          left_out above here before child first (app_of c.loop-child.parser) out (c.loop-child.invariant.0 (sym counted ∙ clear) leaf)),
      c.loop-child.invariant.1 ∙ ap (λ b. has || b) (sym counted) ∙ ap (λ f. has || globals_in above here f) (sym longer),
    )
