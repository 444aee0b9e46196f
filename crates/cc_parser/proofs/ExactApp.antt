-- The parser of a tree that is parsed exactly is simple.
use Rattle.std.proofs.Common.{◌≡◌, ◌∙◌, ℕ, ◌+◌, Bool, true, false, not, cond, ◌&&◌, ◌||◌, ◌==◌, List, [], ◌∷◌, map, Option, Some, None, is_some, unwrap_or, refl, sym, ap, ap₂, subst, true≢false}
use Rattle.std.specs.Prelude.{count_by, max, nat_lt}
use Rattle.std.specs.List.{list_all, list_any}
use Rattle.std.proofs.Math.Bool.{and-false}
use Rattle.std.proofs.lemmas.List.{map-append}
use Rattle.std.proofs.lemmas.List.Folds.{list_all-append}
use Rattle.std.proofs.lemmas.List.Sums.{sum_by-append}
use Rattle.std.proofs.lemmas.Bool.{and_from, not-true, and_parts}
use Rattle.cc_arg.specs.declared.action.ArgAction.{ArgAction as Action}
use Rattle.cc_arg.specs.declared.action.ArgAction.TheVariants as action
use Rattle.cc_arg.specs.declared.parts.ArgParts.{ArgParts as Arg}
use Rattle.cc_arg.specs.declared.range.ValueRange.{ValueRange as Range}
use Rattle.cc_arg.specs.Printed.{is_append as appends}
use Rattle.cc_command.specs.declared.node.Node.{Node}
use Rattle.cc_command.specs.Tree.{Forest, none, more, has_nodes, Tree}
use Rattle.clap.specs.Walk.{Rule, is_append, is_early_multiple, is_multiple}
use Rattle.clap.specs.Simple.{App, Shape, built, built_above, built_leaf, filled, filled_from, help_shape, index_after, inherited, is_buildable, is_in_order as is_ordered, is_ready, is_ready_leaf, is_simple, is_simple_leaf, marked_built, on_top, with_built_subs, with_filled_rules, with_help_flag, with_index, with_inherited, with_leaf_noted, with_subcommand, with_version_flag}
use Rattle.clap.specs.declared.builder.value_parser.ValueParser.{ValueParser}
use Rattle.cc_parser.specs.Arguments.{AreRulesOf, parser_action, reads_simply, rule_of_argument}
use Rattle.cc_parser.specs.Parsers.{AreShapesOf, IsAppOf, any_global, globals_in, has_globals, is_disabled_below, is_left_out, kept}
use Rattle.cc_parser.specs.Taken.{has_index_or_name}
use Rattle.cc_parser.proofs.Taking.{built_rules}
use Rattle.cc_parser.specs.Exact.{are_leaves, count_indexed, has_single_range, is_in_order, is_leaf, is_parsed_exactly, is_placed, is_read_simply, is_single}

-- ---- one rule

-- an index stays as it was
same_index : (short : Option ℕ) (long : Option (List ℕ)) (index : Option ℕ) (no_aliases : Bool) (n : ℕ)
    → cond (not (is_some short || is_some long)) (is_some index && no_aliases) (not (is_some index)) ≡ true
    → cond ((not (is_some long) && not (is_some short)) && not (is_some index)) (Some n) index ≡ index
same_index None None (Some i) no_aliases n h = refl
same_index None None None no_aliases n h = absurd (true≢false (sym h))
same_index None (Some l) index no_aliases n h = refl
same_index (Some s) (Some l) index no_aliases n h = refl
same_index (Some s) None index no_aliases n h = refl

same_append : (a : Action) → is_append (parser_action a) ≡ appends a
same_append action.Set = refl
same_append action.Append = refl
same_append action.SetTrue = refl
same_append action.SetFalse = refl
same_append action.Count = refl
same_append action.Help = refl
same_append action.HelpShort = refl
same_append action.HelpLong = refl
same_append action.Version = refl

neither : (a b c : Bool) → ((a && not b) && not c) ≡ true → ((not a || b) || c) ≡ false
neither true false false h = refl
neither true false true h = absurd (true≢false (sym h))
neither true true c h = absurd (true≢false (sym h))
neither false b c h = absurd (true≢false (sym h))

module _ (n : ℕ) (parser : Option ValueParser) (arg : Arg) where
  abbrev rule_with : Option Range → Option Action → Rule
  rule_with range act = with_index n (filled (rule_of_argument parser (record arg { num_args = range; action = act })))

  single_with : (range : Option Range) (act : Option Action) → (has_single_range range && not (appends (unwrap_or act action.Set))) ≡ true
      → is_multiple (rule_with range act) ≡ false
  single_with None act h = absurd (true≢false (sym h))
  single_with (Some range) act h =
      ap (λ c. (not (range.least == max range.greatest range.least) || nat_lt 1 range.least) || c) (same_append (unwrap_or act action.Set))
      ∙ neither (range.least == max range.greatest range.least) (nat_lt 1 range.least) (appends (unwrap_or act action.Set)) h

  -- a single argument has a rule that takes no several values
  single_rule : is_single arg ≡ true → is_multiple (with_index n (filled (rule_of_argument parser arg))) ≡ false
  single_rule h = single_with arg.num_args arg.action h

  rule_index : has_index_or_name arg ≡ true → (with_index n (filled (rule_of_argument parser arg))).index ≡ arg.index
  rule_index h = same_index arg.short arg.long arg.index _ n h

placed : (index : Option ℕ) (single multiple last : Bool) → (single ≡ true → multiple ≡ false)
    → (not (is_some index) || (single || last)) ≡ true → (is_some index && multiple && not last) ≡ false
placed None single multiple last f h = refl
placed (Some i) true multiple last f h = ap (λ b. true && b && not last) (f refl)
placed (Some i) false multiple true f h = and-false multiple
placed (Some i) false multiple false f h = absurd (true≢false (sym h))

placed_rule : (count n : ℕ) (parser : Option ValueParser) (arg : Arg) → has_index_or_name arg ≡ true → is_placed count arg ≡ true
    → is_early_multiple count (with_index n (filled (rule_of_argument parser arg))) ≡ false
placed_rule count n parser arg tidy h =
    ap (λ index. is_some index && is_multiple (with_index n (filled (rule_of_argument parser arg))) && not (count == unwrap_or index 0))
    (rule_index n parser arg tidy)
    ∙ placed arg.index (is_single arg) (is_multiple (with_index n (filled (rule_of_argument parser arg)))) (count == unwrap_or arg.index 0)
    (single_rule n parser arg) h

-- ---- the rules of a command

early_none : (count n : ℕ) (args : List Arg) (rules : List Rule) → AreRulesOf args rules → list_all has_index_or_name args ≡ true
    → list_all (is_placed count) args ≡ true → list_any (is_early_multiple count) (filled_from n rules) ≡ false
early_none count n [] [] h tidy all = refl
early_none count n (a ∷ args) (r ∷ rules) h tidy all =
    let t = and_parts (has_index_or_name a) (list_all has_index_or_name args) tidy in
    let p = and_parts (is_placed count a) (list_all (is_placed count) args) all in
    ap₂ (λ x y. x || y)
    (subst (λ (rule : Rule). is_early_multiple count (with_index n (filled rule)) ≡ false) (sym h.0.0) (placed_rule count n r.parser a t.0 p.0))
    (early_none count (index_after n r) args rules h.1 t.1 p.1)
early_none count n [] (r ∷ rules) h tidy all = absurd h
early_none count n (a ∷ args) [] h tidy all = absurd h

counted : (n : ℕ) (args : List Arg) (rules : List Rule) → AreRulesOf args rules → list_all has_index_or_name args ≡ true
    → count_by (λ (rule : Rule). is_some rule.index) (filled_from n rules) ≡ count_indexed args
counted n [] [] h tidy = refl
counted n (a ∷ args) (r ∷ rules) h tidy =
    let t = and_parts (has_index_or_name a) (list_all has_index_or_name args) tidy in
    sum_by-append (λ (rule : Rule). cond (is_some rule.index) 1 0) (with_index n (filled r) ∷ []) (filled_from (index_after n r) rules)
    ∙ ap₂ (λ x y. x + y)
    (ap (λ index. 0 + cond (is_some index) 1 0)
    (subst (λ (rule : Rule). (with_index n (filled rule)).index ≡ a.index) (sym h.0.0) (rule_index n r.parser a t.0)))
    (counted (index_after n r) args rules h.1 t.1)
    ∙ sym (sum_by-append (λ (arg : Arg). cond (is_some arg.index) 1 0) (a ∷ []) args)
counted n [] (r ∷ rules) h tidy = absurd h
counted n (a ∷ args) [] h tidy = absurd h

-- building keeps which rules are simple
simple_filled : (n : ℕ) (args : List Arg) (rules : List Rule) → AreRulesOf args rules
    → list_all (λ (rule : Rule). rule.is_simple) (filled_from n rules) ≡ list_all reads_simply args
simple_filled n [] [] h = refl
simple_filled n (a ∷ args) (r ∷ rules) h =
    ap₂ (λ x y. x && y) (ap (λ (rule : Rule). rule.is_simple) h.0.0) (simple_filled (index_after n r) args rules h.1)
simple_filled n [] (r ∷ rules) h = absurd h
simple_filled n (a ∷ args) [] h = absurd h

simple_given : (args : List Arg) (rules : List Rule) → AreRulesOf args rules
    → list_all (λ (rule : Rule). rule.is_simple) rules ≡ list_all reads_simply args
simple_given [] [] h = refl
simple_given (a ∷ args) (r ∷ rules) h =
    ap₂ (λ x y. x && y) (ap (λ (rule : Rule). rule.is_simple) h.0.0) (simple_given args rules h.1)
simple_given [] (r ∷ rules) h = absurd h
simple_given (a ∷ args) [] h = absurd h

module _ (node : Node) (rules : List Rule) (are : AreRulesOf node.arguments rules) (ok : is_read_simply node ≡ true) where
  parts : (not node.allow_external_subcommands ≡ true)
      × ((list_all reads_simply node.arguments && (list_all has_index_or_name node.arguments && is_in_order node.arguments)) ≡ true)
  parts = and_parts (not node.allow_external_subcommands) _ ok

  reads : list_all reads_simply node.arguments ≡ true
  reads = (and_parts (list_all reads_simply node.arguments) _ parts.1).0

  rest : (list_all has_index_or_name node.arguments ≡ true) × (is_in_order node.arguments ≡ true)
  rest = and_parts (list_all has_index_or_name node.arguments) _ (and_parts (list_all reads_simply node.arguments) _ parts.1).1

  -- the rules as given
  pub given_simply : (not node.allow_external_subcommands && list_all (λ (rule : Rule). rule.is_simple) rules) ≡ true
  given_simply = and_from _ _ parts.0 (simple_given node.arguments rules are ∙ reads)

  ordered : is_ordered (filled_from 1 rules) ≡ true
  ordered = ap not
      (ap (λ count. list_any (is_early_multiple count) (filled_from 1 rules)) (counted 1 node.arguments rules are rest.0)
      ∙ early_none (count_indexed node.arguments) 1 node.arguments rules are rest.0 rest.1)

  -- the rules as built
  pub built_simply : ((not node.allow_external_subcommands && list_all (λ (rule : Rule). rule.is_simple) (filled_from 1 rules))
      && is_ordered (filled_from 1 rules)) ≡ true
  built_simply = and_from _ _ (and_from _ _ parts.0 (simple_filled 1 node.arguments rules are ∙ reads)) ordered

-- ---- the children

module _ (here : Bool) where
  given_leaves : (forest : Forest) (shapes : List Shape) → AreShapesOf here forest shapes → are_leaves here forest ≡ true
      → list_all is_simple_leaf shapes ≡ true
  given_leaves none [] h ok = refl
  given_leaves (more node below later) (s ∷ shapes) h ok =
      let both = and_parts (is_leaf here node below) (are_leaves here later) ok in
      let leaf = and_parts (not (has_nodes (kept here below))) (is_read_simply node) both.0 in
      and_from (is_simple_leaf s) (list_all is_simple_leaf shapes)
      (subst (λ (shape : Shape). is_simple_leaf shape ≡ true) (sym h.0.0) (and_from _ _ leaf.0 (given_simply node s.rules h.0.1 leaf.1)))
      (given_leaves later shapes h.1 both.1)
  given_leaves none (s ∷ shapes) h ok = absurd h
  given_leaves (more node below later) [] h ok = absurd h

  built_leaves : (top : Shape) (forest : Forest) (shapes : List Shape) → AreShapesOf here forest shapes → are_leaves here forest ≡ true
      → list_all is_ready_leaf (map built_leaf (map (inherited top) shapes)) ≡ true
  built_leaves top none [] h ok = refl
  built_leaves top (more node below later) (s ∷ shapes) h ok =
      let both = and_parts (is_leaf here node below) (are_leaves here later) ok in
      let leaf = and_parts (not (has_nodes (kept here below))) (is_read_simply node) both.0 in
      and_from (is_ready_leaf (built_leaf (inherited top s))) (list_all is_ready_leaf (map built_leaf (map (inherited top) shapes)))
      (subst (λ (shape : Shape). is_ready_leaf (built_leaf (inherited top shape)) ≡ true) (sym h.0.0)
      (and_from _ _ leaf.0 (built_simply node s.rules h.0.1 leaf.1)))
      (built_leaves top later shapes h.1 both.1)
  built_leaves top none (s ∷ shapes) h ok = absurd h
  built_leaves top (more node below later) [] h ok = absurd h

-- ---- the whole parser

abbrev before_help : App → App
before_help a = on_top with_version_flag (on_top with_help_flag (with_inherited (on_top with_leaf_noted (on_top marked_built a))))

abbrev built_where : Bool → App → App
built_where disabled a = with_built_subs (on_top with_filled_rules (cond disabled (before_help a) (with_subcommand (before_help a) help_shape)))

built_is : (a : App) → a.top.is_built ≡ false → built a ≡ built_where (a.top.is_leaf || a.top.disable_help_subcommand) a
built_is a unbuilt = ap (λ b. cond b a (with_built_subs (built_above (on_top marked_built a)))) unbuilt

top_plain : (disabled : Bool) (a : App) → (built_where disabled a).top.is_plain ≡ a.top.is_plain
top_plain true a = refl
top_plain false a = refl

help_ready : list_all is_ready_leaf (map built_leaf (help_shape ∷ [])) ≡ true
help_ready = refl

module _ (tree : Tree) (app : App) (is : IsAppOf tree app) (ok : is_parsed_exactly tree ≡ true) where
  abbrev here : Bool
  here = is_disabled_below false tree.children

  both : (is_read_simply tree.node ≡ true) × (are_leaves here (kept false tree.children) ≡ true)
  both = and_parts (is_read_simply tree.node) (are_leaves here (kept false tree.children)) ok

  unbuilt : app.top.is_built ≡ false
  unbuilt = ap (λ (s : Shape). s.is_built) is.0.0

  plain : app.top.is_plain ≡ not tree.node.allow_external_subcommands
  plain = ap (λ (s : Shape). s.is_plain) is.0.0

  buildable : is_buildable app ≡ true
  buildable = and_from _ _
      (ap (λ b. b && list_all (λ (rule : Rule). rule.is_simple) app.top.rules) plain ∙ given_simply tree.node app.top.rules is.0.1 both.0)
      (given_leaves here (kept false tree.children) app.subs is.1 both.1)

  built_plain : (built app).top.is_plain ≡ not tree.node.allow_external_subcommands
  built_plain = ap (λ (a : App). a.top.is_plain) (built_is app unbuilt) ∙ top_plain (app.top.is_leaf || app.top.disable_help_subcommand) app ∙ plain

  built_as : (built app).top.rules ≡ filled_from 1 app.top.rules
  built_as = built_rules app unbuilt (ap (λ (s : Shape). s.disable_help_flag) is.0.0) (ap (λ (s : Shape). s.disable_version_flag) is.0.0)

  top_ready : is_ready (built app).top ≡ true
  top_ready = ap₂ (λ (plain : Bool) (rules : List Rule). (plain && list_all (λ (rule : Rule). rule.is_simple) rules) && is_ordered rules) built_plain built_as
      ∙ built_simply tree.node app.top.rules is.0.1 both.0

  subs_where : (disabled : Bool) → list_all is_ready_leaf (built_where disabled app).subs ≡ true
  subs_where true = built_leaves here (with_leaf_noted (marked_built app.top)) (kept false tree.children) app.subs is.1 both.1
  subs_where false =
      let above : Shape = with_leaf_noted (marked_built app.top) in
      ap (list_all is_ready_leaf) (map-append built_leaf (map (inherited above) app.subs) (help_shape ∷ []))
      ∙ list_all-append is_ready_leaf (map built_leaf (map (inherited above) app.subs)) (map built_leaf (help_shape ∷ []))
      ∙ and_from _ _ (built_leaves here above (kept false tree.children) app.subs is.1 both.1) help_ready

  -- the parser is simple
  pub simple_app : is_simple app ≡ true
  simple_app = and_from _ _ buildable (and_from _ _ top_ready
      (ap (λ (a : App). list_all is_ready_leaf a.subs) (built_is app unbuilt)
      ∙ subs_where (app.top.is_leaf || app.top.disable_help_subcommand)))

-- ---- no global arguments

simple_local : (a b c d e : Bool) → (a && (b && (c && (d && not e)))) ≡ true → e ≡ false
simple_local true true true true false h = refl
simple_local true true true true true h = absurd (true≢false (sym h))
simple_local true true true false e h = absurd (true≢false (sym h))
simple_local true true false d e h = absurd (true≢false (sym h))
simple_local true false c d e h = absurd (true≢false (sym h))
simple_local false b c d e h = absurd (true≢false (sym h))

none_global : (args : List Arg) → list_all reads_simply args ≡ true → any_global args ≡ false
none_global [] h = refl
none_global (a ∷ args) h =
    let both = and_parts (reads_simply a) (list_all reads_simply args) h in
    ap₂ (λ x y. x || y) (simple_local (not (is_some a.value_delimiter)) (not (is_some a.value_terminator)) (not a.allow_hyphen_values) (not a.last) a.global both.0) (none_global args both.1)

node_local : (node : Node) → is_read_simply node ≡ true → any_global node.arguments ≡ false
node_local node ok = none_global node.arguments
    (and_parts (list_all reads_simply node.arguments) _ (and_parts (not node.allow_external_subcommands) _ ok).1).0

-- a forest of which the parser keeps nothing has no global arguments for it
nothing_kept : (above here : Bool) (forest : Forest) → has_nodes (kept above forest) ≡ false → globals_in above here forest ≡ false
nothing_kept above here none h = refl
nothing_kept above here (more node below later) h = go (nothing_kept above here later) (is_left_out above node) refl
  where
    go : (has_nodes (kept above later) ≡ false → globals_in above here later ≡ false) → (out : Bool) → is_left_out above node ≡ out
        → globals_in above here (more node below later) ≡ false
    go rest true is = ap (λ b. cond b (globals_in above here later)
        ((any_global node.arguments || globals_in here (is_disabled_below here below) below) || globals_in above here later)) is
        ∙ rest (sym (ap (λ b. has_nodes (cond b (kept above later) (more node below (kept above later)))) is) ∙ h)
    go rest false is = absurd (true≢false (sym (ap (λ b. has_nodes (cond b (kept above later) (more node below (kept above later)))) is) ∙ h))

leaves_local : (here : Bool) (forest : Forest) → are_leaves here (kept false forest) ≡ true → globals_in false here forest ≡ false
leaves_local here none ok = refl
leaves_local here (more node below later) ok = go (leaves_local here later) (is_left_out false node) refl
  where
    go : (are_leaves here (kept false later) ≡ true → globals_in false here later ≡ false) → (out : Bool) → is_left_out false node ≡ out
        → globals_in false here (more node below later) ≡ false
    go others true is = ap (λ b. cond b (globals_in false here later)
        ((any_global node.arguments || globals_in here (is_disabled_below here below) below) || globals_in false here later)) is
        ∙ others (sym (ap (λ b. are_leaves here (cond b (kept false later) (more node below (kept false later)))) is) ∙ ok)
    go others false is =
        let first = and_parts (is_leaf here node below) (are_leaves here (kept false later))
        (sym (ap (λ b. are_leaves here (cond b (kept false later) (more node below (kept false later)))) is) ∙ ok) in
        let leaf = and_parts (not (has_nodes (kept here below))) (is_read_simply node) first.0 in
        ap (λ b. cond b (globals_in false here later)
        ((any_global node.arguments || globals_in here (is_disabled_below here below) below) || globals_in false here later)) is
        ∙ ap₂ (λ x y. x || y)
        (ap₂ (λ x y. x || y) (node_local node leaf.1) (nothing_kept here (is_disabled_below here below) below (not-true (has_nodes (kept here below)) leaf.0)))
        (others first.1)

pub exact_local : (tree : Tree) → is_parsed_exactly tree ≡ true → has_globals tree ≡ false
exact_local tree ok =
    let both = and_parts (is_read_simply tree.node) (are_leaves (is_disabled_below false tree.children) (kept false tree.children)) ok in
    ap₂ (λ x y. x || y) (node_local tree.node both.0) (leaves_local (is_disabled_below false tree.children) tree.children both.1)
