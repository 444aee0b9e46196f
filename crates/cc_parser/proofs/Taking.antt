-- The parser of a built tree accepts what completion offers.
use Rattle.std.proofs.Common.{◌≡◌, ◌∙◌, ℕ, Bool, true, false, not, cond, ◌&&◌, ◌||◌, ◌==◌, List, [], ◌∷◌, ◌++◌, map, Option, Some, None, is_some, option_map, unwrap_or, codes, refl, sym, ap, ap₂, subst, inl, inr, true≢false, eq-eqb, arith, length}
use Rattle.std.specs.Prelude.{find, IfSome}
use Rattle.std.specs.List.{list_all, list_any, AllByRecursion}
use Rattle.std.specs.Option.{option_map_or}
use Rattle.std.specs.Str.{bytes_eq}
use Rattle.std.proofs.Math.Bool.{and-false, or-true}
use Rattle.std.proofs.lemmas.Bool.{ne_eqb, or_right, and_parts}
use Rattle.std.proofs.lemmas.List.Folds.{list_any-append}
use Rattle.std.proofs.lemmas.Slice.Eq.{bytes_eq-Decides}
use Rattle.cc_base.proofs.Members.{AllByRecursion-IsIn, AllByRecursion-from_IsIn, IsIn, IsIn-append_left, IsIn-append_right}
use Rattle.cc_arg.specs.declared.parts.ArgParts.{ArgParts as Arg}
use Rattle.cc_arg.specs.Arguments.{possible_values}
use Rattle.cc_arg.specs.declared.possible_value.PossibleValue.{PossibleValue as Possible}
use Rattle.cc_arg.specs.ShownNames.{shown_longs, shown_shorts, with_aliases}
use Rattle.cc_command.specs.Names.{visible_names}
use Rattle.cc_command.specs.Tree.{Forest, none, more, has_nodes, Tree}
use Rattle.cc_command.specs.declared.node.Node.{Node}
use Rattle.clap.specs.Walk.{Names, Rule, action_of, is_empty, answers_to, arg_by_long, arg_by_short, has_long, has_short}
use Rattle.clap.specs.Simple.{App, Shape, built, built_above, built_leaf, filled, filled_from, help_rule, help_shape, index_after, inherited, label_of, marked_built, names_of, on_top, parser_for, with_action, version_rule, with_built_subs, with_filled_rules, with_help_flag, with_index, with_inherited, with_leaf_noted, with_subcommand, with_version_flag}
use Rattle.clap.specs.declared.builder.value_parser.ValueParser.{ValueParser}
use Rattle.clap.specs.declared.builder.possible_value.PossibleValue.{PossibleValue}
use Rattle.clap.specs.ValueTests.{accepts}
use Rattle.clap.specs.Values.{possible_matches, same_text as same_text_of}
use Rattle.cc_parser.specs.Arguments.{ArePossible, AreRulesOf, IsRuleOf, TakesPossible, rule_of_argument}
use Rattle.cc_parser.specs.Parsers.{AreShapesOf, IsAppOf, has_generated, is_disabled_below, kept}
use Rattle.cc_parser.specs.Taken.{KnowsChild, KnowsLong, KnowsShort, TakesAllValues, TakesNames, TakesOffered, TakesSiblings, TakesValues, answers_long, answers_short, are_help_if_generated, fits_parser, has_index_or_name, id_of_long, id_of_short, is_help_if_generated, parsed_long, parsed_short}

-- an argument with an index has no names, and one without an index has some
abbrev IsTidy : Arg → Type 0
IsTidy arg = ((not (is_some arg.long) && not (is_some arg.short)) ≡ true → is_some arg.index ≡ true)
    × (is_some arg.index ≡ true → (arg.long ≡ None) × (arg.aliases ≡ []) × (arg.short ≡ None))

not_empty : (x : List ℕ) (xs : List (List ℕ)) → is_empty (x ∷ xs) ≡ false
not_empty x xs = ne_eqb (length (x ∷ xs)) 0 (λ e. omega (arith, e))

is_tidy : (short : Option ℕ) (long : Option (List ℕ)) (index : Option ℕ) (aliases : List (List ℕ))
    → cond (not (is_some short || is_some long)) (is_some index && is_empty aliases) (not (is_some index)) ≡ true
    → ((not (is_some long) && not (is_some short)) ≡ true → is_some index ≡ true)
    × (is_some index ≡ true → (long ≡ None) × (aliases ≡ []) × (short ≡ None))
is_tidy None None (Some i) [] h = (λ e. refl, λ e. (refl, refl, refl))
is_tidy None None (Some i) (x ∷ xs) h = absurd (true≢false (sym h ∙ not_empty x xs))
is_tidy None None None aliases h = absurd (true≢false (sym h))
is_tidy None (Some l) None aliases h = (λ e. absurd (true≢false (sym e)), λ e. absurd (true≢false (sym e)))
is_tidy None (Some l) (Some i) aliases h = absurd (true≢false (sym h))
is_tidy (Some s) None None aliases h = (λ e. absurd (true≢false (sym e)), λ e. absurd (true≢false (sym e)))
is_tidy (Some s) None (Some i) aliases h = absurd (true≢false (sym h))
is_tidy (Some s) (Some l) None aliases h = (λ e. absurd (true≢false (sym e)), λ e. absurd (true≢false (sym e)))
is_tidy (Some s) (Some l) (Some i) aliases h = absurd (true≢false (sym h))

all_tidy : (args : List Arg) → list_all has_index_or_name args ≡ true → AllByRecursion IsTidy args
all_tidy [] h = tt
all_tidy (a ∷ args) h =
    let both = and_parts (has_index_or_name a) (list_all has_index_or_name args) h in
    (is_tidy a.short a.long a.index a.aliases both.0, all_tidy args both.1)

-- one step of two parallel searches
pub find_both : {X Y Z : Type 0} (p : X → Bool) (q : Y → Bool) (f : X → Z) (g : Y → Z) (x : X) (y : Y) (xs : List X) (ys : List Y)
    → p x ≡ q y → f x ≡ g y → option_map f (find p xs) ≡ option_map g (find q ys)
    → option_map f (find p (x ∷ xs)) ≡ option_map g (find q (y ∷ ys))
find_both {X} {Y} {Z} p q f g x y xs ys same here later = go (p x) (q y) same
  where
    go : (b c : Bool) → b ≡ c → option_map f (cond b (Some x) (find p xs)) ≡ option_map g (cond c (Some y) (find q ys))
    go true true e = ap Some here
    go false false e = later
    go true false e = cc
    go false true e = cc

-- an index exists after the numbering if it existed before
index_there : (is_positional : Bool) (index : Option ℕ) (n : ℕ) → (is_positional ≡ true → is_some index ≡ true)
    → is_some (cond (is_positional && not (is_some index)) (Some n) index) ≡ is_some index
index_there true (Some i) n h = refl
index_there true None n h = absurd (true≢false (sym (h refl)))
index_there false index n h = refl

-- a test that a rule passes if its argument passes another: the first that passes is the same one
module _ (knows : Rule → Bool) (answers : Arg → Bool)
    (agree : (n : ℕ) (p : Option ValueParser) (a : Arg) → IsTidy a → knows (with_index n (filled (rule_of_argument p a))) ≡ answers a) where
  same_first : (n : ℕ) (args : List Arg) (rules : List Rule) → AreRulesOf args rules → AllByRecursion IsTidy args
      → option_map (λ (r : Rule). r.id) (find knows (filled_from n rules)) ≡ option_map (λ (a : Arg). a.id) (find answers args)
  same_first n [] [] h tidy = refl
  same_first n (a ∷ args) (r ∷ rules) h tidy =
      find_both knows answers (λ r. r.id) (λ a. a.id) (with_index n (filled r)) a (filled_from (index_after n r) rules) args
      (subst (λ (r : Rule). knows (with_index n (filled r)) ≡ answers a) (sym h.0.0) (agree n r.parser a tidy.0))
      (ap (λ (r : Rule). r.id) h.0.0)
      (same_first (index_after n r) args rules h.1 tidy.1)
  same_first n [] (r ∷ rules) h tidy = absurd h
  same_first n (a ∷ args) [] h tidy = absurd h

-- a long or a short names the same argument in the tree and in its parser: the first that has it
pub same_by_long : (name : List ℕ) (n : ℕ) (args : List Arg) (rules : List Rule) → AreRulesOf args rules → AllByRecursion IsTidy args
    → option_map (λ r. r.id) (arg_by_long (filled_from n rules) name) ≡ id_of_long name args
same_by_long name = same_first (λ r. not (is_some r.index) && has_long r name) (answers_long name)
    (λ n p a tidy. ap (λ b. not b && has_long (rule_of_argument p a) name)
    (index_there (not (is_some a.long) && not (is_some a.short)) a.index n tidy.0))

pub same_by_short : (c : ℕ) (n : ℕ) (args : List Arg) (rules : List Rule) → AreRulesOf args rules → AllByRecursion IsTidy args
    → option_map (λ r. r.id) (arg_by_short (filled_from n rules) c) ≡ id_of_short c args
same_by_short c = same_first (λ r. not (is_some r.index) && has_short r c) (answers_short c)
    (λ n p a tidy. ap (λ b. not b && has_short (rule_of_argument p a) c)
    (index_there (not (is_some a.long) && not (is_some a.short)) a.index n tidy.0))

-- ---- the rules as the parser builds them

top_rules : (c : Bool) (x : App) → (cond c x (with_subcommand x help_shape)).top.rules ≡ x.top.rules
top_rules true x = refl
top_rules false x = refl

-- the parser adds no flags of its own
pub built_rules : (a : App) → a.top.is_built ≡ false → a.top.disable_help_flag ≡ true → a.top.disable_version_flag ≡ true
    → (built a).top.rules ≡ filled_from 1 a.top.rules
built_rules a unbuilt no_help no_version =
    let x : App = on_top with_version_flag (on_top with_help_flag (with_inherited (on_top with_leaf_noted (on_top marked_built a)))) in
    ap (λ b. (cond b a (with_built_subs (built_above (on_top marked_built a)))).top.rules) unbuilt
    ∙ ap (filled_from 1) (top_rules x.top.disable_help_subcommand x)
    ∙ ap₂ (λ h v. filled_from 1 (cond (v || (not a.top.has_version && not a.top.has_long_version))
    (cond h a.top.rules (a.top.rules ++ help_rule ∷ []))
    (cond h a.top.rules (a.top.rules ++ help_rule ∷ []) ++ version_rule ∷ []))) no_help no_version

module _ (tree : Tree) (app : App) (is : IsAppOf tree app) (tidy : AllByRecursion IsTidy tree.node.arguments) where
  rules_of_parser : (built app).top.rules ≡ filled_from 1 app.top.rules
  rules_of_parser = built_rules app (ap (λ (s : Shape). s.is_built) is.0.0) (ap (λ (s : Shape). s.disable_help_flag) is.0.0)
      (ap (λ (s : Shape). s.disable_version_flag) is.0.0)

  -- a long means the same to the parser and the tree: both find the argument with the same id, or
  -- none
  pub same_long : (name : List ℕ) → parsed_long app name ≡ id_of_long name tree.node.arguments
  same_long name = ap (λ rules. option_map (λ r. r.id) (arg_by_long rules name)) rules_of_parser
      ∙ same_by_long name 1 tree.node.arguments app.top.rules is.0.1 tidy

  pub same_short : (c : ℕ) → parsed_short app c ≡ id_of_short c tree.node.arguments
  same_short c = ap (λ rules. option_map (λ r. r.id) (arg_by_short rules c)) rules_of_parser
      ∙ same_by_short c 1 tree.node.arguments app.top.rules is.0.1 tidy

-- ---- the parser finds what is offered

found_in : {X Y : Type 0} (q : X → Bool) (f : X → Y) (xs : List X) (x : X) → IsIn xs x → q x ≡ true → is_some (option_map f (find q xs)) ≡ true
found_in q f [] x h e = absurd h
found_in {X} {Y} q f (y ∷ xs) x h e = go (λ k. found_in q f xs x k e) (q y) refl h
  where
    go : (IsIn xs x → is_some (option_map f (find q xs)) ≡ true) → (b : Bool) → q y ≡ b → IsIn (y ∷ xs) x
        → is_some (option_map f (cond b (Some y) (find q xs))) ≡ true
    go later true is k = refl
    go later false is (inr k) = later k
    go later false is (inl k) = absurd (true≢false (sym e ∙ ap q (sym k) ∙ is))

any_in : {X : Type 0} (t : X → Bool) (xs : List X) (x : X) → IsIn xs x → t x ≡ true → list_any t xs ≡ true
any_in t [] x h e = absurd h
any_in t (y ∷ xs) x (inl k) e = ap (λ b. b || list_any t xs) (ap t k ∙ e)
any_in t (y ∷ xs) x (inr k) e = ap (λ b. t y || b) (any_in t xs x k e) ∙ or-true (t y)

same_text : (name : List ℕ) → bytes_eq name name ≡ true
same_text name = (bytes_eq-Decides name name).1 refl

same_number : (c : ℕ) → (c == c) ≡ true
same_number c = eq-eqb c c refl

-- an argument that is offered by a name answers to it
answers : (index : Option ℕ) (long : Option (List ℕ)) (visible hidden : List (List ℕ))
    → (is_some index ≡ true → (long ≡ None) × (hidden ≡ [])) → (name : List ℕ) → IsIn (with_aliases long visible ++ hidden) name
    → (not (is_some index) && (option_map_or (λ s. bytes_eq s name) long false || list_any (λ alias. bytes_eq alias name) (visible ++ hidden))) ≡ true
answers (Some i) long visible hidden tidy name h =
    let none = tidy refl in
    let nothing : IsIn (with_aliases None visible ++ []) name =
    subst (λ (l : Option (List ℕ)). IsIn (with_aliases l visible ++ []) name) none.0
    (subst (λ (x : List (List ℕ)). IsIn (with_aliases long visible ++ x) name) none.1 h) in
    absurd nothing
answers None None visible hidden tidy name h = any_in (λ alias. bytes_eq alias name) (visible ++ hidden) name (IsIn-append_right visible hidden name h) (same_text name)
answers None (Some long) visible hidden tidy name (inl e) = ap (λ b. b || list_any (λ alias. bytes_eq alias name) (visible ++ hidden)) (ap (λ l. bytes_eq l name) e ∙ same_text name)
answers None (Some long) visible hidden tidy name (inr k) =
    or_right (bytes_eq long name) _ (any_in (λ alias. bytes_eq alias name) (visible ++ hidden) name k (same_text name))

answers_shorts : (index : Option ℕ) (short : Option ℕ) (visible hidden : List ℕ)
    → (is_some index ≡ true → short ≡ None) → (c : ℕ) → IsIn (with_aliases short visible) c
    → (not (is_some index) && (option_map_or (λ s. s == c) short false || list_any (λ alias. alias == c) (visible ++ hidden))) ≡ true
answers_shorts index None visible hidden tidy c h = absurd h
answers_shorts (Some i) (Some short) visible hidden tidy c h = absurd (let e = tidy refl in cc)
answers_shorts None (Some short) visible hidden tidy c (inl e) = ap (λ b. b || list_any (λ alias. alias == c) (visible ++ hidden)) (ap (λ s. s == c) e ∙ same_number c)
answers_shorts None (Some short) visible hidden tidy c (inr k) =
    or_right (short == c) _ (any_in (λ alias. alias == c) (visible ++ hidden) c (IsIn-append_left visible hidden c k) (same_number c))

-- the parser accepts what is offered: it knows each long, each short and each alias that completion
-- offers for an argument of the tree
pub takes_offered : (tree : Tree) (app : App) → IsAppOf tree app → AllByRecursion IsTidy tree.node.arguments
    → AllByRecursion (TakesNames app) tree.node.arguments
takes_offered tree app is tidy = AllByRecursion-from_IsIn (TakesNames app) tree.node.arguments (λ a k.
    let t = AllByRecursion-IsIn IsTidy tree.node.arguments a tidy k in (
      AllByRecursion-from_IsIn (KnowsLong app) (shown_longs a ++ a.aliases) (λ name h.
          ap is_some (same_long tree app is tidy name)
          ∙ found_in (answers_long name) (λ (a : Arg). a.id) tree.node.arguments a k
          (answers a.index a.long a.visible_aliases a.aliases (λ i. let n = t.1 i in (n.0, n.1)) name h)),
      AllByRecursion-from_IsIn (KnowsShort app) (shown_shorts a) (λ c h.
          ap is_some (same_short tree app is tidy c)
          ∙ found_in (answers_short c) (λ (a : Arg). a.id) tree.node.arguments a k
          (answers_shorts a.index a.short a.visible_short_aliases a.short_aliases (λ i. (t.1 i).2) c h)),
    ))

-- ---- children

label_kept : (s : Shape) → label_of (built_leaf s) ≡ label_of s
label_kept s = go s.is_built
  where
    go : (b : Bool) → label_of (cond b s (with_filled_rules (with_version_flag (with_help_flag (with_leaf_noted (marked_built s)))))) ≡ label_of s
    go true = refl
    go false = refl

labels_kept : (t : Shape) (subs : List Shape) → map label_of (map built_leaf (map (inherited t) subs)) ≡ map label_of subs
labels_kept t [] = refl
labels_kept t (s ∷ subs) = ap₂ (λ x xs. x ∷ xs) (label_kept (inherited t s)) (labels_kept t subs)

-- the built parser without its child `help` and without the settings that its own build fills in
abbrev before_help : App → App
before_help a = on_top with_version_flag (on_top with_help_flag (with_inherited (on_top with_leaf_noted (on_top marked_built a))))

abbrev names_where : Bool → App → Names
names_where c a = names_of (with_built_subs (on_top with_filled_rules (cond c (before_help a) (with_subcommand (before_help a) help_shape))))

names_built : (a : App) → a.top.is_built ≡ false → names_of (built a) ≡ names_where (a.top.is_leaf || a.top.disable_help_subcommand) a
names_built a unbuilt = ap (λ b. names_of (cond b a (with_built_subs (built_above (on_top marked_built a))))) unbuilt

labels_longer : (xs ys : List Shape) → map label_of (map built_leaf (xs ++ ys)) ≡ map label_of (map built_leaf xs) ++ map label_of (map built_leaf ys)
labels_longer [] ys = refl
labels_longer (y ∷ xs) ys = ap (λ zs. label_of (built_leaf y) ∷ zs) (labels_longer xs ys)

-- a child of the parser keeps its names when it is built
child_stays : (a : App) → a.top.is_built ≡ false → (word : List ℕ) → list_any (answers_to word) (map label_of a.subs) ≡ true
    → list_any (answers_to word) (names_of (built a)) ≡ true
child_stays a unbuilt word h = ap (list_any (answers_to word)) (names_built a unbuilt) ∙ go (a.top.is_leaf || a.top.disable_help_subcommand)
  where
    t : Shape
    t = with_leaf_noted (marked_built a.top)

    go : (c : Bool) → list_any (answers_to word) (names_where c a) ≡ true
    go true = ap (list_any (answers_to word)) (labels_kept t a.subs) ∙ h
    go false = ap (list_any (answers_to word)) (labels_longer (map (inherited t) a.subs) (help_shape ∷ []))
        ∙ list_any-append (answers_to word) (map label_of (map built_leaf (map (inherited t) a.subs))) (map label_of (map built_leaf (help_shape ∷ [])))
        ∙ ap (λ b. b || list_any (answers_to word) (map label_of (map built_leaf (help_shape ∷ [])))) (ap (list_any (answers_to word)) (labels_kept t a.subs) ∙ h)

-- the parser has its own child `help`, unless that is disabled
help_there : (a : App) → a.top.is_built ≡ false → (a.top.is_leaf || a.top.disable_help_subcommand) ≡ false → KnowsChild a (codes "help")
help_there a unbuilt there =
    let t : Shape = with_leaf_noted (marked_built a.top) in
    ap (list_any (answers_to (codes "help"))) (names_built a unbuilt ∙ ap (λ c. names_where c a) there ∙ labels_longer (map (inherited t) a.subs) (help_shape ∷ []))
    ∙ list_any-append (answers_to (codes "help")) (map label_of (map built_leaf (map (inherited t) a.subs))) (map label_of (map built_leaf (help_shape ∷ [])))
    ∙ ap (λ b. list_any (answers_to (codes "help")) (map label_of (map built_leaf (map (inherited t) a.subs))) || (b || false)) (ap (λ b. b || false) (same_text (codes "help")))
    ∙ or-true (list_any (answers_to (codes "help")) (map label_of (map built_leaf (map (inherited t) a.subs))))

-- a name of a node answers to its label
name_answers : (node : Node) (word : List ℕ) → IsIn (visible_names node ++ node.aliases) word
    → answers_to word (node.name, node.visible_aliases ++ node.aliases) ≡ true
name_answers node word (inl e) = ap (λ b. b || list_any (λ alias. bytes_eq alias word) (node.visible_aliases ++ node.aliases)) (ap (λ n. bytes_eq n word) e ∙ same_text word)
name_answers node word (inr k) = or_right (bytes_eq node.name word) _ (any_in (λ alias. bytes_eq alias word) (node.visible_aliases ++ node.aliases) word k (same_text word))

takes_kept : (app : App) → app.top.is_built ≡ false → (here : Bool) (forest : Forest) (shapes : List Shape) → AreShapesOf here forest shapes
    → ((word : List ℕ) → list_any (answers_to word) (map label_of shapes) ≡ true → list_any (answers_to word) (map label_of app.subs) ≡ true)
    → TakesSiblings app forest
takes_kept app unbuilt here none [] h inside = tt
takes_kept app unbuilt here (more node below rest) (s ∷ shapes) h inside = (
  AllByRecursion-from_IsIn (KnowsChild app) (visible_names node ++ node.aliases) (λ word k.
      child_stays app unbuilt word (inside word
      (ap (λ b. b || list_any (answers_to word) (map label_of shapes)) (ap (λ (s : Shape). answers_to word (label_of s)) h.0.0 ∙ name_answers node word k)))),
  takes_kept app unbuilt here rest shapes h.1 (λ word e. inside word (or_right (answers_to word (label_of s)) _ e)),
)
takes_kept app unbuilt here none (s ∷ shapes) h inside = absurd h
takes_kept app unbuilt here (more node below rest) [] h inside = absurd h

-- a node whose only name is `help`
knows_help : (app : App) → KnowsChild app (codes "help") → (name : List ℕ) (visible hidden : List (List ℕ))
    → (bytes_eq name (codes "help") && (is_empty visible && is_empty hidden)) ≡ true → AllByRecursion (KnowsChild app) (name ∷ visible ++ hidden)
knows_help app help name [] [] h =
    (subst (KnowsChild app) (sym ((bytes_eq-Decides name (codes "help")).0 (and_parts (bytes_eq name (codes "help")) true h).0)) help, tt)
knows_help app help name (x ∷ visible) hidden h =
    absurd (true≢false (sym h ∙ ap (λ b. bytes_eq name (codes "help") && (b && is_empty hidden)) (not_empty x visible) ∙ and-false (bytes_eq name (codes "help"))))
knows_help app help name [] (x ∷ hidden) h =
    absurd (true≢false (sym h ∙ ap (λ b. bytes_eq name (codes "help") && b) (not_empty x hidden) ∙ and-false (bytes_eq name (codes "help"))))

-- with the children that `build` added
takes_siblings : (app : App) (forest : Forest) → TakesSiblings app (kept false forest) → are_help_if_generated forest ≡ true
    → (has_generated forest ≡ true → KnowsChild app (codes "help")) → TakesSiblings app forest
takes_siblings app none t names help = tt
takes_siblings app (more node below rest) t names help =
    let both = and_parts (is_help_if_generated node) (are_help_if_generated rest) names in
    go node.generated refl (λ t later. takes_siblings app rest t both.1 later)
  where
    go : (b : Bool) → node.generated ≡ b
        → (TakesSiblings app (kept false rest) → (has_generated rest ≡ true → KnowsChild app (codes "help")) → TakesSiblings app rest)
        → AllByRecursion (KnowsChild app) (visible_names node ++ node.aliases) × TakesSiblings app rest
    go true is later = (
      knows_help app (help (ap (λ b. b || has_generated rest) is)) node.name node.visible_aliases node.aliases
          (ap (λ b. not b || (bytes_eq node.name (codes "help") && (is_empty node.visible_aliases && is_empty node.aliases))) (sym is)
          ∙ (and_parts (is_help_if_generated node) (are_help_if_generated rest) names).0),
      later (subst (λ b. TakesSiblings app (cond (b && true) (kept false rest) (more node below (kept false rest)))) is t)
          (λ e. help (or_right node.generated (has_generated rest) e)),
    )
    go false is later =
        let both : TakesSiblings app (more node below (kept false rest)) =
        subst (λ b. TakesSiblings app (cond (b && true) (kept false rest) (more node below (kept false rest)))) is t in
        (both.0, later both.1 (λ e. help (or_right node.generated (has_generated rest) e)))

-- the parser accepts the children that are offered
pub takes_children : (tree : Tree) (app : App) → IsAppOf tree app → fits_parser tree ≡ true → TakesSiblings app tree.children
takes_children tree app is fits =
    let children = (and_parts (list_all has_index_or_name tree.node.arguments) _ fits).1 in
    let names = and_parts (are_help_if_generated tree.children) _ children in
    let unbuilt : app.top.is_built ≡ false = ap (λ (s : Shape). s.is_built) is.0.0 in
    takes_siblings app tree.children (takes_kept app unbuilt (is_disabled_below false tree.children) (kept false tree.children) app.subs is.1 (λ word e. e))
    names.0 (λ made. help_there app unbuilt (ap₂ (λ a b. a || b)
    (ap (λ (s : Shape). s.is_leaf) is.0.0 ∙ ap not (beside (has_generated tree.children) (has_nodes (kept false tree.children)) made names.1))
    (ap (λ (s : Shape). s.disable_help_subcommand) is.0.0 ∙ ap not made)))
  where
    beside : (a b : Bool) → a ≡ true → (not a || b) ≡ true → b ≡ true
    beside true b made h = h
    beside false b made h = absurd (true≢false (sym made))

-- ---- values

passes : (possible : List Possible) (values : List PossibleValue) → ArePossible possible values → (value : Possible) → IsIn possible value
    → list_any (possible_matches false value.name) values ≡ true
passes [] [] h value k = absurd k
passes (x ∷ possible) (y ∷ values) h value (inl e) =
    ap (λ b. (b || list_any (λ name. same_text_of false name.now value.name) y.aliases.now) || list_any (possible_matches false value.name) values)
    (ap (λ n. bytes_eq n value.name) (h.0.0 ∙ ap (λ (v : Possible). v.name) e) ∙ same_text value.name)
passes (x ∷ possible) (y ∷ values) h value (inr k) = or_right (possible_matches false value.name y) _ (passes possible values h.1 value k)
passes [] (y ∷ values) h value k = absurd h
passes (x ∷ possible) [] h value k = absurd h

-- the possible values that are offered pass, by the rule after the parser's build
takes_values : (n : ℕ) (arg : Arg) (rule : Rule) → IsRuleOf arg rule → TakesValues arg (with_index n (filled rule))
takes_values n arg rule is = go (possible_values arg) rule.parser (ap (λ (r : Rule). r.ignore_case) is.0) is.1
  where
    other : ValueParser
    other = parser_for (action_of (with_action rule))

    go : (possible : Option (List Possible)) (parser : Option ValueParser) → rule.ignore_case ≡ false → TakesPossible possible parser
        → IfSome possible (AllByRecursion (λ value. accepts rule.ignore_case (unwrap_or parser other) value.name ≡ true))
    go None parser exact h = tt
    go (Some possible) parser exact h = AllByRecursion-from_IsIn (λ value. accepts rule.ignore_case (unwrap_or parser other) value.name ≡ true) possible (λ value k.
        ap₂ (λ i p. accepts i (unwrap_or p other) value.name) exact h.1 ∙ passes possible h.0.now h.2 value k)

takes_all_values : (n : ℕ) (args : List Arg) (rules : List Rule) → AreRulesOf args rules → TakesAllValues args (filled_from n rules)
takes_all_values n [] [] h = tt
takes_all_values n (a ∷ args) (r ∷ rules) h = (takes_values n a r h.0, takes_all_values (index_after n r) args rules h.1)
takes_all_values n [] (r ∷ rules) h = absurd h
takes_all_values n (a ∷ args) [] h = absurd h

-- the theorem: the parser accepts what is offered for the root
pub takes_tree : (tree : Tree) (app : App) → IsAppOf tree app → fits_parser tree ≡ true → TakesOffered tree app
takes_tree tree app is fits =
    let ok = all_tidy tree.node.arguments (and_parts (list_all has_index_or_name tree.node.arguments) _ fits).0 in record {
      longs = same_long tree app is ok;
      shorts = same_short tree app is ok;
      names = takes_offered tree app is ok;
      children = takes_children tree app is fits;
      values = subst (TakesAllValues tree.node.arguments) (sym (rules_of_parser tree app is ok)) (takes_all_values 1 tree.node.arguments app.top.rules is.0.1);
    }
