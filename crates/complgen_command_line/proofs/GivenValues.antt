-- An argument that takes at least one value in each use has a value if the words give it: each use
-- that clap accepts leaves a value in its row.
use Rattle.std.proofs.Common.{◌≡◌, ◌∙◌, ◌&&◌, ◌||◌, ◌+◌, ◌++◌, ℕ, zero, suc, Bool, true, false, not}
use Rattle.std.proofs.Common.{List, [], ◌∷◌, Option, Some, None}
use Rattle.std.proofs.Common.{◌⊎◌, inl, inr, ap, sym, refl, length, drop, is_some, min}
use Rattle.std.specs.Prelude.{if◌then◌else◌, encode_utf8, find, fold, nat_lt, option_and_then}
use Rattle.std.specs.Prelude.{slice_get}
use Rattle.std.specs.List.{list_all}
use Rattle.std.specs.Option.{option_map_or}
use Rattle.std.specs.Str.{bytes_eq, chars}
use Rattle.std.proofs.Math.Bool.{or-true}
use Rattle.std.proofs.lemmas.Bool.{and_from}
use Rattle.std.proofs.lemmas.List.Folds.{list_all-append}
use Rattle.clap.specs.Facts.{explicit_source, unwrap_or_range}
use Rattle.clap.specs.Faults.{bundle_fault, bundle_step_fault, flag_word_fault, flags_fault}
use Rattle.clap.specs.Faults.{long_fault, option_fault, other_fault, positional_fault, react_fault}
use Rattle.clap.specs.Faults.{settle_fault, short_fault, step_fault, stray_fault, turn_fault}
use Rattle.clap.specs.Faults.{use_fault, walk_fault, word_fault}
use Rattle.clap.specs.Kinds.{Kinds, or_else, range_kinds}
use Rattle.clap.specs.Lexer.{long_of, short_of}
use Rattle.clap.specs.Simple.{Shape}
use Rattle.clap.specs.Takes.{is_given}
use Rattle.clap.specs.Walk.{Held, Names, Outcome, Row, Rule, Step, Text, Waiting, Walk, action_of}
use Rattle.clap.specs.Walk.{after_flag, after_step, arg_by_id, arg_by_index, arg_by_long}
use Rattle.clap.specs.Walk.{arg_by_short, at_row, attached_value, bundle, bundle_met, bundle_step}
use Rattle.clap.specs.Walk.{count_of, default_rows, first_of, flag_met, has_long, has_row}
use Rattle.clap.specs.Walk.{has_short, is_pending, long_met, long_or_other, more_values}
use Rattle.clap.specs.Walk.{most_values, new_count, nothing_held, option_met, option_word}
use Rattle.clap.specs.Walk.{plain_word, positional_held, reacted, reading_by, rows_after, settled}
use Rattle.clap.specs.Walk.{settled_rows, short_met, short_or_plain, subcommand_met}
use Rattle.clap.specs.Walk.{subcommand_or_other, takes_several, takes_values, to_positional, used}
use Rattle.clap.specs.Walk.{used_as, used_by_id, values_or_missing, walk, walk_from, walked}
use Rattle.clap.specs.Walk.{walked_from, with_count, with_default, with_values, without, word_met}
use Rattle.clap.specs.Walk.{done, waits, plain, idle, option, positional, next, trailing}
use Rattle.clap.specs.Walk.{subcommand, value}
use Rattle.clap.specs.declared.builder.action.ArgAction.{ArgAction}
use Rattle.clap.specs.declared.builder.action.ArgAction.TheVariants as act
use Rattle.clap.specs.declared.builder.value_parser.Reading.{Reading}
use Rattle.clap.specs.declared.error.kind.ErrorKind.TheVariants as kind
use Rattle.clap.specs.declared.parser.matches.ValueSource.{ValueSource}
use Rattle.clap.specs.declared.parser.matches.ValueSource.TheVariants.{CommandLine, DefaultValue}
use Rattle.clap.proofs.WalkLemmas.{both}

-- ---- tests

or_kept : (a b c : Bool) → (b ≡ true → c ≡ true) → (a || b) ≡ true → (a || c) ≡ true
or_kept true b c f h = refl
or_kept false b c f h = f h

-- the one found is the first, which passes, or is found among the rest
found_at : {X : Type 0} (t : Bool) (y x : X) (rest : Option X)
    → (if t then Some y else rest) ≡ Some x
    → ((t ≡ true) × (y ≡ x)) ⊎ ((t ≡ false) × (rest ≡ Some x))
found_at true y x rest e = inl (refl, cc)
found_at false y x rest e = inr (refl, e)

-- the first that passes one test passes another that all pass
found_passes : {X : Type 0} (test other : X → Bool) (xs : List X) (x : X)
    → list_all other xs ≡ true → find test xs ≡ Some x → other x ≡ true
found_passes test other [] x all is = cc
found_passes test other (y ∷ ys) x all is =
    let p = both (other y) (list_all other ys) all in
    elim (found_at (test y) y x (find test ys) is) [
      | inl h ↦ ap other (sym h.1) ∙ p.0
      | inr h ↦ found_passes test other ys x p.1 h.1
    ]

-- the first that passes a test passes that test
found_is : {X : Type 0} (test : X → Bool) (xs : List X) (x : X) → find test xs ≡ Some x
    → test x ≡ true
found_is test [] x is = cc
found_is test (y ∷ ys) x is = elim (found_at (test y) y x (find test ys) is) [
  | inl h ↦ ap test (sym h.1) ∙ h.0
  | inr h ↦ found_is test ys x h.1
]

pub first_none : (a b : Kinds) → or_else a b ≡ [] → a ≡ []
first_none [] b h = refl
first_none (k ∷ ks) b h = h

pub second_none : (a b : Kinds) → or_else a b ≡ [] → b ≡ []
second_none [] b h = h
second_none (k ∷ ks) b h = cc

-- ---- rows with values

abbrev has_some : List Text → Bool
has_some [] = false
has_some (v ∷ vs) = true

-- the row is another argument's, or has a value
abbrev has_value : Text → Row → Bool
has_value id r = not (bytes_eq r.id id) || has_some r.values

-- each row is another argument's, or has a value
abbrev pub have_values : Text → List Row → Bool
have_values id rows = list_all (has_value id) rows

some_grows : (xs ys : List Text) → has_some xs ≡ true → has_some (xs ++ ys) ≡ true
some_grows [] ys h = cc
some_grows (x ∷ xs) ys h = refl

-- a row that gets more values keeps one
more_kept : (id : Text) (s : ValueSource) (values : List Text) (r : Row) → has_value id r ≡ true
    → have_values id (more_values s values r) ≡ true
more_kept id s values r h =
    and_from _ true (or_kept (not (bytes_eq r.id id)) _ _ (some_grows r.values values) h) refl

count_kept : (id : Text) (s : ValueSource) (n : ℕ) (r : Row) → has_value id r ≡ true
    → have_values id (new_count s n r) ≡ true
count_kept id s n r h =
    and_from _ true (or_kept (not (bytes_eq r.id id)) _ _ (some_grows r.values _) h) refl

at_row_kept : (id at : Text) (change : Row → List Row) (missing rows : List Row)
    → ((r : Row) → has_value id r ≡ true → have_values id (change r) ≡ true)
    → have_values id missing ≡ true → have_values id rows ≡ true
    → have_values id (at_row at change missing rows) ≡ true
at_row_kept id at change missing [] changes m h = m
at_row_kept id at change missing (r ∷ rs) changes m h =
    let p = both (has_value id r) (have_values id rs) h in
    elim (bytes_eq r.id at) as (λ b. have_values id (if b then change r ++ rs
    else r ∷ at_row at change missing rs) ≡ true) [
      | true ↦ list_all-append (has_value id) (change r) rs ∙ and_from _ _ (changes r p.0) p.1
      | false ↦ and_from _ _ p.0 (at_row_kept id at change missing rs changes m p.1)
    ]

without_kept : (id at : Text) (rows : List Row) → have_values id rows ≡ true
    → have_values id (without at rows) ≡ true
without_kept id at rows h = at_row_kept id at (λ _. []) [] rows (λ r p. refl) refl h

-- the values are for another argument, or there is at least one
abbrev fills : Text → Text → List Text → Bool
fills id at values = not (bytes_eq at id) || has_some values

with_values_kept : (id at : Text) (how : Reading) (s : ValueSource) (values : List Text)
    (rows : List Row) → fills id at values ≡ true → have_values id rows ≡ true
    → have_values id (with_values at how s values rows) ≡ true
with_values_kept id at how s values rows given h =
    at_row_kept id at (more_values s values) _ rows (more_kept id s values) (and_from _ true given refl) h

with_count_kept : (id at : Text) (how : Reading) (s : ValueSource) (n : ℕ) (rows : List Row)
    → have_values id rows ≡ true → have_values id (with_count at how s n rows) ≡ true
with_count_kept id at how s n rows h = at_row_kept id at (new_count s n) _ rows (count_kept id s n)
    (and_from _ true (or-true (not (bytes_eq at id))) refl) h

used_as_kept : (x : ArgAction) (id at : Text) (how : Reading) (values : List Text) (rows : List Row)
    → fills id at values ≡ true → have_values id rows ≡ true
    → have_values id (used_as x at how values rows) ≡ true
used_as_kept act.Append id at how values rows given h =
    with_values_kept id at how _ values rows given h
used_as_kept act.Count id at how [] rows given h =
    with_count_kept id at how CommandLine (min (count_of at rows + 1) 255) _
    (without_kept id at rows h)
used_as_kept act.Count id at how (v ∷ vs) rows given h =
    with_values_kept id at how _ (v ∷ vs) _ given (without_kept id at rows h)
used_as_kept act.Help id at how values rows given h = h
used_as_kept act.HelpShort id at how values rows given h = h
used_as_kept act.HelpLong id at how values rows given h = h
used_as_kept act.Version id at how values rows given h = h
used_as_kept x id at how values rows given h =
    with_values_kept id at how _ values _ given (without_kept id at rows h)

-- ---- one use of an argument

-- a use with no value fails
abbrev pub wants_value : ArgAction → ℕ → Bool
wants_value act.Set least = nat_lt 0 least
wants_value act.Append least = nat_lt 0 least
wants_value _ least = false

-- another argument, or one that takes a value in each use
abbrev pub leaves_value : Text → Rule → Bool
leaves_value id a =
    not (bytes_eq a.id id) || wants_value (action_of a) (unwrap_or_range a.range).start_inclusive

wants_some : (x : ArgAction) (least : ℕ) → wants_value x least ≡ true → nat_lt 0 least ≡ true
wants_some act.Set least h = h
wants_some act.Append least h = h
wants_some x least h = cc

some_in_range : (a : Rule) (least most : ℕ) (values : List Text) → nat_lt 0 least ≡ true
    → range_kinds least most (length values) ≡ [] → has_some (values_or_missing a values) ≡ true
some_in_range a least most [] wants h =
    let fails : kind.InvalidValue ∷ [] ≡ [] = rw wants at h in cc
some_in_range a least most (v ∷ vs) wants h = refl

used_kept : (id : Text) (again : Bool) (a : Rule) (values : List Text) (rows : List Row)
    → leaves_value id a ≡ true → use_fault again a values rows ≡ [] → have_values id rows ≡ true
    → have_values id (used a values rows) ≡ true
used_kept id again a values rows leaves h kept =
    let range = unwrap_or_range a.range in
    used_as_kept (action_of a) id a.id _ (values_or_missing a values) rows
    (or_kept (not (bytes_eq a.id id)) _ _ (λ wants.
    some_in_range a range.start_inclusive (most_values a) values
    (wants_some (action_of a) range.start_inclusive wants) (first_none _ _ h)) leaves)
    kept

-- ---- the walk over the words

module _ (s : Shape) (id : Text) (leaves : list_all (leaves_value id) s.rules ≡ true) where
  abbrev c : List Rule
  c = s.rules

  abbrev again : Bool
  again = s.args_override_self

  abbrev kept : Held → Type 0
  kept h = have_values id h.rows ≡ true

  -- an argument that is found is another one, or takes a value in each use
  abbrev Leaves : Option Rule → Type 0
  Leaves o = (a : Rule) → o ≡ Some a → leaves_value id a ≡ true

  found_leaves : (test : Rule → Bool) → Leaves (find test c)
  found_leaves test a is = found_passes test (leaves_value id) c a leaves is

  used_by_kept : (o : Option Rule) (values : List Text) (rows : List Row) → Leaves o
      → option_map_or (λ a. use_fault again a values rows) o [] ≡ []
      → have_values id rows ≡ true → have_values id (used_by_id o values rows) ≡ true
  used_by_kept None values rows found h k = k
  used_by_kept (Some a) values rows found h k = used_kept id again a values rows (found a refl) h k

  settled_rows_kept : (p : Option (Text × List Text)) (rows : List Row)
      → option_map_or (λ p. option_map_or (λ a. use_fault again a p.1 rows) (arg_by_id c p.0) []) p [] ≡ []
      → have_values id rows ≡ true → have_values id (settled_rows c p rows) ≡ true
  settled_rows_kept None rows h k = k
  settled_rows_kept (Some p) rows h k =
      used_by_kept (arg_by_id c p.0) p.1 rows (found_leaves (λ a. bytes_eq a.id p.0)) h k

  settled_kept : (h : Held) → settle_fault c again h ≡ [] → kept h → kept (settled c h)
  settled_kept h e k = settled_rows_kept h.pending h.rows e k

  reacted_kept : (a : Rule) (values : List Text) (h : Held) → leaves_value id a ≡ true
      → react_fault c again a values h ≡ [] → kept h → kept (reacted c a values h)
  reacted_kept a values h leaves_one e k =
      used_kept id again a values (settled c h).rows leaves_one (second_none (settle_fault c again h) _ e)
      (settled_kept h (first_none _ _ e) k)

  option_kept : (a : Rule) (v : Option Text) (h : Held) → leaves_value id a ≡ true
      → option_fault c again a v h ≡ [] → kept h → kept (option_met c a v h).0
  option_kept a (Some v) h l e k = reacted_kept a (v ∷ []) h l e k
  option_kept a None h l e k = settled_kept h e k

  long_kept : (o : Option Rule) (v : Option Text) (h : Held) → Leaves o
      → long_fault c again o v h ≡ [] → kept h → kept (long_met c o v h).0
  long_kept None v h found e k = k
  long_kept (Some a) v h found e k = go (takes_values a) v e
    where
      go : (t : Bool) (v : Option Text)
          → (if t then option_fault c again a v h
          else (if is_some v then kind.TooManyValues ∷ [] else react_fault c again a [] h)) ≡ []
          → kept (if t then option_met c a v h else flag_met c a v h).0
      go true v e = option_kept a v h (found a refl) e k
      go false (Some v) e = k
      go false None e = reacted_kept a [] h (found a refl) e k

  short_kept : (o : Option Rule) (rest : Text) (h : Held) (after : Held → Held × Outcome)
      (below : Held → Kinds) → Leaves o → ((g : Held) → below g ≡ [] → kept g → kept (after g).0)
      → short_fault c again o rest h below ≡ [] → kept h → kept (short_met c o rest h after).0
  short_kept None rest h after below found more e k = k
  short_kept (Some a) rest h after below found more e k = go (takes_values a) e
    where
      go : (t : Bool)
          → (if t then option_fault c again a (attached_value rest) h
          else or_else (react_fault c again a [] h) (below (reacted c a [] h))) ≡ []
          → kept (if t then option_met c a (attached_value rest) h else after (reacted c a [] h)).0
      go true e = option_kept a (attached_value rest) h (found a refl) e k
      go false e = more (reacted c a [] h) (second_none (react_fault c again a [] h) _ e)
          (reacted_kept a [] h (found a refl) (first_none _ _ e) k)

  bundle_step_kept : (x : Option ℕ) (flags : Text) (skip : ℕ) (so_far : Outcome) (h : Held)
      (after : Text → ℕ → Outcome → Held → Held × Outcome) (below : Text → ℕ → Held → Kinds)
      → ((fs : Text) (n : ℕ) (o : Outcome) (g : Held) → below fs n g ≡ [] → kept g → kept (after fs n o g).0)
      → bundle_step_fault c again x flags skip h below ≡ [] → kept h
      → kept (bundle_step c x flags skip so_far h after).0
  bundle_step_kept None flags skip so_far h after below more e k = k
  bundle_step_kept (Some x) flags zero so_far h after below more e k =
      let rest = drop (length (encode_utf8 x)) flags in
      short_kept (arg_by_short c x) rest h (after rest 0 done) (below rest 0)
      (found_leaves (λ a. not (is_some a.index) && has_short a x)) (more rest 0 done) e k
  bundle_step_kept (Some x) flags (suc skip) so_far h after below more e k =
      more (drop (length (encode_utf8 x)) flags) skip so_far h e k

  bundle_kept : (n : ℕ) (flags : Text) (skip : ℕ) (so_far : Outcome) (h : Held)
      → flags_fault c again n flags skip h ≡ [] → kept h
      → kept (bundle_met c n flags skip so_far h).0
  unfolding bundle_met flags_fault
  bundle_kept zero flags skip so_far h e k = k
  bundle_kept (suc n) flags skip so_far h e k =
      bundle_step_kept (slice_get (chars flags) 0) flags skip so_far h (bundle_met c n)
      (flags_fault c again n) (bundle_kept n) e k

  -- ---- one word

  plain_word_kept : (waiting : Waiting) (word : Text) (h : Held) → kept h
      → kept (plain_word c waiting word h).0
  plain_word_kept idle word h k = k
  plain_word_kept positional word h k = k
  plain_word_kept (option name) word h k = go (arg_by_id c name)
    where
      go : (o : Option Rule) → kept (option_word o name word h).0
      go None = k
      go (Some a) = k

  after_flag_kept : (waiting : Waiting) (word : Text) (h : Held) (o : Outcome) → kept h
      → kept (after_flag c waiting word h o).0
  after_flag_kept waiting word h done k = k
  after_flag_kept waiting word h (waits name) k = k
  after_flag_kept waiting word h o k = plain_word_kept waiting word h k

  short_word_kept : (waiting : Waiting) (word : Text) (o : Option Text) (h : Held)
      → option_map_or (λ flags. bundle_fault c again flags h) o [] ≡ [] → kept h
      → kept (short_or_plain c waiting word o h).0
  short_word_kept waiting word None h e k = plain_word_kept waiting word h k
  short_word_kept waiting word (Some flags) h e k =
      after_flag_kept waiting word (bundle c flags h).0 (bundle c flags h).1
      (bundle_kept (length flags) flags h.skip plain (record h { skip = 0 }) e k)

  flag_word_kept : (waiting : Waiting) (word : Text) (o : Option (Text × Option Text)) (h : Held)
      → flag_word_fault c again o word h ≡ [] → kept h
      → kept (long_or_other c waiting word o h).0
  flag_word_kept waiting word (Some p) h e k =
      let met = long_met c (arg_by_long c p.0) p.1 h in
      after_flag_kept waiting word met.0 met.1
      (long_kept (arg_by_long c p.0) p.1 h (found_leaves (λ a. not (is_some a.index) && has_long a p.0)) e k)
  flag_word_kept waiting word None h e k = short_word_kept waiting word (short_of word) h e k

  other_kept : (o : Option Text) (waiting : Waiting) (position : ℕ) (word : Text) (h : Held)
      → other_fault s o word h ≡ [] → kept h
      → kept (subcommand_or_other c o waiting position word h).0
  other_kept (Some name) waiting position word h e k = k
  other_kept None waiting position word h e k = go (bytes_eq word (45 ∷ 45 ∷ [])) e
    where
      go : (t : Bool) → (if t then [] else flag_word_fault c again (long_of word) word h) ≡ []
          → kept (if t then (h, trailing position) else long_or_other c waiting word (long_of word) h).0
      go true e = k
      go false e = flag_word_kept waiting word (long_of word) h e k

  word_kept : (names : Names) (t : Bool) (waiting : Waiting) (position : ℕ) (word : Text) (h : Held)
      → word_fault s names t waiting word h ≡ [] → kept h
      → kept (word_met c names t waiting position word h).0
  word_kept names true waiting position word h e k = k
  word_kept names false waiting position word h e k =
      other_kept (subcommand_met names waiting word) waiting position word h e k

  positional_kept : (a : Rule) (word : Text) (h : Held) → positional_fault c again a h ≡ [] → kept h
      → kept (positional_held c a word h)
  positional_kept a word h e k = go (is_pending a h.pending && takes_several a) e
    where
      go : (t : Bool) → (if t then [] else settle_fault c again h) ≡ []
          → kept (if t then h else settled c h)
      go true e = k
      go false e = settled_kept h e k

  to_positional_kept : (o : Option Rule) (word : Text) (w : Walk) (h : Held)
      → option_map_or (λ a. positional_fault c again a h) o (stray_fault s) ≡ [] → kept h
      → kept (to_positional c o word w h).held
  to_positional_kept None word w h e k = k
  to_positional_kept (Some a) word w h e k = positional_kept a word h e k

  step_kept : (step : Step) (word : Text) (w : Walk) (h : Held)
      → step_fault s w.position h step ≡ [] → kept h → kept (after_step c word w h step).held
  step_kept (next waiting) word w h e k = k
  step_kept (trailing position) word w h e k = k
  step_kept (subcommand name) word w h e k = k
  step_kept value word w h e k = to_positional_kept (arg_by_index c w.position) word w h e k

  turn_kept : (names : Names) (w : Walk) (word : Text) → turn_fault s names w word ≡ []
      → kept w.held → kept (walked c names w word).held
  unfolding walked
  turn_kept names w word e k = go w.stopped e
    where
      met : Held × Step
      met = word_met c names w.is_trailing w.waiting w.position word w.held

      go : (o : Option (Text × List Text))
          → (if is_some o then [] else or_else (word_fault s names w.is_trailing w.waiting word w.held)
          (step_fault s w.position met.0 met.1)) ≡ [] → kept (walked_from c names o w word).held
      go (Some p) e = k
      go None e = step_kept met.1 word w met.0 (second_none _ _ e)
          (word_kept names w.is_trailing w.waiting w.position word w.held (first_none _ _ e) k)

  walk_kept : (names : Names) (words : List Text) (w : Walk) → walk_fault s names w words ≡ []
      → kept w.held → kept (fold (walked c names) w words).held
  unfolding walk_fault
  walk_kept names [] w e k = k
  walk_kept names (word ∷ words) w e k =
      walk_kept names words (walked c names w word) (second_none _ _ e)
      (turn_kept names w word (first_none _ _ e) k)

  -- ---- after the words

  default_kept : (a : Rule) (rows : List Row) → have_values id rows ≡ true
      → have_values id (with_default rows a) ≡ true
  default_kept a rows k = go (has_row a.id rows)
    where
      given : (values : List Text)
          → have_values id (default_rows a.id (reading_by a) values rows) ≡ true
      given [] = k
      given (v ∷ vs) = with_values_kept id a.id _ DefaultValue (v ∷ vs) rows
          (or-true (not (bytes_eq a.id id))) k

      go : (t : Bool) → have_values id (if t then rows else default_rows a.id (reading_by a) a.defaults rows) ≡ true
      go true = k
      go false = given a.defaults

  defaults_kept : (rules : List Rule) (rows : List Row) → have_values id rows ≡ true
      → have_values id (fold with_default rows rules) ≡ true
  defaults_kept [] rows k = k
  defaults_kept (a ∷ rules) rows k = defaults_kept rules (with_default rows a) (default_kept a rows k)

  -- the rows of words at which no step fails
  pub rows_kept : (names : Names) (words : List Text)
      → walk_fault s names (walk_from nothing_held) words ≡ []
      → settle_fault s.rules s.args_override_self (walk s.rules names nothing_held words).held ≡ []
      → have_values id (rows_after s.rules names words) ≡ true
  rows_kept names words e settles =
      let end = (walk c names nothing_held words).held in
      defaults_kept c (settled c end).rows
      (settled_kept end settles (walk_kept names words (walk_from nothing_held) e refl))

-- ---- the value

first_in : (values : List Text) → has_some values ≡ true → (v : Text) × (slice_get values 0 ≡ Some v)
first_in [] h = cc
first_in (v ∷ vs) h = (v, refl)

-- the value of an argument that was given
pub given_value : (id : Text) (rows : List Row) → have_values id rows ≡ true
    → is_given id rows ≡ true → (v : Text) × (first_of id rows ≡ Some v)
given_value id rows kept given = go (find (λ r. bytes_eq r.id id) rows) refl given
  where
    go : (o : Option Row) → find (λ r. bytes_eq r.id id) rows ≡ o
        → option_map_or (λ r. explicit_source r.source) o false ≡ true
        → (v : Text) × (option_and_then (λ r. slice_get r.values 0) o ≡ Some v)
    go None at e = cc
    go (Some r) at e =
        let full = found_passes _ (has_value id) rows r kept at in
        let same : bytes_eq r.id id ≡ true = found_is _ rows r at in
        first_in r.values (rw same at full)
