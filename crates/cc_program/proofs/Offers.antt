-- The parser accepts each candidate at the root.
use Rattle.std.proofs.Common.{◌≡◌, ◌∙◌, ◌⊎◌, ◌==◌, ◌||◌, ◌&&◌, ℕ, Bool, true, false, not, cond, eq-eqb, eqb-true, true≢false, arith, length, is_some, List, [], ◌∷◌, ◌++◌, map, Option, Some, None, refl, sym, ap, subst, inl, inr, flat_map}
use Rattle.std.specs.Prelude.{chars, codes, filter, find, get_or, nat_le}
use Rattle.std.specs.List.{AllByRecursion, dedup, dedup_from, list_all, list_any}
use Rattle.std.specs.Option.{option_map_or}
use Rattle.std.specs.Ordering.{eq_by_cmp}
use Rattle.std.specs.Str.{bytes_eq}
use Rattle.std.proofs.Math.Bool.{or-true}
use Rattle.std.proofs.lemmas.Bool.{ne_eqb, and_parts}
use Rattle.std.proofs.lemmas.Slice.Eq.{bytes_eq-Decides}
use Rattle.cc_arg.specs.declared.parts.ArgParts.{ArgParts as Arg}
use Rattle.cc_arg.specs.ShownNames.{shown_longs, shown_shorts, with_aliases}
use Rattle.cc_base.specs.Bytes.{dash}
use Rattle.cc_base.specs.Sorting.{in_order}
use Rattle.cc_base.proofs.Members.{AllByRecursion-IsIn, AllByRecursion-append, AllByRecursion-filter, AllByRecursion-flat_map, AllByRecursion-from_IsIn, AllByRecursion-map, Contains-from_IsIn, IsIn, IsIn-append_left, IsIn-append_right}
use Rattle.cc_base.proofs.Sorted.{AllByRecursion-in_order}
use Rattle.cc_candidates.specs.Beginning.{begins}
use Rattle.cc_candidates.specs.Candidate.{candidate_cmp, comes_before as candidate_before}
use Rattle.cc_candidates.specs.declared.candidate.CompletionCandidate.{CompletionCandidate}
use Rattle.cc_command.specs.Names.{visible_names}
use Rattle.cc_command.specs.Tree.{Forest, none, more, Tree}
use Rattle.cc_command.specs.declared.node.Node.{Node}
use Rattle.cc_engine.specs.Completion.{Completes, Returned, candidates_for, finished_last, offered, offered_children, offered_match, opened_values, positional_values, match_candidates}
use Rattle.cc_engine.specs.OpenLists.{least, open_lists_by}
use Rattle.cc_engine.specs.Children.{child_candidate, child_candidates, children_candidates, external, in_candidates_order, subcommand_candidates}
use Rattle.cc_engine.specs.Finished.{comes_before, finish, first_of_ids, group, shown_or_all}
use Rattle.cc_engine.specs.OwnLongs.{has_own_long}
use Rattle.cc_engine.specs.Numbers.{is_number}
use Rattle.cc_engine.specs.Options.{hidden_candidates, long_candidate, long_candidates, longs, short_candidate, short_candidates, shorts}
use Rattle.cc_engine.specs.OptionMatches.{after_equals, after_one_dash, after_two_dashes, cluster_match, flag_match, long_match, match_of, short_match}
use Rattle.cc_engine.specs.declared.gathering.options.OptionMatch.{OptionMatch}
use Rattle.cc_engine.specs.declared.gathering.options.OptionMatch.TheVariants.{Listed, ValuesOf}
use Rattle.cc_engine.proofs.FirstOfIds.{all-first_of_ids}
use Rattle.cc_engine.proofs.FinishingLaws.{all-shown}
use Rattle.cc_parser.specs.Parsers.{IsAppOf, has_globals}
use Rattle.cc_parser.specs.Taken.{fits_parser, has_index_or_name, KnowsChild, KnowsLong, KnowsShort, TakesNames, TakesOffered, TakesSiblings}
use Rattle.cc_program.specs.ParserAgreement.{AgreesWithParser, IsParserOf, IsTaken, match_values, values_among}
use Rattle.cc_engine.specs.Values.{MayReturn, values}
use Rattle.cc_engine.specs.Lookup.{positional_at}
use Rattle.cc_engine.specs.WordClasses.{value_character}
use Rattle.cc_engine.specs.Words.{before_equals}
use Rattle.cc_engine.specs.declared.walking.state.Pending.{Pending}
use Rattle.cc_engine.specs.declared.walking.state.Pending.TheVariants.{OptionOpen}
use Rattle.cc_engine.specs.declared.walking.state.State.{State}
use Rattle.cc_engine.specs.declared.walking.word_class.ValueCharacter.{ValueCharacter}
use Rattle.clap.specs.Simple.{App}
use Rattle.clap.specs.Walk.{is_empty}

abbrev Candidates : Type 0
Candidates = List CompletionCandidate

-- ---- what holds for all still holds

all_dedup_from : {X : Type 0} (P : X → Type 0) (same : X → X → Bool) (k : X) (xs : List X) → P k → AllByRecursion P xs → AllByRecursion P (dedup_from same k xs)
all_dedup_from P same k [] pk h = (pk, tt)
all_dedup_from P same k (x ∷ xs) pk h = by (same x k) (all_dedup_from P same k xs pk h.1) (all_dedup_from P same x xs h.0 h.1)
  where
    by : (b : Bool) → AllByRecursion P (dedup_from same k xs) → AllByRecursion P (dedup_from same x xs)
        → AllByRecursion P (cond b (dedup_from same k xs) (k ∷ dedup_from same x xs))
    by true dropped last = dropped
    by false dropped last = (pk, last)

all_dedup : {X : Type 0} (P : X → Type 0) (same : X → X → Bool) (xs : List X) → AllByRecursion P xs → AllByRecursion P (dedup same xs)
all_dedup P same [] h = tt
all_dedup P same (x ∷ xs) h = all_dedup_from P same x xs h.0 h.1

all_finished : (P : CompletionCandidate → Type 0) (cs : Candidates) → AllByRecursion P cs → AllByRecursion P (finish cs)
unfolding finish group
all_finished P cs h =
    AllByRecursion-in_order (comes_before (first_of_ids (shown_or_all cs))) P (first_of_ids (shown_or_all cs)) (all-first_of_ids P (shown_or_all cs) (all-shown P cs h))

all_finished_last : (P : CompletionCandidate → Type 0) (pending : Pending) (word : List ℕ) (returned besides : Candidates)
    → AllByRecursion P (opened_values pending word returned) → AllByRecursion P besides → AllByRecursion P (finished_last pending word returned besides)
all_finished_last P (OptionOpen option count) word returned besides h k = by (nat_le (least option) count)
  where
    by : (enough : Bool) → AllByRecursion P (cond enough (values option word returned ++ finish besides) (values option word returned))
    by true = AllByRecursion-append P (values option word returned) (finish besides) h (all_finished P besides k)
    by false = h
all_finished_last P _ word returned besides h k = k

all_subcommands : (P : CompletionCandidate → Type 0) (word : List ℕ) (tree : Tree) (programs : Candidates)
    → AllByRecursion P (children_candidates tree.node tree.children) → AllByRecursion P (external tree.node programs)
    → AllByRecursion P (subcommand_candidates tree programs word)
unfolding subcommand_candidates in_candidates_order
all_subcommands P word tree programs children others =
    let kept = filter (begins word) (children_candidates tree.node tree.children ++ external tree.node programs) in
    all_dedup P (eq_by_cmp candidate_cmp) (in_order candidate_before kept)
    (AllByRecursion-in_order candidate_before P kept
    (AllByRecursion-filter P (begins word) (children_candidates tree.node tree.children ++ external tree.node programs)
    (AllByRecursion-append P (children_candidates tree.node tree.children) (external tree.node programs) children others)))

-- ---- the options of a word

module _ (P : CompletionCandidate → Type 0) (arguments : List Arg) (all_longs : AllByRecursion P (longs arguments))
    (word : List ℕ) (all_shorts : (before : List ℕ) → (before ≡ codes "-") ⊎ (before ≡ word) → AllByRecursion P (shorts before arguments)) where
  abbrev AreListed : OptionMatch → Type 0
  AreListed (Listed found) = AllByRecursion P found
  AreListed (ValuesOf wanted) = Unit {0}

  long_listed : (long : List ℕ) (text : Option (List ℕ)) → AreListed (long_match arguments long text)
  long_listed long None = AllByRecursion-filter P (begins (codes "--" ++ long)) (longs arguments) all_longs
  long_listed long (Some text) = flag (find (has_own_long (before_equals long)) arguments)
    where
      flag : (argument : Option Arg) → AreListed (flag_match argument (before_equals long) text)
      flag None = tt
      flag (Some a) = tt

  two_listed : (s : List ℕ) → AreListed (after_two_dashes arguments s)
  two_listed [] = all_longs
  two_listed (c ∷ s) = long_listed (c ∷ s) (after_equals (c ∷ s))

  short_listed : (after : List ℕ) → codes "-" ++ after ≡ word → AreListed (short_match arguments after)
  short_listed after is = by (is_number after)
    where
      cluster : (found : Option ValueCharacter) → AreListed (cluster_match arguments (codes "-" ++ after) found)
      cluster None = all_shorts (codes "-" ++ after) (inr is)
      cluster (Some found) = tt

      by : (b : Bool) → AreListed (cond b (Listed []) (cluster_match arguments (codes "-" ++ after) (value_character arguments (chars after))))
      by true = tt
      by false = cluster (value_character arguments (chars after))

  one_listed : (s : List ℕ) → codes "-" ++ s ≡ word → AreListed (after_one_dash arguments s)
  one_listed [] is = AllByRecursion-append P (shorts (codes "-") arguments) (longs arguments) (all_shorts (codes "-") (inl refl)) all_longs
  one_listed (c ∷ s) is = by (c == dash)
    where
      by : (b : Bool) → AreListed (cond b (after_two_dashes arguments s) (short_match arguments (c ∷ s)))
      by true = two_listed s
      by false = short_listed (c ∷ s) is

  match_listed : (w : List ℕ) → w ≡ word → AreListed (match_of arguments w)
  unfolding match_of
  match_listed [] is = AllByRecursion-append P (longs arguments) (shorts (codes "-") arguments) all_longs (all_shorts (codes "-") (inl refl))
  match_listed (c ∷ s) is = by (c == dash) refl
    where
      by : (b : Bool) → (c == dash) ≡ b → AreListed (cond b (after_one_dash arguments s) (Listed []))
      by true same = one_listed s (ap (λ d. d ∷ s) (sym (eqb-true c dash same)) ∙ is)
      by false same = tt

  offered_listed : (offers : Bool) → AreListed (offered_match offers arguments word)
  offered_listed true = match_listed word refl
  offered_listed false = tt

  all_match : (matched : OptionMatch) (returned : Candidates) → AreListed matched → AllByRecursion P (match_values matched returned) → AllByRecursion P (match_candidates matched returned)
  all_match (Listed found) returned listed h = listed
  all_match (ValuesOf wanted) returned listed h = h

-- ---- names that the parser accepts

same_bytes : (s : List ℕ) → bytes_eq s s ≡ true
same_bytes s = (bytes_eq-Decides s s).1 refl

any_there : {X : Type 0} (p : X → Bool) (xs : List X) (x : X) → IsIn xs x → p x ≡ true → list_any p xs ≡ true
any_there p [] x h e = absurd h
any_there p (y ∷ xs) x (inl same) e = ap (λ b. b || list_any p xs) (ap p same ∙ e)
any_there p (y ∷ xs) x (inr h) e = ap (λ b. p y || b) (any_there p xs x h e) ∙ or-true (p y)

-- an argument has each long of its own, visible or hidden
own_long : (short : Option ℕ) (long : Option (List ℕ)) (index : Option ℕ) (visible hidden : List (List ℕ)) (name : List ℕ)
    → cond (not (is_some short || is_some long)) (is_some index && is_empty hidden) (not (is_some index)) ≡ true
    → IsIn (with_aliases long visible ++ hidden) name
    → (not (is_some index) && (option_map_or (λ s. bytes_eq s name) long false || list_any (λ alias. bytes_eq alias name) (visible ++ hidden))) ≡ true
own_long None None (Some i) visible [] name h there = absurd there
own_long None None (Some i) visible (x ∷ hidden) name h there =
    absurd (true≢false (sym h ∙ ne_eqb (length (x ∷ hidden)) 0 (λ e. omega (arith, e))))
own_long None None None visible hidden name h there = absurd (true≢false (sym h))
own_long (Some s) None (Some i) visible hidden name h there = absurd (true≢false (sym h))
own_long (Some s) None None visible hidden name h there =
    any_there (λ alias. bytes_eq alias name) (visible ++ hidden) name (IsIn-append_right visible hidden name there) (same_bytes name)
own_long short (Some long) index visible hidden name h (inl same) =
    own_first short index h (ap (λ l. bytes_eq l name) same ∙ same_bytes name)
  where
    own_first : (short index : Option ℕ) → cond (not (is_some short || true)) (is_some index && is_empty hidden) (not (is_some index)) ≡ true
        → bytes_eq long name ≡ true
        → (not (is_some index) && (bytes_eq long name || list_any (λ alias. bytes_eq alias name) (visible ++ hidden))) ≡ true
    own_first None None h e = ap (λ b. b || list_any (λ alias. bytes_eq alias name) (visible ++ hidden)) e
    own_first (Some s) None h e = ap (λ b. b || list_any (λ alias. bytes_eq alias name) (visible ++ hidden)) e
    own_first None (Some i) h e = absurd (true≢false (sym h))
    own_first (Some s) (Some i) h e = absurd (true≢false (sym h))
own_long short (Some long) index visible hidden name h (inr there) =
    own_later short index h (any_there (λ alias. bytes_eq alias name) (visible ++ hidden) name there (same_bytes name))
  where
    own_later : (short index : Option ℕ) → cond (not (is_some short || true)) (is_some index && is_empty hidden) (not (is_some index)) ≡ true
        → list_any (λ alias. bytes_eq alias name) (visible ++ hidden) ≡ true
        → (not (is_some index) && (bytes_eq long name || list_any (λ alias. bytes_eq alias name) (visible ++ hidden))) ≡ true
    own_later None None h e = ap (λ b. bytes_eq long name || b) e ∙ or-true (bytes_eq long name)
    own_later (Some s) None h e = ap (λ b. bytes_eq long name || b) e ∙ or-true (bytes_eq long name)
    own_later None (Some i) h e = absurd (true≢false (sym h))
    own_later (Some s) (Some i) h e = absurd (true≢false (sym h))

-- the same for shorts; completion offers no hidden ones
own_short : (short : Option ℕ) (long : Option (List ℕ)) (index : Option ℕ) (visible hidden : List ℕ) (aliases : List (List ℕ)) (c : ℕ)
    → cond (not (is_some short || is_some long)) (is_some index && is_empty aliases) (not (is_some index)) ≡ true
    → IsIn (with_aliases short visible) c
    → (not (is_some index) && (option_map_or (λ s. s == c) short false || list_any (λ alias. alias == c) (visible ++ hidden))) ≡ true
own_short None long index visible hidden aliases c h there = absurd there
own_short (Some s) long (Some i) visible hidden aliases c h there = absurd (true≢false (sym h))
own_short (Some s) long None visible hidden aliases c h (inl same) =
    ap (λ b. b || list_any (λ alias. alias == c) (visible ++ hidden)) (ap (λ s. s == c) same ∙ eq-eqb c c refl)
own_short (Some s) long None visible hidden aliases c h (inr there) =
    ap (λ b. (s == c) || b) (any_there (λ alias. alias == c) (visible ++ hidden) c (IsIn-append_left visible hidden c there) (eq-eqb c c refl))
    ∙ or-true (s == c)

module _ (tree : Tree) (app : App) (takes : TakesOffered tree app) (tidy : list_all has_index_or_name tree.node.arguments ≡ true) (word : List ℕ)
    (others : Candidates) where
  abbrev P : CompletionCandidate → Type 0
  P = IsTaken tree app word others

  tidy_one : (args : List Arg) → list_all has_index_or_name args ≡ true → (a : Arg) → IsIn args a → has_index_or_name a ≡ true
  tidy_one [] h a there = absurd there
  tidy_one (b ∷ args) h a (inl same) = ap has_index_or_name (sym same) ∙ (and_parts (has_index_or_name b) (list_all has_index_or_name args) h).0
  tidy_one (b ∷ args) h a (inr there) = tidy_one args (and_parts (has_index_or_name b) (list_all has_index_or_name args) h).1 a there

  known_long : (a : Arg) → IsIn tree.node.arguments a → (hidden : Bool) (names : List (List ℕ))
      → ((name : List ℕ) → IsIn names name → IsIn (shown_longs a ++ a.aliases) name)
      → AllByRecursion P (map (long_candidate a hidden) names)
  known_long a there hidden names inside = AllByRecursion-map P (long_candidate a hidden) names
      (AllByRecursion-from_IsIn (λ name. P (long_candidate a hidden name)) names (λ name k. inl (inr (record {
        argument = a;
        there = Contains-from_IsIn tree.node.arguments a there;
        id = refl;
        name = name;
        value = refl;
        own = own_long a.short a.long a.index a.visible_aliases a.aliases name (tidy_one tree.node.arguments tidy a there) (inside name k);
        known = AllByRecursion-IsIn (KnowsLong app) (shown_longs a ++ a.aliases) name
            (AllByRecursion-IsIn (TakesNames app) tree.node.arguments a takes.names there).0 (inside name k);
        found = takes.longs name;
      }))))

  known_short : (a : Arg) → IsIn tree.node.arguments a → (before : List ℕ) → (before ≡ codes "-") ⊎ (before ≡ word)
      → AllByRecursion P (short_candidates before a)
  known_short a there before place = AllByRecursion-map P (short_candidate before a) (shown_shorts a)
      (AllByRecursion-from_IsIn (λ short. P (short_candidate before a short)) (shown_shorts a) (λ short k. inr (inl (record {
        argument = a;
        there = Contains-from_IsIn tree.node.arguments a there;
        id = refl;
        before = before;
        place = place;
        short = short;
        value = refl;
        own = own_short a.short a.long a.index a.visible_short_aliases a.short_aliases a.aliases short (tidy_one tree.node.arguments tidy a there) k;
        known = AllByRecursion-IsIn (KnowsShort app) (shown_shorts a) short
            (AllByRecursion-IsIn (TakesNames app) tree.node.arguments a takes.names there).1 k;
        found = takes.shorts short;
      }))))

  known_longs : AllByRecursion P (longs tree.node.arguments)
  unfolding longs
  known_longs =
      let args = tree.node.arguments in
      AllByRecursion-append P (flat_map long_candidates args) (flat_map hidden_candidates args)
      (AllByRecursion-flat_map P long_candidates args (AllByRecursion-from_IsIn (λ a. AllByRecursion P (long_candidates a)) args (λ a there.
      known_long a there a.hide (shown_longs a) (λ name k. IsIn-append_left (shown_longs a) a.aliases name k))))
      (AllByRecursion-flat_map P hidden_candidates args (AllByRecursion-from_IsIn (λ a. AllByRecursion P (hidden_candidates a)) args (λ a there.
      known_long a there true a.aliases (λ name k. IsIn-append_right (shown_longs a) a.aliases name k))))

  known_shorts : (before : List ℕ) → (before ≡ codes "-") ⊎ (before ≡ word) → AllByRecursion P (shorts before tree.node.arguments)
  unfolding shorts
  known_shorts before place = AllByRecursion-flat_map P (short_candidates before) tree.node.arguments
      (AllByRecursion-from_IsIn (λ a. AllByRecursion P (short_candidates before a)) tree.node.arguments (λ a there. known_short a there before place))

  known_children : (parent : Node) (forest : Forest) → TakesSiblings app forest → AllByRecursion P (children_candidates parent forest)
  known_children parent none h = tt
  known_children parent (more node below rest) h =
      AllByRecursion-append P (child_candidates parent node) (children_candidates parent rest)
      (AllByRecursion-append P (map (child_candidate parent node node.hide) (visible_names node)) (map (child_candidate parent node true) node.aliases)
      (names node.hide (visible_names node) (λ word k. IsIn-append_left (visible_names node) node.aliases word k))
      (names true node.aliases (λ word k. IsIn-append_right (visible_names node) node.aliases word k)))
      (known_children parent rest h.1)
    where
      names : (hidden : Bool) (words : List (List ℕ)) → ((word : List ℕ) → IsIn words word → IsIn (visible_names node ++ node.aliases) word)
          → AllByRecursion P (map (child_candidate parent node hidden) words)
      names hidden words inside = AllByRecursion-map P (child_candidate parent node hidden) words
          (AllByRecursion-from_IsIn (λ word. P (child_candidate parent node hidden word)) words (λ word k.
          inl (inl (AllByRecursion-IsIn (KnowsChild app) (visible_names node ++ node.aliases) word h.0 (inside word k)))))

  -- each of the values is one of the others
  values_there : (cs : Candidates) → ((c : CompletionCandidate) → IsIn cs c → IsIn others c) → AllByRecursion P cs
  values_there cs inside = AllByRecursion-from_IsIn P cs (λ c k. inr (inr (Contains-from_IsIn others c (inside c k))))

-- ---- THE PARSER ACCEPTS EACH CANDIDATE AT THE ROOT

pub all_taken : (tree : Tree) (app : App) → TakesOffered tree app → list_all has_index_or_name tree.node.arguments ≡ true
    → (state : State) (word : List ℕ) (returned : Returned)
    → AllByRecursion (IsTaken tree app word (values_among tree state word returned)) (candidates_for tree state word returned)
all_taken tree app takes tidy state word returned =
    let lists = open_lists_by tree.node.arguments state.position state.escaped state.pending in
    let programs : Candidates = external tree.node returned.children in
    let positional : Candidates = positional_values (positional_at tree.node.arguments state.position) lists.value word returned.positional in
    let within : Candidates = match_values (offered_match lists.options tree.node.arguments word) returned.within in
    let opened : Candidates = opened_values state.pending word returned.opened in
    let others : Candidates = values_among tree state word returned in
    let Q : CompletionCandidate → Type 0 = IsTaken tree app word others in
    let there : (cs : Candidates) → ((c : CompletionCandidate) → IsIn cs c → IsIn others c) → AllByRecursion Q cs = values_there tree app takes tidy word others in
    let children : AllByRecursion Q (offered_children lists.children tree word returned.children) = by_children others lists.children
    (all_subcommands Q word tree returned.children (known_children tree app takes tidy word others tree.node tree.children takes.children)
    (there programs (λ c k. IsIn-append_left programs (positional ++ (within ++ opened)) c k))) in
    let listed = offered_listed Q tree.node.arguments (known_longs tree app takes tidy word others) word (known_shorts tree app takes tidy word others) lists.options in
    let matched = all_match Q tree.node.arguments (known_longs tree app takes tidy word others) word (known_shorts tree app takes tidy word others) (offered_match lists.options tree.node.arguments word)
    returned.within listed (there within (λ c k. IsIn-append_right programs (positional ++ (within ++ opened)) c
    (IsIn-append_right positional (within ++ opened) c (IsIn-append_left within opened c k)))) in
    all_finished Q (finished_last state.pending word returned.opened (offered tree state.position lists word returned))
    (all_finished_last Q state.pending word returned.opened (offered tree state.position lists word returned)
    (there opened (λ c k. IsIn-append_right programs (positional ++ (within ++ opened)) c
    (IsIn-append_right positional (within ++ opened) c (IsIn-append_right within opened c k))))
    (AllByRecursion-append Q (offered_children lists.children tree word returned.children ++ positional) (match_candidates (offered_match lists.options tree.node.arguments word) returned.within)
    (AllByRecursion-append Q (offered_children lists.children tree word returned.children) positional children
    (there positional (λ c k. IsIn-append_right programs (positional ++ (within ++ opened)) c (IsIn-append_left positional (within ++ opened) c k))))
    matched))
  where
    by_children : (others : Candidates) (offers : Bool) → AllByRecursion (IsTaken tree app word others) (subcommand_candidates tree returned.children word)
        → AllByRecursion (IsTaken tree app word others) (offered_children offers tree word returned.children)
    by_children others true h = h
    by_children others false h = tt

pub agrees : (sources : MayReturn) (root : Tree) (app : App) (words : List (List ℕ)) (index : ℕ) (found : Candidates)
    → TakesOffered root app → fits_parser root ≡ true → Completes sources root words index found → AgreesWithParser sources root app words index found
agrees sources root app words index found takes fits completes = record {
  tree = completes.tree;
  state = completes.state;
  leads = completes.leads;
  only = completes.only;
  offers = completes.offers;
  taken = λ same. subst (AllByRecursion (IsTaken root app (get_or words index []) (values_among completes.tree completes.state (get_or words index []) completes.offers.0))) (sym completes.offers.2)
      (subst (λ (t : Tree). AllByRecursion (IsTaken root app (get_or words index []) (values_among t completes.state (get_or words index []) completes.offers.0))
      (candidates_for t completes.state (get_or words index []) completes.offers.0)) (sym same)
      (all_taken root app takes (and_parts (list_all has_index_or_name root.node.arguments) _ fits).0 completes.state (get_or words index []) completes.offers.0));
}

-- the same for the tree after building
pub agrees_built : (sources : MayReturn) (root new : Tree) (app : App) (words : List (List ℕ)) (index : ℕ) (found : Candidates) → new ≡ root
    → Completes sources new words index found → (has_globals new ≡ false → fits_parser new ≡ true → TakesOffered new app)
    → has_globals root ≡ false → fits_parser root ≡ true → AgreesWithParser sources root app words index found
agrees_built sources root new app words index found same completes takes local fits =
    subst (λ (tree : Tree). AgreesWithParser sources tree app words index found) same
    (agrees sources new app words index found (takes (ap has_globals same ∙ local) (ap fits_parser same ∙ fits)) (ap fits_parser same ∙ fits) completes)

pub completes_built : (sources : MayReturn) (root new : Tree) (words : List (List ℕ)) (index : ℕ) (found : Candidates) → new ≡ root
    → Completes sources new words index found → Completes sources root words index found
completes_built sources root new words index found same completes =
    subst (λ (tree : Tree). Completes sources tree words index found) same completes

pub parser_built : (root new : Tree) (app : App) (globals : Bool) → new ≡ root → (has_globals new ≡ false → IsAppOf new app)
    → globals ≡ has_globals new → (has_globals new ≡ false → fits_parser new ≡ true → TakesOffered new app)
    → IsParserOf root app globals
parser_built root new app globals same is counted taken =
    subst (λ (tree : Tree). IsParserOf tree app globals) same (record { is = is; same_globals = counted; taken = taken })
