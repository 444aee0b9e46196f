-- Each candidate begins with the word, or comes from a completer or a folder.
use Rattle.std.proofs.Common.{◌≡◌, ◌⊎◌, ◌∙◌, ap, inl, inr, refl, subst, sym, zero, suc, ℕ, List, [], ◌∷◌, ◌++◌, append_assoc}
use Rattle.std.specs.Prelude.{Bool, true, false, Option, Some, None, Contains, IsUtf8, ◌==◌, chars, codes, encode_utf8, encode_utf8_all, filter, find, flat_map, get_or, map, nat_eq, nat_le, string_bytes, if◌then◌else◌}
use Rattle.std.specs.List.{AllByRecursion, dedup, starts_with}
use Rattle.std.specs.Ordering.{eq_by_cmp, is_lt}
use Rattle.std.specs.declared.string.String.{String}
use Rattle.std.proofs.lemmas.Bool.{cases_Bool, eqb-true}
use Rattle.std.proofs.lemmas.List.{take-append-drop}
use Rattle.std.proofs.lemmas.List.Elements.{All-from_recursion, recursion_from_All}
use Rattle.std.proofs.lemmas.List.Filters.{All-dedup}
use Rattle.std.proofs.lemmas.Str.{IsUtf8-nil, IsUtf8-past_char, IsUtf8-string_bytes, encodes-chars}
use Rattle.cc_base.specs.Bytes.{dash, equals}
use Rattle.cc_arg.specs.declared.parts.ArgParts.{ArgParts as Arg}
use Rattle.cc_arg.specs.declared.possible_value.PossibleValue.{PossibleValue}
use Rattle.cc_arg.specs.Arguments.{possible_values}
use Rattle.cc_arg.specs.Printed.{printed}
use Rattle.cc_arg.specs.ShownNames.{shown_longs, shown_shorts}
use Rattle.cc_base.specs.Sorting.{in_order}
use Rattle.cc_base.proofs.Members.{Contains-from_IsIn, IsIn-append_left, IsIn-append_right, AllByRecursion-append, AllByRecursion-flat_map, AllByRecursion-from_IsIn, AllByRecursion-map, AllByRecursion-weaker}
use Rattle.cc_base.proofs.Sorted.{AllByRecursion-in_order}
use Rattle.cc_candidates.specs.Beginning.{begins}
use Rattle.cc_candidates.specs.Candidate.{candidate_cmp}
use Rattle.cc_candidates.specs.declared.candidate.CompletionCandidate.{CompletionCandidate}
use Rattle.cc_base.specs.declared.numbers.ArgValueCandidates.{ArgValueCandidates}
use Rattle.cc_base.specs.declared.numbers.ArgValueCompleter.{ArgValueCompleter}
use Rattle.cc_command.specs.Tree.{Tree}
use Rattle.cc_engine.specs.Children.{children_candidates, external, in_candidates_order, subcommand_candidates}
use Rattle.cc_engine.specs.Finished.{comes_before, finish, first_of_ids, group, shown_or_all}
use Rattle.cc_engine.specs.OwnLongs.{has_own_long}
use Rattle.cc_engine.specs.Numbers.{is_number}
use Rattle.cc_engine.specs.Options.{hidden_candidates, long_candidate, long_candidates, longs, short_candidate, short_candidates, shorts}
use Rattle.cc_engine.specs.OptionMatches.{after_equals, after_one_dash, after_two_dashes, value_query_after, cluster_match, flag_match, long_match, with_prefix, match_of, short_match, without_end}
use Rattle.cc_engine.specs.declared.gathering.options.OptionMatch.{OptionMatch}
use Rattle.cc_engine.specs.declared.gathering.options.OptionMatch.TheVariants.{Listed, ValuesOf}
use Rattle.cc_engine.proofs.FirstOfIds.{all-first_of_ids, passing}
use Rattle.cc_engine.proofs.FinishingLaws.{all-shown}
use Rattle.cc_engine.proofs.WordKinds.{ends_past_dash, with_end}
use Rattle.cc_engine.proofs.LastPosition.{begins_so, so_begins}
use Rattle.cc_engine.specs.Parts.{front, front_length, part}
use Rattle.cc_engine.specs.Values.{Allows, MayReturn, Question, as_value, completer, gather, gathered_by, is_path, paths, question, question_by, question_of_hint, sorted, value_candidate, values}
use Rattle.cc_engine.specs.declared.walking.word_class.ValueCharacter.{ValueCharacter}
use Rattle.cc_engine.specs.declared.walking.state.Pending.{Pending}
use Rattle.cc_engine.specs.declared.walking.state.Pending.TheVariants.{OptionOpen}
use Rattle.cc_engine.specs.declared.walking.state.State.{State}
use Rattle.cc_engine.specs.Lookup.{positional_at}
use Rattle.cc_engine.specs.WordClasses.{character_value, value_argument, value_character}
use Rattle.cc_engine.specs.Words.{EndsWith, before_equals}
use Rattle.cc_engine.specs.declared.open_lists.OpenLists.{OpenLists}
use Rattle.cc_engine.specs.Completion.{AreAllowed, BeginsOrIsCompleted, Returned, candidates_for, finished_last, questions_of_lists, offered, offered_children, offered_match, open_question, opened_values, positional_question, positional_values, questions, match_candidates, match_question, completed}
use Rattle.cc_engine.specs.OpenLists.{least, open_lists_by}

abbrev Candidates : Type 0
Candidates = List CompletionCandidate

-- what is so of each candidate that begins with a text
abbrev IsOfBeginning : (CompletionCandidate → Type 0) → List ℕ → Type 0
IsOfBeginning P word = (c : CompletionCandidate) → begins word c ≡ true → P c

-- TEXTS

put_before : (before text word value : List ℕ) → before ++ text ≡ word → starts_with nat_eq value text ≡ true → starts_with nat_eq (before ++ value) word ≡ true
put_before before text word value is e =
    let (rest, split) = begins_so value text e in
    so_begins (before ++ value) word rest
    (ap (λ v. before ++ v) split ∙ sym (append_assoc before text rest) ∙ ap (λ w. w ++ rest) is)

-- LISTS

all_of : {X : Type 0} (P : X → Type 0) → ((x : X) → P x) → (xs : List X) → AllByRecursion P xs
all_of P h xs = AllByRecursion-from_IsIn P xs (λ x _. h x)

all_passed : (P : CompletionCandidate → Type 0) (p : CompletionCandidate → Bool) → ((c : CompletionCandidate) → p c ≡ true → P c)
    → (cs : Candidates) → AllByRecursion P (filter p cs)
all_passed P p ok cs = AllByRecursion-weaker (λ c. p c ≡ true) P ok (filter p cs) (passing p cs)

all_unmapped : {X Y : Type 0} (P : Y → Type 0) (f : X → Y) (xs : List X) → AllByRecursion P (map f xs) → AllByRecursion (λ x. P (f x)) xs
all_unmapped P f [] h = tt
all_unmapped P f (x ∷ xs) h = (h.0, all_unmapped P f xs h.1)

all_dedup : {X : Type 0} (P : X → Type 0) (same : X → X → Bool) (xs : List X) → AllByRecursion P xs → AllByRecursion P (dedup same xs)
all_dedup P same xs h = recursion_from_All P (dedup same xs) (All-dedup same P xs (All-from_recursion P xs h))

-- THE CHILDREN

all_subcommands : (P : CompletionCandidate → Type 0) (word : List ℕ) → IsOfBeginning P word → (tree : Tree) (programs : Candidates)
    → AllByRecursion P (subcommand_candidates tree programs word)
unfolding subcommand_candidates in_candidates_order
all_subcommands P word ok tree programs =
    let kept = filter (begins word) (children_candidates tree.node tree.children ++ external tree.node programs) in
    all_dedup P (eq_by_cmp candidate_cmp) (in_order (λ x y. is_lt (candidate_cmp x y)) kept)
    (AllByRecursion-in_order (λ x y. is_lt (candidate_cmp x y)) P kept
    (all_passed P (begins word) ok (children_candidates tree.node tree.children ++ external tree.node programs)))

all_children : (P : CompletionCandidate → Type 0) (word : List ℕ) → IsOfBeginning P word → (offers : Bool) (tree : Tree) (returned : Candidates)
    → AllByRecursion P (offered_children offers tree word returned)
all_children P word ok true tree returned = all_subcommands P word ok tree returned
all_children P word ok false tree returned = tt

-- THE VALUES OF AN ARGUMENT

module _ (sources : MayReturn) (P : CompletionCandidate → Type 0) (arg : Arg) (number : ℕ) (word : List ℕ) (returned : Candidates) (ok : IsOfBeginning P word) where
  abbrev typed : List ℕ
  typed = part arg.value_delimiter word

  abbrev made : CompletionCandidate → CompletionCandidate
  made = as_value (front arg.value_delimiter word) (printed arg)

  made_begins : (c : CompletionCandidate) → begins typed c ≡ true → P (made c)
  made_begins c e =
      ok (made c) (put_before (front arg.value_delimiter word) typed word c.value (take-append-drop (front_length arg.value_delimiter word) word) e)

  all_made : (cs : Candidates) → AllByRecursion P (map made (filter (begins typed) cs))
  all_made cs = AllByRecursion-map P made (filter (begins typed) cs) (all_passed (λ c. P (made c)) (begins typed) made_begins cs)

  by_hint : (b : Bool) → Allows sources (question_of_hint b arg.value_hint typed) returned
      → AllByRecursion P (completed (question_of_hint b arg.value_hint typed) (map made (sorted returned))) → AllByRecursion P (map made (sorted returned))
  unfolding sorted in_order
  by_hint true allowed h = h
  by_hint false allowed h = subst (λ g. AllByRecursion P (map made (sorted g))) (sym allowed) tt

  by_sources : (one : Option ArgValueCompleter) (list : Option ArgValueCandidates) (possible : Option (List PossibleValue))
      → Allows sources (question_by one list possible arg.value_hint number typed) returned
      → AllByRecursion P (completed (question_by one list possible arg.value_hint number typed) (map made (gathered_by one list possible typed returned)))
      → AllByRecursion P (map made (gathered_by one list possible typed returned))
  by_sources (Some which) list possible allowed h = h
  by_sources None (Some which) possible allowed h = all_made returned
  by_sources None None (Some possible) allowed h = all_made (map value_candidate possible)
  by_sources None None None allowed h = by_hint (is_path arg.value_hint) allowed h

  all_values : Allows sources (question arg number typed) returned → AllByRecursion P (completed (question arg number typed) (values arg word returned)) → AllByRecursion P (values arg word returned)
  unfolding question values gather
  all_values allowed h = by_sources arg.completer arg.candidates (possible_values arg) allowed h

all_positional : (sources : MayReturn) (P : CompletionCandidate → Type 0) (word : List ℕ) → IsOfBeginning P word
    → (positional : Option Arg) (number : Option ℕ) (returned : Candidates)
    → Allows sources (positional_question positional number word) returned
    → AllByRecursion P (completed (positional_question positional number word) (positional_values positional number word returned))
    → AllByRecursion P (positional_values positional number word returned)
all_positional sources P word ok (Some arg) (Some number) returned allowed h = all_values sources P arg number word returned ok allowed h
all_positional sources P word ok _ _ returned allowed h = tt

all_opened : (sources : MayReturn) (P : CompletionCandidate → Type 0) (word : List ℕ) → IsOfBeginning P word
    → (pending : Pending) (returned : Candidates)
    → Allows sources (open_question pending word) returned
    → AllByRecursion P (completed (open_question pending word) (opened_values pending word returned))
    → AllByRecursion P (opened_values pending word returned)
all_opened sources P word ok (OptionOpen option count) returned allowed h = all_values sources P option count word returned ok allowed h
all_opened sources P word ok _ returned allowed h = tt

-- THE OPTIONS

-- each listed candidate has the property, or the text before the value and the text of the value
-- together are the word
abbrev Fits : (CompletionCandidate → Type 0) → List ℕ → OptionMatch → Type 0
Fits P word (Listed found) = AllByRecursion P found
Fits P word (ValuesOf wanted) = wanted.before ++ wanted.text ≡ word

all_shorts : (P : CompletionCandidate → Type 0) (before : List ℕ) → IsOfBeginning P before → (arguments : List Arg) → AllByRecursion P (shorts before arguments)
unfolding shorts
all_shorts P before ok arguments =
    AllByRecursion-flat_map P (short_candidates before) arguments
    (all_of (λ a. AllByRecursion P (short_candidates before a))
    (λ a. AllByRecursion-map P (short_candidate before a) (shown_shorts a)
    (all_of (λ s. P (short_candidate before a s))
    (λ s. ok (short_candidate before a s) (so_begins (before ++ encode_utf8 s) before (encode_utf8 s) refl)) (shown_shorts a))) arguments)

all_longs : (P : CompletionCandidate → Type 0) → ((a : Arg) (hidden : Bool) (name : List ℕ) → P (long_candidate a hidden name))
    → (arguments : List Arg) → AllByRecursion P (longs arguments)
unfolding longs
all_longs P ok arguments =
    AllByRecursion-append P (flat_map long_candidates arguments) (flat_map hidden_candidates arguments)
    (AllByRecursion-flat_map P long_candidates arguments
    (all_of (λ a. AllByRecursion P (long_candidates a))
    (λ a. AllByRecursion-map P (long_candidate a a.hide) (shown_longs a) (all_of (λ name. P (long_candidate a a.hide name)) (ok a a.hide) (shown_longs a))) arguments))
    (AllByRecursion-flat_map P hidden_candidates arguments
    (all_of (λ a. AllByRecursion P (hidden_candidates a))
    (λ a. AllByRecursion-map P (long_candidate a true) a.aliases (all_of (λ name. P (long_candidate a true name)) (ok a true) a.aliases)) arguments))

equals_split : (s t : List ℕ) → after_equals s ≡ Some t → before_equals s ++ (equals ∷ t) ≡ s
equals_split [] t h = cc
equals_split (c ∷ s) t h = by (c == equals) refl h (equals_split s t)
  where
    by : (b : Bool) → (c == equals) ≡ b → (if b then Some s else after_equals s) ≡ Some t → (after_equals s ≡ Some t → before_equals s ++ (equals ∷ t) ≡ s)
        → (if b then [] else c ∷ before_equals s) ++ (equals ∷ t) ≡ c ∷ s
    by true e h more = let is : s ≡ t = cc in ap (λ x. x ∷ t) (sym (eqb-true c equals e)) ∙ ap (λ r. c ∷ r) (sym is)
    by false e h more = ap (λ r. c ∷ r) (more h)

flag_fits : (P : CompletionCandidate → Type 0) (named : Option Arg) (flag text long : List ℕ) → flag ++ (equals ∷ text) ≡ long
    → Fits P (codes "--" ++ long) (flag_match named flag text)
flag_fits P None flag text long is = tt
flag_fits P (Some argument) flag text long is = ap (λ r. codes "--" ++ r) (append_assoc flag (codes "=") text ∙ is)

long_fits : (P : CompletionCandidate → Type 0) (arguments : List Arg) (long : List ℕ) (o : Option (List ℕ)) → after_equals long ≡ o
    → IsOfBeginning P (codes "--" ++ long) → Fits P (codes "--" ++ long) (long_match arguments long o)
long_fits P arguments long None e ok = all_passed P (begins (codes "--" ++ long)) ok (longs arguments)
long_fits P arguments long (Some text) e ok =
    flag_fits P (find (has_own_long (before_equals long)) arguments) (before_equals long) text long (equals_split long text e)

two_fits : (P : CompletionCandidate → Type 0) (arguments : List Arg) (t : List ℕ) → IsOfBeginning P (dash ∷ dash ∷ t) → Fits P (dash ∷ dash ∷ t) (after_two_dashes arguments t)
two_fits P arguments [] ok =
    all_longs P (λ a hidden name. ok (long_candidate a hidden name) (so_begins (codes "--" ++ name) (dash ∷ dash ∷ []) name refl)) arguments
two_fits P arguments (c ∷ t) ok = long_fits P arguments (c ∷ t) (after_equals (c ∷ t)) refl ok

wanted_whole : (argument : Arg) (before after : List ℕ) → (value_query_after argument before after).before ++ (value_query_after argument before after).text ≡ before ++ after
wanted_whole argument before [] = refl
wanted_whole argument before (c ∷ s) = elim (cases_Bool (c == equals)) [
  | inl t ↦ rw t (append_assoc before (codes "=") s ∙ ap (λ x. before ++ (x ∷ s)) (sym (eqb-true c equals t)))
  | inr f ↦ rw f refl
]

value_ends : (arguments : List Arg) (cs : List ℕ) (found : ValueCharacter) → value_character arguments cs ≡ Some found
    → EndsWith (encode_utf8_all cs) found.after
value_ends arguments [] found e = cc
value_ends arguments (c ∷ cs) found e = by (value_argument arguments c) e (value_ends arguments cs found)
  where
    by : (o : Option Arg) → character_value o cs (value_character arguments cs) ≡ Some found
        → (value_character arguments cs ≡ Some found → EndsWith (encode_utf8_all cs) found.after)
        → EndsWith (encode_utf8 c ++ encode_utf8_all cs) found.after
    by None h more =
        let (leading, is) = more h in
        (encode_utf8 c ++ leading, ap (λ s. encode_utf8 c ++ s) is ∙ sym (append_assoc (encode_utf8 c) leading found.after))
    by (Some a) h more =
        let is : encode_utf8_all cs ≡ found.after = cc in
        (encode_utf8 c, ap (λ s. encode_utf8 c ++ s) is)

short_fits : (P : CompletionCandidate → Type 0) (arguments : List Arg) (after : List ℕ) → IsUtf8 after → IsOfBeginning P (codes "-" ++ after)
    → Fits P (codes "-" ++ after) (short_match arguments after)
short_fits P arguments after valid ok = by (is_number after)
  where
    listed : (o : Option ValueCharacter) → value_character arguments (chars after) ≡ o → Fits P (codes "-" ++ after) (cluster_match arguments (codes "-" ++ after) o)
    listed None e = all_shorts P (codes "-" ++ after) ok arguments
    listed (Some found) e =
        let word : List ℕ = codes "-" ++ after in
        let ends : EndsWith after found.after = subst (λ s. EndsWith s found.after) (encodes-chars after valid) (value_ends arguments (chars after) found e) in
        wanted_whole found.argument (without_end word found.after) found.after ∙ with_end word found.after (ends_past_dash word after found.after refl ends)

    by : (b : Bool) → Fits P (codes "-" ++ after) (if b then Listed [] else cluster_match arguments (codes "-" ++ after) (value_character arguments (chars after)))
    by true = tt
    by false = listed (value_character arguments (chars after)) refl

past_dash : (after : List ℕ) → IsUtf8 (dash ∷ after) → IsUtf8 after
unfolding lib.Utf8.encode
past_dash after valid = IsUtf8-past_char (dash ∷ after) after dash valid refl

dash_fits : (P : CompletionCandidate → Type 0) (arguments : List Arg) (s : List ℕ) → IsUtf8 (dash ∷ s) → IsOfBeginning P (dash ∷ s) → Fits P (dash ∷ s) (after_one_dash arguments s)
dash_fits P arguments [] valid ok =
    AllByRecursion-append P (shorts (codes "-") arguments) (longs arguments) (all_shorts P (codes "-") ok arguments)
    (all_longs P (λ a hidden name. ok (long_candidate a hidden name) (so_begins (codes "--" ++ name) (dash ∷ []) (dash ∷ name) refl)) arguments)
dash_fits P arguments (c ∷ s) valid ok = by (c == dash) refl
  where
    by : (b : Bool) → (c == dash) ≡ b → Fits P (dash ∷ c ∷ s) (if b then after_two_dashes arguments s else short_match arguments (c ∷ s))
    by true e =
        subst (λ x. IsOfBeginning P (dash ∷ x ∷ s) → Fits P (dash ∷ x ∷ s) (after_two_dashes arguments s)) (sym (eqb-true c dash e)) (two_fits P arguments s) ok
    by false e = short_fits P arguments (c ∷ s) (past_dash (c ∷ s) valid) ok

match_fits : (P : CompletionCandidate → Type 0) (arguments : List Arg) (word : List ℕ) → IsUtf8 word → IsOfBeginning P word → Fits P word (match_of arguments word)
unfolding match_of
match_fits P arguments [] valid ok =
    all_of P (λ c. ok c (so_begins c.value [] c.value refl)) (longs arguments ++ shorts (codes "-") arguments)
match_fits P arguments (c ∷ s) valid ok = by (c == dash) refl
  where
    by : (b : Bool) → (c == dash) ≡ b → Fits P (c ∷ s) (if b then after_one_dash arguments s else Listed [])
    by true e =
        subst (λ x. IsUtf8 (x ∷ s) → IsOfBeginning P (x ∷ s) → Fits P (x ∷ s) (after_one_dash arguments s)) (sym (eqb-true c dash e)) (dash_fits P arguments s) valid ok
    by false e = tt

completed_unmapped : (P : CompletionCandidate → Type 0) (f : CompletionCandidate → CompletionCandidate) (wanted : Question) (cs : Candidates)
    → AllByRecursion P (completed wanted (map f cs)) → AllByRecursion (λ c. P (f c)) (completed wanted cs)
completed_unmapped P f (completer which number text) cs h = all_unmapped P f cs h
completed_unmapped P f (paths hint text) cs h = all_unmapped P f cs h
completed_unmapped P f _ cs h = tt

all_matched : (sources : MayReturn) (P : CompletionCandidate → Type 0) (word : List ℕ) → IsOfBeginning P word → (matched : OptionMatch) → Fits P word matched → (returned : Candidates)
    → Allows sources (match_question matched) returned → AllByRecursion P (completed (match_question matched) (match_candidates matched returned)) → AllByRecursion P (match_candidates matched returned)
all_matched sources P word ok (Listed found) fits returned allowed h = fits
all_matched sources P word ok (ValuesOf wanted) fits returned allowed h =
    AllByRecursion-map P (with_prefix wanted.before) (values wanted.argument wanted.text returned)
    (all_values sources (λ c. P (with_prefix wanted.before c)) wanted.argument 0 wanted.text returned
    (λ c e. ok (with_prefix wanted.before c) (put_before wanted.before wanted.text word c.value fits e)) allowed
    (completed_unmapped P (with_prefix wanted.before) (match_question (ValuesOf wanted)) (values wanted.argument wanted.text returned) h))

offered_fits : (P : CompletionCandidate → Type 0) (offers : Bool) (arguments : List Arg) (word : List ℕ) → IsUtf8 word → IsOfBeginning P word
    → Fits P word (offered_match offers arguments word)
offered_fits P true arguments word valid ok = match_fits P arguments word valid ok
offered_fits P false arguments word valid ok = tt

-- WHAT IS FINISHED

all_finished : (P : CompletionCandidate → Type 0) (cs : Candidates) → AllByRecursion P cs → AllByRecursion P (finish cs)
unfolding finish group
all_finished P cs h =
    AllByRecursion-in_order (comes_before (first_of_ids (shown_or_all cs))) P (first_of_ids (shown_or_all cs)) (all-first_of_ids P (shown_or_all cs) (all-shown P cs h))

all_finished_last : (P : CompletionCandidate → Type 0) (pending : Pending) (word : List ℕ) (returned besides : Candidates)
    → AllByRecursion P (opened_values pending word returned) → AllByRecursion P besides → AllByRecursion P (finished_last pending word returned besides)
all_finished_last P (OptionOpen option count) word returned besides h k = by (nat_le (least option) count)
  where
    by : (enough : Bool) → AllByRecursion P (if enough then values option word returned ++ finish besides else values option word returned)
    by true = AllByRecursion-append P (values option word returned) (finish besides) h (all_finished P besides k)
    by false = h
all_finished_last P _ word returned besides h k = k

-- THE LAW

all_offered : (sources : MayReturn) (P : CompletionCandidate → Type 0) (word : List ℕ) → IsUtf8 word → IsOfBeginning P word
    → (tree : Tree) (position : ℕ) (lists : OpenLists) (pending : Pending) (returned : Returned)
    → AreAllowed sources (questions_of_lists tree position lists pending word) returned
    → AllByRecursion P (completed (positional_question (positional_at tree.node.arguments position) lists.value word)
    (positional_values (positional_at tree.node.arguments position) lists.value word returned.positional))
    → AllByRecursion P (completed (match_question (offered_match lists.options tree.node.arguments word)) (match_candidates (offered_match lists.options tree.node.arguments word) returned.within))
    → AllByRecursion P (offered tree position lists word returned)
all_offered sources P word valid ok tree position lists pending returned allowed values within =
    let positional = positional_values (positional_at tree.node.arguments position) lists.value word returned.positional in
    let children = offered_children lists.children tree word returned.children in
    AllByRecursion-append P (children ++ positional) (match_candidates (offered_match lists.options tree.node.arguments word) returned.within)
    (AllByRecursion-append P children positional (all_children P word ok lists.children tree returned.children)
    (all_positional sources P word ok (positional_at tree.node.arguments position) lists.value returned.positional allowed.positional values))
    (all_matched sources P word ok (offered_match lists.options tree.node.arguments word) (offered_fits P lists.options tree.node.arguments word valid ok) returned.within allowed.within within)

pub begins_or_is_completed : (sources : MayReturn) (tree : Tree) (state : State) (word : List ℕ) (returned : Returned) (found : Candidates) → IsUtf8 word
    → AreAllowed sources (questions tree state word) returned → found ≡ candidates_for tree state word returned
    → BeginsOrIsCompleted tree state word returned found
begins_or_is_completed sources tree state word returned found valid allowed is =
    let lists = open_lists_by tree.node.arguments state.position state.escaped state.pending in
    let positional = completed (positional_question (positional_at tree.node.arguments state.position) lists.value word)
    (positional_values (positional_at tree.node.arguments state.position) lists.value word returned.positional) in
    let within = completed (match_question (offered_match lists.options tree.node.arguments word)) (match_candidates (offered_match lists.options tree.node.arguments word) returned.within) in
    let opened = completed (open_question state.pending word) (opened_values state.pending word returned.opened) in
    let P : CompletionCandidate → Type 0 = λ c. (begins word c ≡ true) ⊎ Contains (positional ++ (within ++ opened)) c in
    let ok : IsOfBeginning P word = λ c e. inl e in
    let all : Candidates = positional ++ (within ++ opened) in
    subst (AllByRecursion P) (sym is)
    (all_finished P (finished_last state.pending word returned.opened (offered tree state.position lists word returned))
    (all_finished_last P state.pending word returned.opened (offered tree state.position lists word returned)
    (all_opened sources P word ok state.pending returned.opened allowed.opened
    (AllByRecursion-from_IsIn P opened
    (λ c h. inr (Contains-from_IsIn all c (IsIn-append_right positional (within ++ opened) c (IsIn-append_right within opened c h))))))
    (all_offered sources P word valid ok tree state.position lists state.pending returned allowed
    (AllByRecursion-from_IsIn P positional (λ c h. inr (Contains-from_IsIn all c (IsIn-append_left positional (within ++ opened) c h))))
    (AllByRecursion-from_IsIn P within
    (λ c h. inr (Contains-from_IsIn all c (IsIn-append_right positional (within ++ opened) c (IsIn-append_left within opened c h))))))))

-- a word of a list of texts is text
pub text_at : {Z : Type 0} (words : List (String Z)) (index : ℕ) → IsUtf8 (get_or (map string_bytes words) index [])
text_at [] index = IsUtf8-nil
text_at (word ∷ words) zero = IsUtf8-string_bytes word
text_at (word ∷ words) (suc index) = text_at words index
