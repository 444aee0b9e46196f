-- The lines of bash's list are read back, and two of them differ.
use Rattle.std.proofs.Common.{◌≡◌, ◌≢◌, ◌⊎◌, ◌==◌, ◌&&◌, ◌≤◌, ◌+◌, ◌-◌, ℕ, zero, suc, Bool, true, false, cond, List, [], ◌∷◌, ◌++◌, Option, Some, None, map, filter, option_map, replicate, codes, inl, inr, refl, sym, ◌∙◌, ap, ap₂, subst, arith, append-nil, flat_map, ◌||◌}
use Rattle.std.proofs.lemmas.Bool.{and_from, and_parts, ne_eqb, or_parts}
use Rattle.std.proofs.lemmas.List.Folds.{Any-from_list_any}
use Rattle.std.proofs.lemmas.Slice.Eq.{bytes_eq-Decides}
use Rattle.std.specs.List.{AllByRecursion, find, list_all, list_any}
use Rattle.std.specs.Option.{option_and_then}
use Rattle.std.specs.Prelude.{bytes_eq, is_some, nat_le, nat_lt, not}
use Rattle.std.specs.Fmt.{char_count, take_chars}
use Rattle.cc_base.specs.Bytes.{backslash, backtick, dollar, line_feed, single_quote}
use Rattle.cc_base.specs.Found.{after, with_front}
use Rattle.cc_base.proofs.Cases.{choose, option_cases}
use Rattle.cc_base.proofs.Finding.{with_front-append, with_front-nil}
use Rattle.cc_base.proofs.Lines.{regroup_six}
use Rattle.cc_base.proofs.Members.{AllByRecursion-append, Contains-from_IsIn, IsIn, IsIn-from_Contains, IsIn-map, map-IsIn}
use Rattle.cc_candidates.specs.declared.candidate.CompletionCandidate.{CompletionCandidate}
use Rattle.cc_quote.specs.BashDouble.{is_double_marked}
use Rattle.cc_quote.specs.Escapes.{marked}
use Rattle.cc_replies.specs.BashList.{BashListRead, Fits, HasDescription, HasTwo, bash_list_in, bash_list_reply, before_closing, closed_word, closing_quote, cut_description, described_text, description_of, description_read, has_other, has_two, is_described, is_escape, is_listed_word, list_line, list_line_read, list_room, longest_word, shown_in, shown_with, space, width_left, word_cut, word_end}
use Rattle.cc_replies.specs.BashWords.{Cursor, OpenQuote, Bare, Single, Double, bare_read, bare_text, bare_word_read, bash_line_word, bash_text, bash_value_read, bash_word_line, bash_words_reply, double_read, holds, is_bare_marked, is_bash_insertable, is_single_lost, single_read, start_text, word_read}
use Rattle.cc_replies.specs.Reply.{Shown, lines_from}
use Rattle.cc_replies.specs.SafeValues.{is_in_locale, read_in_locale, safe_help}
use Rattle.cc_replies.proofs.BashReadings.{is_written, start_cases}
use Rattle.cc_replies.proofs.Characters.{take_chars_all}
use Rattle.cc_replies.proofs.FirstLines.{IsWithout}
use Rattle.cc_replies.proofs.ListFits.{line_fits, most_of, room_is}
use Rattle.cc_replies.proofs.ReplyReadings.{IsHelpWithout, false_not}
use Rattle.cc_replies.proofs.SafeReadings.{ReadsLine, each_line, feed_first, lines_back, safe_help_without}

-- ---- the end of a word

-- no word ends within the text
abbrev GoesOn : OpenQuote → List ℕ → Type 0
GoesOn quote text = (rest : List ℕ) → word_cut quote false (text ++ rest) ≡ with_front text (word_cut quote false rest)

-- a text with backslashes, one of them before each byte that would end a word, and before each backslash
module _ (quote : OpenQuote) (is_marked : ℕ → Bool) (ends : is_marked (word_end quote) ≡ true) (escapes : is_marked backslash ≡ true)
    (apart : (backslash == word_end quote) ≡ false) (escape : (byte : ℕ) → is_escape quote byte ≡ (byte == backslash)) where
  other : (byte special : ℕ) → is_marked special ≡ true → is_marked byte ≡ false → (byte == special) ≡ false
  other byte special is isnt = ne_eqb byte special (λ same. let both : true ≡ false = sym is ∙ ap is_marked (sym same) ∙ isnt in cc)

  marked_goes : (text : List ℕ) → GoesOn quote (marked is_marked text)
  unfolding word_cut
  marked_goes [] rest = sym (with_front-nil (word_cut quote false rest))
  marked_goes (byte ∷ text) rest = by_test (is_marked byte) refl (marked_goes text rest)
    where
      end : Option (List ℕ × List ℕ)
      end = word_cut quote false rest

      after_byte : List ℕ
      after_byte = marked is_marked text ++ rest

      by_test : (m : Bool) → is_marked byte ≡ m → word_cut quote false after_byte ≡ with_front (marked is_marked text) end
          → word_cut quote false ((cond m (backslash ∷ byte ∷ []) (byte ∷ []) ++ marked is_marked text) ++ rest)
          ≡ with_front (cond m (backslash ∷ byte ∷ []) (byte ∷ []) ++ marked is_marked text) end
      by_test true e below =
          ap (λ b. choose b (Some ([], byte ∷ after_byte)) (with_front (backslash ∷ []) (word_cut quote (is_escape quote backslash) (byte ∷ after_byte)))) apart
          ∙ ap (λ b. with_front (backslash ∷ []) (word_cut quote b (byte ∷ after_byte))) (escape backslash)
          ∙ ap (λ cut. with_front (backslash ∷ []) (with_front (byte ∷ []) cut)) below
          ∙ ap (with_front (backslash ∷ [])) (with_front-append (byte ∷ []) (marked is_marked text) end)
          ∙ with_front-append (backslash ∷ []) (byte ∷ marked is_marked text) end
      by_test false e below =
          ap (λ b. choose b (Some ([], after_byte)) (with_front (byte ∷ []) (word_cut quote (is_escape quote byte) after_byte))) (other byte (word_end quote) ends e)
          ∙ ap (λ b. with_front (byte ∷ []) (word_cut quote b after_byte)) (escape byte ∙ other byte backslash escapes e)
          ∙ ap (with_front (byte ∷ [])) below
          ∙ with_front-append (byte ∷ []) (marked is_marked text) end

bare_goes : (text : List ℕ) → GoesOn Bare (marked is_bare_marked text)
bare_goes text = marked_goes Bare is_bare_marked refl refl refl (λ byte. refl) text

start_goes : (word : List ℕ) → GoesOn Bare (start_text word)
unfolding word_cut
start_goes word rest = elim (start_cases word) [
  | inl home ↦
      let below : List ℕ = marked is_bare_marked home.0 in
      subst (λ text. word_cut Bare false (text ++ rest) ≡ with_front text (word_cut Bare false rest)) (sym home.2)
      (ap (λ cut. with_front (codes "~") (with_front (codes "/") cut)) (bare_goes home.0 rest)
      ∙ ap (with_front (codes "~")) (with_front-append (47 ∷ []) below (word_cut Bare false rest))
      ∙ with_front-append (126 ∷ []) (codes "/" ++ below) (word_cut Bare false rest))
  | inr bare ↦ subst (λ text. word_cut Bare false (text ++ rest) ≡ with_front text (word_cut Bare false rest)) (sym bare) (bare_goes word rest)
]

single_goes : (text : List ℕ) → list_all (λ byte. not (is_single_lost byte)) text ≡ true → GoesOn Single text
unfolding word_cut
single_goes [] h rest = sym (with_front-nil (word_cut Single false rest))
single_goes (byte ∷ text) h rest =
    let parts = and_parts (not (is_single_lost byte)) (list_all (λ byte. not (is_single_lost byte)) text) h in
    let first = or_parts (byte == single_quote || byte == dollar) (byte == backtick) (false_not (is_single_lost byte) parts.0) in
    ap (λ b. choose b (Some ([], text ++ rest)) (with_front (byte ∷ []) (word_cut Single false (text ++ rest)))) (or_parts (byte == single_quote) (byte == dollar) first.0).0
    ∙ ap (with_front (byte ∷ [])) (single_goes text parts.1 rest)
    ∙ with_front-append (byte ∷ []) text (word_cut Single false rest)

text_goes : (kept : List ℕ) (quote : OpenQuote) (rest : List ℕ) → holds quote rest ≡ true → GoesOn quote (bash_text kept quote rest)
unfolding bash_text bare_text
text_goes kept Single rest h = single_goes rest h
text_goes kept Double rest h = marked_goes Double is_double_marked refl refl refl (λ byte. refl) rest
text_goes [] Bare rest h = start_goes rest
text_goes (byte ∷ kept) Bare rest h = bare_goes rest

-- ---- a description

spaces_skipped : (count : ℕ) (text : List ℕ) → description_read (replicate count space ++ text) ≡ description_read text
unfolding description_read
spaces_skipped zero text = refl
spaces_skipped (suc count) text = spaces_skipped count text

space_first : (count : ℕ) (text : List ℕ) → replicate count space ++ space ∷ text ≡ space ∷ (replicate count space ++ text)
space_first zero text = refl
space_first (suc count) text = ap (λ rest. space ∷ rest) (space_first count text)

closed : (text : List ℕ) → before_closing (text ++ codes ")") ≡ Some text
unfolding before_closing
closed [] = refl
closed (byte ∷ []) = refl
closed (byte ∷ next ∷ text) = ap (option_map (λ front. byte ∷ front)) (closed (next ∷ text))

-- a word ends before spaces and a `(`, and these lead to the text after the `(`
abbrev Ends : OpenQuote → List ℕ → List ℕ → Type 0
Ends quote line text = (rest : List ℕ) × ((word_cut quote false line ≡ Some ([], rest)) × (description_read rest ≡ before_closing text))

ends : (quote : OpenQuote) (count : ℕ) (text : List ℕ) → Ends quote (closing_quote quote ++ (replicate count space ++ (codes "  (" ++ text))) text
unfolding word_cut description_read
ends Bare count text =
    (replicate count space ++ (codes " (" ++ text), (ap (word_cut Bare false) (space_first count (codes " (" ++ text)), spaces_skipped count (codes " (" ++ text)))
ends Single count text = (replicate count space ++ (codes "  (" ++ text), (refl, spaces_skipped count (codes "  (" ++ text)))
ends Double count text = (replicate count space ++ (codes "  (" ++ text), (refl, spaces_skipped count (codes "  (" ++ text)))

-- ---- two words

-- two candidates whose values pass a test, and differ
record TwoWords (passes : List ℕ → Bool) (candidates : List CompletionCandidate) : Type 0 where
  first : CompletionCandidate
  other : CompletionCandidate
  first_in : IsIn candidates first
  other_in : IsIn candidates other
  first_passes : passes first.value ≡ true
  other_passes : passes other.value ≡ true
  differ : bytes_eq other.value first.value ≡ false

find_in : {X : Type 0} (test : X → Bool) (xs : List X) (x : X) → find test xs ≡ Some x → IsIn xs x × (test x ≡ true)
find_in test [] x e = cc
find_in {X} test (y ∷ xs) x e = by_test (test y) refl e (find_in test xs x)
  where
    got : Option X → X
    got None = x
    got (Some z) = z

    by_test : (b : Bool) → test y ≡ b → cond b (Some y) (find test xs) ≡ Some x → (find test xs ≡ Some x → IsIn xs x × (test x ≡ true)) → IsIn (y ∷ xs) x × (test x ≡ true)
    by_test true is e below = (inl (ap got e), subst (λ z. test z ≡ true) (ap got e) is)
    by_test false is e below = (inr (below e).0, (below e).1)

any_in : {X : Type 0} (test : X → Bool) (xs : List X) → list_any test xs ≡ true → (x : X) × (IsIn xs x × (test x ≡ true))
any_in test xs e = let any = Any-from_list_any test xs e in (any.1, (IsIn-from_Contains xs any.1 (any.0, any.2, any.3), any.4))

IsIn-filter : {X : Type 0} (test : X → Bool) (xs : List X) (x : X) → IsIn xs x → test x ≡ true → IsIn (filter test xs) x
IsIn-filter test [] x h e = absurd h
IsIn-filter test (y ∷ xs) x (inl same) e = subst (λ b. IsIn (cond b (y ∷ filter test xs) (filter test xs)) x) (sym (ap test same ∙ e)) (inl same)
IsIn-filter test (y ∷ xs) x (inr h) e = by_test (test y) (IsIn-filter test xs x h e)
  where
    by_test : (b : Bool) → IsIn (filter test xs) x → IsIn (cond b (y ∷ filter test xs) (filter test xs)) x
    by_test true below = inr below
    by_test false below = below

two_words : (passes : List ℕ → Bool) (candidates : List CompletionCandidate) → has_two passes candidates ≡ true → TwoWords passes candidates
two_words passes candidates e = elim (option_cases (find (λ candidate. passes candidate.value) candidates)) [
  | inl found ↦
      let first = find_in (λ candidate. passes candidate.value) candidates found.0 found.1 in
      let other = any_in (λ candidate. passes candidate.value && not (bytes_eq candidate.value found.0.value)) candidates (ap (λ first. has_other passes first candidates) (sym found.1) ∙ e) in
      let parts = and_parts (passes other.0.value) (not (bytes_eq other.0.value found.0.value)) other.1.1 in
      record {
        first = found.0;
        other = other.0;
        first_in = first.0;
        other_in = other.1.0;
        first_passes = first.1;
        other_passes = parts.0;
        differ = false_not (bytes_eq other.0.value found.0.value) parts.1;
      }
  | inr none ↦ let both : false ≡ true = ap (λ first. has_other passes first candidates) (sym none) ∙ e in cc
]

-- ---- a line

abbrev shown_as : List ℕ → Option (List ℕ) → Shown
shown_as value description = record { value = value; help = description }

abbrev value_in : Option Shown → List ℕ
value_in None = []
value_in (Some shown) = shown.value

module _ (cursor : Cursor) where
  abbrev read : List ℕ → Option Shown
  read line = list_line_read cursor line

  abbrev value_of : List ℕ → Option (List ℕ)
  value_of line = bash_value_read cursor line

  -- a line by where its word ends
  abbrev tells : List ℕ → Option (List ℕ × List ℕ) → Option Shown
  tells line cut = elim cut [
    | Some (word, rest) ↦ shown_with (value_of word) (description_read rest)
    | None ↦ option_map (λ value. shown_as value None) (value_of line)
  ]

  word_alone : (text value : List ℕ) → GoesOn cursor.quote text → value_of text ≡ Some value → read text ≡ Some (shown_as value None)
  unfolding list_line_read word_cut with_front
  word_alone text value goes reads =
      ap (tells text) (ap (word_cut cursor.quote false) (sym (append-nil text)) ∙ goes [])
      ∙ ap (option_map (λ value. shown_as value None)) reads

  word_described : (text value description : List ℕ) (longest : ℕ) → GoesOn cursor.quote text → value_of text ≡ Some value
      → read (described_text (text ++ closing_quote cursor.quote) longest description) ≡ Some (shown_as value (Some description))
  unfolding list_line_read with_front
  word_described text value description longest goes reads =
      let count : ℕ = longest - char_count (text ++ closing_quote cursor.quote) in
      let end = ends cursor.quote count (description ++ codes ")") in
      let line : List ℕ = text ++ (closing_quote cursor.quote ++ (replicate count space ++ (codes "  (" ++ (description ++ codes ")")))) in
      ap read (regroup_six text (closing_quote cursor.quote) (replicate count space) (codes "  (") description (codes ")"))
      ∙ ap (tells line) (goes (closing_quote cursor.quote ++ (replicate count space ++ (codes "  (" ++ (description ++ codes ")")))) ∙ ap (with_front text) end.1.0)
      ∙ ap₂ shown_with (ap value_of (append-nil text) ∙ reads) (end.1.1 ∙ closed description)

  -- ---- no line feed

  closing_without : (q : OpenQuote) → IsWithout line_feed (closing_quote q)
  closing_without Bare = tt
  closing_without Single = (refl, tt)
  closing_without Double = (refl, tt)

  spaces_without : (count : ℕ) → IsWithout line_feed (replicate count space)
  spaces_without zero = tt
  spaces_without (suc count) = (refl, spaces_without count)

  in_locale_without : (description : Option (List ℕ)) → IsHelpWithout line_feed description → IsHelpWithout line_feed (option_and_then (read_in_locale cursor.ascii_only) description)
  in_locale_without None h = tt
  in_locale_without (Some description) h = by_test (is_in_locale cursor.ascii_only description)
    where
      by_test : (b : Bool) → IsHelpWithout line_feed (cond b (Some description) None)
      by_test true = h
      by_test false = tt

  description_without : (help : Option (List ℕ)) (description : List ℕ) → description_of cursor.ascii_only help ≡ Some description → IsWithout line_feed description
  unfolding description_of
  description_without help description e = subst (λ d. IsHelpWithout line_feed d) e (in_locale_without (safe_help help) (safe_help_without line_feed refl help))

  cut_without : (room : ℕ) (description : List ℕ) → IsWithout line_feed description → IsWithout line_feed (cut_description room description)
  cut_without room description h = by_test (nat_lt room (char_count description))
    where
      by_test : (b : Bool) → IsWithout line_feed (cond b (take_chars (room - 2) description ++ codes "..") description)
      by_test true = AllByRecursion-append (λ byte. (byte == line_feed) ≡ false) (take_chars (room - 2) description) (codes "..") (take_chars_all (λ byte. (byte == line_feed) ≡ false) (room - 2) description h) (refl, (refl, tt))
      by_test false = h

  described_without : (word description : List ℕ) (longest : ℕ) → IsWithout line_feed word → IsWithout line_feed description → IsWithout line_feed (described_text word longest description)
  described_without word description longest h k =
      let spaces : List ℕ = replicate (longest - char_count word) space in
      joined (word ++ spaces ++ codes "  (" ++ description) (codes ")")
      (joined (word ++ spaces ++ codes "  (") description
      (joined (word ++ spaces) (codes "  (") (joined word spaces h (spaces_without (longest - char_count word))) (refl, (refl, (refl, tt)))) k) (refl, tt)
    where
      joined : (front back : List ℕ) → IsWithout line_feed front → IsWithout line_feed back → IsWithout line_feed (front ++ back)
      joined front back h k = AllByRecursion-append (λ byte. (byte == line_feed) ≡ false) front back h k

  -- ---- the law

  word_line_reads : (candidate : CompletionCandidate) → is_bash_insertable cursor candidate.value ≡ true
      → ReadsLine (IsWithout line_feed) read (bash_word_line cursor candidate.value) (Some (shown_as candidate.value None))
  unfolding bash_word_line
  word_line_reads candidate e =
      let written = is_written cursor candidate.value e in
      record {
        body = bash_text cursor.kept cursor.quote written.rest;
        whole = ap (λ rest. elim rest [ Some rest ↦ bash_text cursor.kept cursor.quote rest ++ codes "\n" | None ↦ [] ]) written.found;
        one_line = written.one_line;
        reads = word_alone (bash_text cursor.kept cursor.quote written.rest) candidate.value (text_goes cursor.kept cursor.quote written.rest written.held) written.reads;
      }

  line_reads : (longest room : ℕ) (candidate : CompletionCandidate) → is_bash_insertable cursor candidate.value ≡ true
      → ReadsLine (IsWithout line_feed) read (list_line cursor longest room candidate)
      (Some (shown_as candidate.value (option_map (cut_description room) (description_of cursor.ascii_only candidate.help))))
  unfolding list_line closed_word
  line_reads longest room candidate e = elim (option_cases (description_of cursor.ascii_only candidate.help)) [
    | inl found ↦
        let written = is_written cursor candidate.value e in
        let text : List ℕ = bash_text cursor.kept cursor.quote written.rest in
        let description : List ℕ = cut_description room found.0 in
        record {
          body = described_text (text ++ closing_quote cursor.quote) longest description;
          whole =
              ap line_with found.1
              ∙ ap (λ rest. described_text (elim rest [ Some rest ↦ bash_text cursor.kept cursor.quote rest ++ closing_quote cursor.quote | None ↦ [] ]) longest description ++ codes "\n") written.found;
          one_line =
              described_without (text ++ closing_quote cursor.quote) description longest
              (AllByRecursion-append (λ byte. (byte == line_feed) ≡ false) text (closing_quote cursor.quote) written.one_line (closing_without cursor.quote))
              (cut_without room found.0 (description_without candidate.help found.0 found.1));
          reads =
              word_described text candidate.value description longest (text_goes cursor.kept cursor.quote written.rest written.held) written.reads
              ∙ sym (ap shown_with_help found.1);
        }
    | inr none ↦
        let word = word_line_reads candidate e in
        record {
          body = word.body;
          whole = ap line_with none ∙ word.whole;
          one_line = word.one_line;
          reads = word.reads ∙ sym (ap shown_with_help none);
        }
  ]
    where
      line_with : Option (List ℕ) → List ℕ
      line_with description = elim description [
        | Some d ↦ described_text (closed_word cursor candidate.value) longest (cut_description room d) ++ codes "\n"
        | None ↦ bash_word_line cursor candidate.value
      ]

      shown_with_help : Option (List ℕ) → Option Shown
      shown_with_help description = Some (shown_as candidate.value (option_map (cut_description room) description))

  abbrev inserts : CompletionCandidate → Bool
  inserts candidate = is_bash_insertable cursor candidate.value

  -- the lines are read as the candidates that bash can insert
  abbrev AreRead : ℕ → List CompletionCandidate → List (List ℕ) → Type 0
  AreRead room candidates lines = map read lines ≡ map (λ candidate. Some (shown_in cursor.ascii_only room candidate)) (filter inserts candidates)

  list_reads : (longest room : ℕ) (candidates : List CompletionCandidate) → AreRead room candidates (lines_from [] (bash_list_in cursor longest room candidates))
  unfolding lines_from
  list_reads longest room candidates = by_test (room == 0)
    where
      by_test : (b : Bool)
          → map read (lines_from [] (cond b (bash_words_reply cursor candidates) (flat_map (list_line cursor longest room) (filter inserts candidates))))
          ≡ map (λ candidate. Some (shown_as candidate.value (cond b None (option_map (cut_description room) (description_of cursor.ascii_only candidate.help))))) (filter inserts candidates)
      by_test true =
          lines_back (IsWithout line_feed) (lines_from []) refl feed_first read (λ candidate. Some (shown_as candidate.value None)) inserts
          (λ candidate. bash_word_line cursor candidate.value) word_line_reads candidates
      by_test false =
          lines_back (IsWithout line_feed) (lines_from []) refl feed_first read
          (λ candidate. Some (shown_as candidate.value (option_map (cut_description room) (description_of cursor.ascii_only candidate.help)))) inserts
          (list_line cursor longest room) (line_reads longest room) candidates

  -- ---- the width

  -- a line that is only a word has no description
  word_alone_fits : (text value : List ℕ) → read text ≡ Some (shown_as value None) → Fits cursor text
  word_alone_fits text value reads has = let none : false ≡ true = subst (λ item. HasDescription item) reads has in cc

  list_fits : (longest room : ℕ) (candidates : List CompletionCandidate) → longest ≡ longest_word cursor candidates
      → ((room == 0) ≡ false → (room ≡ cursor.width - (longest + 4)) × (22 ≤ room))
      → AllByRecursion (Fits cursor) (lines_from [] (bash_list_in cursor longest room candidates))
  unfolding lines_from list_line
  list_fits longest room candidates most is = by_test (room == 0) is
    where
      described : (candidate : CompletionCandidate) → IsIn candidates candidate → inserts candidate ≡ true → (description : List ℕ)
          → description_of cursor.ascii_only candidate.help ≡ Some description → char_count (closed_word cursor candidate.value) ≤ longest
      described candidate is_in e description found =
          let passes = and_from (inserts candidate) (is_some (description_of cursor.ascii_only candidate.help)) e (ap is_some found) in
          subst (λ n. char_count (closed_word cursor candidate.value) ≤ n) (sym most)
          (most_of (λ candidate. char_count (closed_word cursor candidate.value)) (filter (is_described cursor) candidates) candidate
          (IsIn-filter (is_described cursor) candidates candidate is_in passes))

      one : (room ≡ cursor.width - (longest + 4)) × (22 ≤ room) → (candidate : CompletionCandidate) → IsIn candidates candidate
          → (e : inserts candidate ≡ true) → Fits cursor (line_reads longest room candidate e).body
      one wide candidate is_in e = elim (option_cases (description_of cursor.ascii_only candidate.help)) [
        | inl found ↦ λ has.
            line_fits cursor.width longest room (closed_word cursor candidate.value) found.0 (line_reads longest room candidate e).body
            (sym (line_reads longest room candidate e).whole ∙ ap line_with found.1)
            (described candidate is_in e found.0 found.1) wide.1 wide.0
        | inr none ↦
            word_alone_fits (line_reads longest room candidate e).body candidate.value
            ((line_reads longest room candidate e).reads ∙ ap (λ description. Some (shown_as candidate.value (option_map (cut_description room) description))) none)
      ]
        where
          line_with : Option (List ℕ) → List ℕ
          line_with description = elim description [
            | Some d ↦ described_text (closed_word cursor candidate.value) longest (cut_description room d) ++ codes "\n"
            | None ↦ bash_word_line cursor candidate.value
          ]

      by_test : (b : Bool) → (b ≡ false → (room ≡ cursor.width - (longest + 4)) × (22 ≤ room))
          → AllByRecursion (Fits cursor) (lines_from [] (cond b (bash_words_reply cursor candidates) (flat_map (list_line cursor longest room) (filter inserts candidates))))
      by_test true is =
          each_line (IsWithout line_feed) (lines_from []) refl feed_first read (λ candidate. Some (shown_as candidate.value None)) inserts
          (λ candidate. bash_word_line cursor candidate.value) word_line_reads (Fits cursor) candidates
          (λ candidate is_in e. word_alone_fits (word_line_reads candidate e).body candidate.value (word_line_reads candidate e).reads)
      by_test false is =
          each_line (IsWithout line_feed) (lines_from []) refl feed_first read
          (λ candidate. Some (shown_as candidate.value (option_map (cut_description room) (description_of cursor.ascii_only candidate.help)))) inserts
          (list_line cursor longest room) (line_reads longest room) (Fits cursor) candidates (one (is refl))

  -- ---- two lines

  -- an empty line is read as the part that bash keeps
  empty_read : (b : Bool) (shown : Shown) → option_map (λ value. shown_as value None) (cond b (Some (cursor.kept ++ [])) None) ≡ Some shown → shown.value ≡ cursor.kept
  empty_read true shown e = sym (ap value_in e) ∙ append-nil cursor.kept
  empty_read false shown e = cc

  nothing_read : (shown : Shown) → read [] ≡ Some shown → shown.value ≡ cursor.kept
  unfolding list_line_read word_cut bash_value_read bash_line_word single_read double_read bare_word_read bare_read word_read after
  nothing_read shown e =
      empty_read (is_in_locale cursor.ascii_only (cursor.kept ++ [])) shown
      (ap (λ line. option_map (λ value. shown_as value None) (option_and_then (read_in_locale cursor.ascii_only) (option_map (λ rest. cursor.kept ++ rest) line))) (sym (no_word cursor.kept cursor.quote)) ∙ e)
    where
      no_word : (k : List ℕ) (q : OpenQuote) → bash_line_word k q [] ≡ Some []
      no_word k Single = refl
      no_word k Double = refl
      no_word [] Bare = refl
      no_word (byte ∷ k) Bare = refl

  abbrev is_word : List ℕ → Bool
  is_word value = is_listed_word cursor value

  module _ (lines : List (List ℕ)) (room : ℕ) (candidates : List CompletionCandidate) (law : AreRead room candidates lines) where
    abbrev shows : CompletionCandidate → Option Shown
    shows candidate = Some (shown_in cursor.ascii_only room candidate)

    -- the line of a word is in the list, and has a byte
    record HasLine (candidate : CompletionCandidate) : Type 0 where
      line : List ℕ
      is_in : IsIn lines line
      some : line ≢ []
      reads : read line ≡ shows candidate

    has_line : (candidate : CompletionCandidate) → IsIn candidates candidate → is_word candidate.value ≡ true → HasLine candidate
    has_line candidate is_in passes =
        let parts = and_parts (inserts candidate) (not (bytes_eq candidate.value cursor.kept)) passes in
        let shown = map-IsIn shows (filter inserts candidates) candidate (IsIn-filter inserts candidates candidate is_in parts.0) in
        let line = IsIn-map read lines (shows candidate) (subst (λ texts. IsIn texts (shows candidate)) (sym law) shown) in
        record { line = line.0; is_in = line.1.0; some = λ empty. has_byte line.0 line.1.1 parts.1 empty; reads = line.1.1 }
      where
        has_byte : (line : List ℕ) → read line ≡ shows candidate → not (bytes_eq candidate.value cursor.kept) ≡ true → line ≢ []
        has_byte line reads other empty =
            let same : candidate.value ≡ cursor.kept = nothing_read (shown_in cursor.ascii_only room candidate) (sym (ap read empty) ∙ reads) in
            let both : true ≡ false = sym ((bytes_eq-Decides candidate.value cursor.kept).1 same) ∙ false_not (bytes_eq candidate.value cursor.kept) other in
            cc

    two_lines : has_two is_word candidates ≡ true → HasTwo lines
    two_lines e =
        let two = two_words is_word candidates e in
        let first = has_line two.first two.first_in two.first_passes in
        let other = has_line two.other two.other_in two.other_passes in
        record {
          first = first.line;
          other = other.line;
          first_in = Contains-from_IsIn lines first.line first.is_in;
          other_in = Contains-from_IsIn lines other.line other.is_in;
          first_some = first.some;
          other_some = other.some;
          differ = λ same. let both : true ≡ false = sym ((bytes_eq-Decides two.other.value two.first.value).1 (sym (ap value_in (sym first.reads ∙ ap read same ∙ other.reads)))) ∙ two.differ in cc;
        }

  -- ---- all

  no_room : (candidates : List CompletionCandidate) → cursor.width ≡ 0 → list_room cursor candidates ≡ 0
  no_room candidates e =
      let none : width_left cursor candidates ≡ 0 = omega (arith, e) in
      ap (λ left. cond (nat_le 22 left && has_two is_word candidates) left 0) none

  has_room : (wide two : Bool) (left : ℕ) → (cond (wide && two) left 0 == 0) ≡ false → two ≡ true
  has_room true true left e = refl
  has_room true false left e = cc
  has_room false true left e = refl
  has_room false false left e = cc

  pub list_read_back : (candidates : List CompletionCandidate) → BashListRead cursor candidates
  list_read_back candidates = record {
    lines = reads;
    fits = list_fits longest room candidates refl wide;
    inserted = λ e. ap (λ room. bash_list_in cursor longest room candidates) (no_room candidates e);
    listed = by_test (room == 0) refl;
  }
    where
      longest : ℕ
      longest = longest_word cursor candidates

      room : ℕ
      room = list_room cursor candidates

      wide : (room == 0) ≡ false → (room ≡ cursor.width - (longest + 4)) × (22 ≤ room)
      wide e =
          let is = room_is (width_left cursor candidates) (has_two is_word candidates) e in
          (is.0, subst (λ n. 22 ≤ n) (sym is.0) is.1)

      reads : AreRead room candidates (lines_from [] (bash_list_reply cursor candidates))
      reads = list_reads longest room candidates

      by_test : (b : Bool) → (room == 0) ≡ b → (bash_list_reply cursor candidates ≡ bash_words_reply cursor candidates) ⊎ HasTwo (lines_from [] (bash_list_reply cursor candidates))
      by_test true e = inl (ap (λ b. cond b (bash_words_reply cursor candidates) (flat_map (list_line cursor longest room) (filter inserts candidates))) e)
      by_test false e = inr (two_lines (lines_from [] (bash_list_reply cursor candidates)) room candidates reads (has_room (nat_le 22 (width_left cursor candidates)) (has_two is_word candidates) (width_left cursor candidates) e))
