-- A reply is read back as the values and the first lines of the help texts.
use Rattle.cc_base.specs.Bytes.{backslash, colon, line_feed, tab}
use Rattle.std.proofs.Common.{◌≡◌, ◌≢◌, ◌==◌, ℕ, Bool, true, false, cond, List, [], ◌∷◌, ◌++◌, Option, Some, None, map, option_map, codes, refl, sym, ◌∙◌, ap, ap₂, append_assoc, append-nil}
use Rattle.std.proofs.Common.{inl, inr}
use Rattle.std.proofs.lemmas.Bool.{and_parts, cases_Bool}
use Rattle.std.proofs.lemmas.Bool.Decides.{Decides-eqb}
use Rattle.std.specs.List.{AllByRecursion, list_all}
use Rattle.std.specs.Prelude.{⊤, ◌&&◌, length, not}
use Rattle.cc_base.specs.Joined.{joined_after}
use Rattle.cc_base.proofs.Members.{AllByRecursion-weaker, AllByRecursion-append}
use Rattle.cc_quote.specs.ZshQuote.{Mark, marks_from, marks, unmarked, zsh_unescaped}
use Rattle.cc_quote.specs.Escapes.{marked_byte, marked}
use Rattle.cc_quote.specs.ZshQuote.Mark.{kept, escaped}
use Rattle.cc_quote.specs.ZshReply.{is_reply_value_marked, is_reply_help_marked, zsh_replied_value, zsh_replied_help}
use Rattle.cc_quote.proofs.ZshWords.{mark_of, marks-marked}
use Rattle.cc_quote.proofs.ZshReplies.{help_unescaped}
use Rattle.cc_base.specs.Found.{after, with_front, cut_at, pieces_from}
use Rattle.cc_base.proofs.Cases.{choose}
use Rattle.cc_replies.specs.Reply.{LinesRead, ValuesRead, ZshReplyRead, Shown, shown, first_line, values_reply, colon_help, zsh_item, zsh_reply, tab_help, shown_line, lines_reply, values_read, shown_from, zsh_read, lines_from, line_shown, lines_read, is_without, is_help_without, is_readable_value, is_readable_zsh_item, is_readable_line, are_readable_lines}
use Rattle.cc_replies.proofs.FirstLines.{IsWithout, first_line_without, other_side}
use Rattle.cc_candidates.specs.declared.candidate.CompletionCandidate.{CompletionCandidate}
use Rattle.cc_base.proofs.Finding.{Lacks, past_lacking}

-- ---- the meaning of the tests

pub false_not : (test : Bool) → not test ≡ true → test ≡ false
false_not true e = cc
false_not false e = refl

pub without : (special : ℕ) (text : List ℕ) → is_without special text ≡ true → IsWithout special text
without special [] e = tt
without special (byte ∷ text) e =
    let parts = and_parts (not (byte == special)) (is_without special text) e in
    (false_not (byte == special) parts.0, without special text parts.1)

abbrev pub IsHelpWithout : ℕ → Option (List ℕ) → Type 0
IsHelpWithout special None = ⊤
IsHelpWithout special (Some help) = IsWithout special help

help_without : (special : ℕ) (help : Option (List ℕ)) → is_help_without special help ≡ true → IsHelpWithout special help
help_without special None e = tt
help_without special (Some help) e = without special help e

abbrev HasByte : List ℕ → Type 0
HasByte text = text ≢ []

has_byte : (text : List ℕ) → not (length text == 0) ≡ true → HasByte text
has_byte [] e = cc
has_byte (byte ∷ text) e = λ none. cc

value_parts : (separator : ℕ) (value : List ℕ) → is_readable_value separator value ≡ true → HasByte value × IsWithout separator value
value_parts separator value e =
    let parts = and_parts (not (length value == 0)) (is_without separator value) e in
    (has_byte value parts.0, without separator value parts.1)

-- a property of each candidate that passes holds for each text made from it
each_text : (test : Shown → Bool) (P : List ℕ → Type 0) (f : Shown → List ℕ) → ((item : Shown) → test item ≡ true → P (f item))
    → (candidates : List CompletionCandidate) → list_all (λ candidate. test (shown candidate)) candidates ≡ true
    → AllByRecursion P (map (λ candidate. f (shown candidate)) candidates)
each_text test P f p [] e = tt
each_text test P f p (candidate ∷ candidates) e =
    let parts = and_parts (test (shown candidate)) (list_all (λ candidate. test (shown candidate)) candidates) e in
    (p (shown candidate) parts.0, each_text test P f p candidates parts.1)

-- ---- pieces

-- a piece continues
pub piece_on : (separator : ℕ) (piece text rest : List ℕ) → IsWithout separator text → pieces_from separator piece (text ++ rest) ≡ pieces_from separator (piece ++ text) rest
piece_on separator piece [] rest h = ap (λ p. pieces_from separator p rest) (sym (append-nil piece))
piece_on separator piece (byte ∷ text) rest h =
    ap (λ b. choose b (piece ∷ pieces_from separator [] (text ++ rest)) (pieces_from separator (piece ++ byte ∷ []) (text ++ rest))) h.0
    ∙ piece_on separator (piece ++ byte ∷ []) text rest h.1
    ∙ ap (λ p. pieces_from separator p rest) (append_assoc piece (byte ∷ []) text)

-- a piece ends
pub piece_ends : (separator : ℕ) (piece rest : List ℕ) → pieces_from separator piece (separator ∷ rest) ≡ piece ∷ pieces_from separator [] rest
piece_ends separator piece rest = ap (λ b. choose b (piece ∷ pieces_from separator [] rest) (pieces_from separator (piece ++ separator ∷ []) rest)) ((Decides-eqb separator separator).1 refl)

-- texts that are joined
joined_pieces : (separator : ℕ) (first : List ℕ) (texts : List (List ℕ)) → IsWithout separator first → AllByRecursion (IsWithout separator) texts
    → pieces_from separator [] (first ++ joined_after (separator ∷ []) true texts) ≡ first ∷ texts
joined_pieces separator first [] h k = piece_on separator [] first [] h
joined_pieces separator first (text ∷ texts) h k =
    piece_on separator [] first (separator ∷ (text ++ joined_after (separator ∷ []) true texts)) h
    ∙ piece_ends separator first (text ++ joined_after (separator ∷ []) true texts)
    ∙ ap (λ pieces. first ∷ pieces) (joined_pieces separator text texts k.0 k.1)

-- so is a whole reply, whose first text has a byte
joined_read : (separator : ℕ) (texts : List (List ℕ)) → AllByRecursion (IsWithout separator) texts → AllByRecursion HasByte texts
    → values_read separator (joined_after (separator ∷ []) false texts) ≡ texts
unfolding values_read
joined_read separator [] h k = refl
joined_read separator ([] ∷ texts) h k = absurd (k.0 refl)
joined_read separator ((byte ∷ text) ∷ texts) h k = joined_pieces separator (byte ∷ text) texts h.0 h.1

pub values_back : (between : List ℕ) (candidates : List CompletionCandidate) → ValuesRead between candidates
unfolding ValuesRead
values_back between candidates separator is e =
    ap (λ b. values_read separator (values_reply b candidates)) is
    ∙ joined_read separator (map (λ candidate. candidate.value) candidates)
    (each_text (λ item. is_readable_value separator item.value) (IsWithout separator) (λ item. item.value) (λ item r. (value_parts separator item.value r).1) candidates e)
    (each_text (λ item. is_readable_value separator item.value) HasByte (λ item. item.value) (λ item r. (value_parts separator item.value r).0) candidates e)

-- ---- lines

pub line_on : (line text rest : List ℕ) → IsWithout line_feed text → lines_from line (text ++ rest) ≡ lines_from (line ++ text) rest
unfolding lines_from
line_on line [] rest h = ap (λ p. lines_from p rest) (sym (append-nil line))
line_on line (byte ∷ text) rest h =
    ap (λ b. choose b (line ∷ lines_from [] (text ++ rest)) (lines_from (line ++ byte ∷ []) (text ++ rest))) h.0
    ∙ line_on (line ++ byte ∷ []) text rest h.1
    ∙ ap (λ p. lines_from p rest) (append_assoc line (byte ∷ []) text)

-- a line without its line feed
abbrev pub line_body : Shown → List ℕ
line_body item = item.value ++ tab_help item.help

-- the help text is one line
help_one_line : (help : Option (List ℕ)) → IsWithout line_feed (tab_help (option_map first_line help))
unfolding tab_help
help_one_line None = tt
help_one_line (Some help) = (refl, first_line_without help)

body_one_line : (candidate : CompletionCandidate) → IsWithout line_feed candidate.value → IsWithout line_feed (line_body (shown candidate))
body_one_line candidate h =
    AllByRecursion-append (λ byte. (byte == line_feed) ≡ false) candidate.value (tab_help (shown candidate).help) h (help_one_line candidate.help)

-- the comparisons of each test in the other direction
pub lacks : (special : ℕ) (text : List ℕ) → IsWithout special text → Lacks special text
lacks special text h = AllByRecursion-weaker (λ byte. (byte == special) ≡ false) (λ byte. (special == byte) ≡ false) (λ byte e. other_side byte special e) text h

abbrev line_tells : List ℕ → Option (List ℕ × List ℕ) → Shown
line_tells line found = elim found [
  | Some (value, help) ↦ record { value = value; help = Some help }
  | None ↦ record { value = line; help = None }
]

pub body_read : (value : List ℕ) (help : Option (List ℕ)) → IsWithout tab value → line_shown (value ++ tab_help help) ≡ record { value = value; help = help }
unfolding line_shown tab_help after with_front cut_at
body_read value None h =
    ap (λ line. line_shown line) (append-nil value)
    ∙ ap (line_tells value) (ap (cut_at (tab ∷ [])) (sym (append-nil value)) ∙ past_lacking tab [] value [] (lacks tab value h))
body_read value (Some help) h =
    ap (line_tells (value ++ tab ∷ help)) (past_lacking tab [] value (tab ∷ help) (lacks tab value h))
    ∙ ap (λ v. record { value = v; help = Some help }) (append-nil value)

pub lines_back : (candidates : List CompletionCandidate) → LinesRead candidates
unfolding lines_read lines_from shown_line LinesRead
lines_back [] e = refl
lines_back (candidate ∷ candidates) e =
    let parts = and_parts (is_readable_line candidate.value) (are_readable_lines candidates) e in
    let value = and_parts (is_without line_feed candidate.value) (is_without tab candidate.value) parts.0 in
    ap (λ text. map line_shown (lines_from [] text)) (append_assoc (line_body (shown candidate)) (codes "\n") (lines_reply candidates))
    ∙ ap (map line_shown) (line_on [] (line_body (shown candidate)) (line_feed ∷ lines_reply candidates) (body_one_line candidate (without line_feed candidate.value value.0)))
    ∙ ap₂ (λ item items. item ∷ items) (body_read (shown candidate).value (shown candidate).help (without tab candidate.value value.1)) (lines_back candidates parts.1)

-- ---- zsh

-- a backslash is not a separator
pub marked_without : (separator : ℕ) (is_marked : ℕ → Bool) (text : List ℕ) → (backslash == separator) ≡ false → IsWithout separator text → IsWithout separator (marked is_marked text)
marked_without separator is_marked [] e h = tt
marked_without separator is_marked (byte ∷ text) e h =
    AllByRecursion-append (λ b. (b == separator) ≡ false) (marked_byte is_marked byte) (marked is_marked text) (by_test (is_marked byte)) (marked_without separator is_marked text e h.1)
  where
    by_test : (m : Bool) → IsWithout separator (cond m (backslash ∷ byte ∷ []) (byte ∷ []))
    by_test true = (e, (h.0, tt))
    by_test false = (h.0, tt)

pub colon_help_without : (separator : ℕ) (help : Option (List ℕ)) → (backslash == separator) ≡ false → (colon == separator) ≡ false → IsHelpWithout separator help → IsWithout separator (colon_help help)
unfolding colon_help
colon_help_without separator None e f h = tt
colon_help_without separator (Some help) e f h = (f, marked_without separator is_reply_help_marked help e h)

item_without : (separator : ℕ) (item : Shown) → (backslash == separator) ≡ false → (colon == separator) ≡ false → is_readable_zsh_item separator item ≡ true → IsWithout separator (zsh_item item)
unfolding zsh_item
item_without separator item e f r =
    let parts = and_parts (is_readable_value separator item.value) (is_help_without separator item.help) r in
    AllByRecursion-append (λ b. (b == separator) ≡ false) (zsh_replied_value item.value) (colon_help item.help)
    (marked_without separator is_reply_value_marked item.value e (value_parts separator item.value parts.0).1)
    (colon_help_without separator item.help e f (help_without separator item.help parts.1))

item_some : (separator : ℕ) (item : Shown) → is_readable_zsh_item separator item ≡ true → HasByte (zsh_item item)
unfolding zsh_item
item_some separator item r =
    by_value item.value (value_parts separator item.value (and_parts (is_readable_value separator item.value) (is_help_without separator item.help) r).0).0
  where
    by_test : (byte : ℕ) (value : List ℕ) (m : Bool) → (cond m (backslash ∷ byte ∷ []) (byte ∷ []) ++ value) ++ colon_help item.help ≢ []
    by_test byte value true e = cc
    by_test byte value false e = cc

    by_value : (value : List ℕ) → value ≢ [] → zsh_replied_value value ++ colon_help item.help ≢ []
    by_value [] n = absurd (n refl)
    by_value (byte ∷ value) n = by_test byte (zsh_replied_value value) (is_reply_value_marked byte)

-- the value is read up to the text after it
value_on : (value word : List ℕ) (rest : List Mark) → shown_from word (map (mark_of is_reply_value_marked) value ++ rest) ≡ shown_from (word ++ value) rest
unfolding shown_from
value_on [] word rest = ap (λ w. shown_from w rest) (sym (append-nil word))
value_on (byte ∷ value) word rest =
    by_test (is_reply_value_marked byte) refl
    ∙ value_on value (word ++ byte ∷ []) rest
    ∙ ap (λ w. shown_from w rest) (append_assoc word (byte ∷ []) value)
  where
    not_colon : is_reply_value_marked byte ≡ false → (byte == colon) ≡ false
    not_colon h = elim (cases_Bool (byte == colon)) [
      | inl is ↦ absurd (let marked_colon : true ≡ false = ap is_reply_value_marked (sym ((Decides-eqb byte colon).0 is)) ∙ h in cc)
      | inr isnt ↦ isnt
    ]

    by_test : (m : Bool) → is_reply_value_marked byte ≡ m
        → shown_from word (cond m (escaped byte) (kept byte) ∷ (map (mark_of is_reply_value_marked) value ++ rest))
        ≡ shown_from (word ++ byte ∷ []) (map (mark_of is_reply_value_marked) value ++ rest)
    by_test true e = refl
    by_test false e = rw (shown_from, not_colon e) refl

help_marks : (help : List ℕ) → unmarked (marks_from false (zsh_replied_help help)) ≡ Some help
unfolding zsh_unescaped marks
help_marks help = help_unescaped help

help_read : (value : List ℕ) (help : Option (List ℕ)) → shown_from value (marks_from false (colon_help help)) ≡ Some (record { value = value; help = help })
unfolding shown_from marks_from colon_help
help_read value None = refl
help_read value (Some help) = ap (option_map (λ help. record { value = value; help = Some help })) (help_marks help)

pub item_read : (item : Shown) → shown_from [] (marks (zsh_item item)) ≡ Some item
unfolding marks zsh_item
item_read item =
    ap (shown_from []) (marks-marked is_reply_value_marked refl item.value (colon_help item.help))
    ∙ value_on item.value [] (marks_from false (colon_help item.help))
    ∙ help_read item.value item.help

items_read : (candidates : List CompletionCandidate) → map (λ piece. shown_from [] (marks piece)) (map (λ candidate. zsh_item (shown candidate)) candidates) ≡ map (λ candidate. Some (shown candidate)) candidates
items_read [] = refl
items_read (candidate ∷ candidates) = ap₂ (λ item items. item ∷ items) (item_read (shown candidate)) (items_read candidates)

pub zsh_back : (between : List ℕ) (candidates : List CompletionCandidate) → ZshReplyRead between candidates
unfolding zsh_read ZshReplyRead
zsh_back between candidates separator is r =
    let items : Bool = list_all (λ candidate. is_readable_zsh_item separator (shown candidate)) candidates in
    let parts = and_parts (not (separator == colon) && not (separator == backslash)) items r in
    let marks_differ = and_parts (not (separator == colon)) (not (separator == backslash)) parts.0 in
    let no_backslash : (backslash == separator) ≡ false = other_side separator backslash (false_not (separator == backslash) marks_differ.1) in
    let no_colon : (colon == separator) ≡ false = other_side separator colon (false_not (separator == colon) marks_differ.0) in
    ap (λ b. zsh_read separator (zsh_reply b candidates)) is
    ∙ ap (map (λ piece. shown_from [] (marks piece)))
    (joined_read separator (map (λ candidate. zsh_item (shown candidate)) candidates)
    (each_text (is_readable_zsh_item separator) (IsWithout separator) zsh_item (λ item s. item_without separator item no_backslash no_colon s) candidates parts.1)
    (each_text (is_readable_zsh_item separator) HasByte zsh_item (λ item s. item_some separator item s) candidates parts.1))
    ∙ items_read candidates
