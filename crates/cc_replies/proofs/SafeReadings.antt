-- The lines of a safe reply are read back as the items for which they were written.
use Rattle.std.proofs.Common.{◌≡◌, ◌==◌, ◌&&◌, ℕ, Bool, true, false, cond, not, List, [], ◌∷◌, ◌++◌, Option, Some, None, map, filter, flat_map, codes, refl, sym, ◌∙◌, ap, ap₂, subst, inl, inr, append_assoc}
use Rattle.std.proofs.lemmas.Bool.{and_parts, ne_eqb, or_parts}
use Rattle.std.proofs.lemmas.List.{map-id}
use Rattle.std.specs.Char.{is_ascii_control}
use Rattle.std.specs.List.{AllByRecursion}
use Rattle.std.specs.Option.{option_and_then}
use Rattle.std.specs.Prelude.{length}
use Rattle.cc_base.specs.Bytes.{line_feed, tab}
use Rattle.cc_base.proofs.Members.{AllByRecursion-append, AllByRecursion-weaker, IsIn}
use Rattle.cc_candidates.specs.declared.candidate.CompletionCandidate.{CompletionCandidate}
use Rattle.cc_quote.specs.ZshReply.{is_reply_value_marked, zsh_replied_value}
use Rattle.cc_replies.specs.Reply.{Shown, colon_help, first_line, lines_from, shown_line, tab_help, zsh_item}
use Rattle.cc_replies.specs.SafeReplies.{SafeLinesRead, SafeValuesRead, SafeZshRead, fish_item_read, fish_kept, is_fish_insertable, is_fish_kept, is_zsh_insertable, is_zsh_kept, safe_line, safe_zsh_line, value_line, zsh_item_read, zsh_kept}
use Rattle.cc_replies.specs.SafeValues.{begins_control, ends_control, is_found, is_safe_text, safe_help, safe_shown}
use Rattle.cc_replies.proofs.EntryReadings.{tab_help_without}
use Rattle.cc_replies.proofs.FirstLines.{IsWithout}
use Rattle.cc_replies.proofs.ReplyReadings.{IsHelpWithout, body_read, colon_help_without, false_not, item_read, line_body, line_on, marked_without}

-- ---- a reply of lines

-- a line without its line feed, and the value that it is read as
pub record ReadsLine {A : Type 0} (IsLine : List ℕ → Type 0) (read : List ℕ → A) (line : List ℕ) (says : A) : Type 0 where
  pub body : List ℕ
  pub whole : line ≡ body ++ codes "\n"
  pub one_line : IsLine body
  pub reads : read body ≡ says

-- a reader of lines, `split`, ends one at a line feed
module _ {A C : Type 0} (IsLine : List ℕ → Type 0) (split : List ℕ → List (List ℕ)) (none : split [] ≡ [])
    (first : (body rest : List ℕ) → IsLine body → split (body ++ line_feed ∷ rest) ≡ body ∷ split rest)
    (read : List ℕ → A) (says : C → A) (test : C → Bool) (line : C → List ℕ) (each : (item : C) → test item ≡ true → ReadsLine IsLine read (line item) (says item)) where
  -- so there is a line for each item that passes
  pub lines_back : (items : List C) → map read (split (flat_map line (filter test items))) ≡ map says (filter test items)
  lines_back [] = ap (map read) none
  lines_back (item ∷ items) = by_test (test item) refl (lines_back items)
    where
      rest : List C
      rest = filter test items

      by_test : (b : Bool) → test item ≡ b → map read (split (flat_map line rest)) ≡ map says rest
          → map read (split (flat_map line (cond b (item ∷ rest) rest))) ≡ map says (cond b (item ∷ rest) rest)
      by_test false e below = below
      by_test true e below =
          let one = each item e in
          ap (λ text. map read (split (text ++ flat_map line rest))) one.whole
          ∙ ap (λ text. map read (split text)) (append_assoc one.body (codes "\n") (flat_map line rest))
          ∙ ap (map read) (first one.body (flat_map line rest) one.one_line)
          ∙ ap₂ (λ first others. first ∷ others) one.reads below

  -- and what holds for each line without its line feed holds for all lines
  pub each_line : (P : List ℕ → Type 0) (items : List C) → ((item : C) → IsIn items item → (e : test item ≡ true) → P (each item e).body)
      → AllByRecursion P (split (flat_map line (filter test items)))
  each_line P [] h = subst (λ lines. AllByRecursion P lines) (sym none) tt
  each_line P (item ∷ items) h = by_test (test item) refl (each_line P items (λ later is. h later (inr is)))
    where
      rest : List C
      rest = filter test items

      by_test : (b : Bool) → test item ≡ b → AllByRecursion P (split (flat_map line rest))
          → AllByRecursion P (split (flat_map line (cond b (item ∷ rest) rest)))
      by_test false e below = below
      by_test true e below =
          let one = each item e in
          let found : split (line item ++ flat_map line rest) ≡ one.body ∷ split (flat_map line rest) =
          ap (λ text. split (text ++ flat_map line rest)) one.whole
          ∙ ap split (append_assoc one.body (codes "\n") (flat_map line rest))
          ∙ first one.body (flat_map line rest) one.one_line
          in
          subst (λ lines. AllByRecursion P lines) (sym found) (h item (inl refl) e, below)

pub feed_first : (body rest : List ℕ) → IsWithout line_feed body → lines_from [] (body ++ line_feed ∷ rest) ≡ body ∷ lines_from [] rest
unfolding lines_from
feed_first body rest h = line_on [] body (line_feed ∷ rest) h

-- ---- texts without control characters

abbrev pub IsUncontrolled : List ℕ → Type 0
IsUncontrolled text = AllByRecursion (λ byte. is_ascii_control byte ≡ false) text

uncontrolled : (text : List ℕ) → is_found begins_control text ≡ false → IsUncontrolled text
uncontrolled [] e = tt
uncontrolled (byte ∷ rest) e =
    let parts = or_parts (begins_control byte rest) (is_found begins_control rest) e in
    ((or_parts (is_ascii_control byte) (byte == 194 && ends_control rest) parts.0).0, uncontrolled rest parts.1)

pub safe_uncontrolled : (text : List ℕ) → is_safe_text text ≡ true → IsUncontrolled text
safe_uncontrolled text e =
    uncontrolled text (false_not (is_found begins_control text) (and_parts (not (length text == 0)) (not (is_found begins_control text)) e).1)

pub uncontrolled_without : (special : ℕ) → is_ascii_control special ≡ true → (text : List ℕ) → IsUncontrolled text → IsWithout special text
uncontrolled_without special is text h =
    AllByRecursion-weaker (λ byte. is_ascii_control byte ≡ false) (λ byte. (byte == special) ≡ false)
    (λ byte e. ne_eqb byte special (λ same. let both : true ≡ false = sym is ∙ ap is_ascii_control (sym same) ∙ e in cc)) text h

pub safe_without : (special : ℕ) → is_ascii_control special ≡ true → (text : List ℕ) → is_safe_text text ≡ true → IsWithout special text
safe_without special is text e = uncontrolled_without special is text (safe_uncontrolled text e)

-- the help text that is shown has no control character
pub safe_help_without : (special : ℕ) → is_ascii_control special ≡ true → (help : Option (List ℕ)) → IsHelpWithout special (safe_help help)
unfolding safe_help
safe_help_without special is None = tt
safe_help_without special is (Some help) = by_test (is_safe_text (first_line help)) refl
  where
    by_test : (b : Bool) → is_safe_text (first_line help) ≡ b → IsHelpWithout special (cond b (Some (first_line help)) None)
    by_test true e = safe_without special is (first_line help) e
    by_test false e = tt

-- ---- Elvish

pub values_read_back : (candidates : List CompletionCandidate) → SafeValuesRead candidates
unfolding SafeValuesRead lines_from
values_read_back candidates =
    sym (map-id (lines_from [] (flat_map value_line (filter (λ candidate. is_safe_text candidate.value) candidates))))
    ∙ lines_back (IsWithout line_feed) (lines_from []) refl feed_first (λ line. line) (λ candidate. candidate.value) (λ candidate. is_safe_text candidate.value) value_line
    (λ candidate e. record { body = candidate.value; whole = refl; one_line = safe_without line_feed refl candidate.value e; reads = refl })
    candidates

-- ---- fish

-- the line of a candidate with a safe value has no control character but a tab
pub safe_line_without : (special : ℕ) → is_ascii_control special ≡ true → (tab == special) ≡ false → (candidate : CompletionCandidate) → is_safe_text candidate.value ≡ true
    → IsWithout special (line_body (safe_shown candidate))
safe_line_without special is e candidate safe =
    AllByRecursion-append (λ byte. (byte == special) ≡ false) candidate.value (tab_help (safe_help candidate.help))
    (safe_without special is candidate.value safe) (tab_help_without special e (safe_help candidate.help) (safe_help_without special is candidate.help))

fish_line_reads : (candidate : CompletionCandidate) → is_fish_insertable candidate.value ≡ true
    → ReadsLine (IsWithout line_feed) fish_item_read (safe_line candidate) (Some (safe_shown candidate))
unfolding fish_item_read shown_line
fish_line_reads candidate e =
    let parts = and_parts (is_safe_text candidate.value) (is_fish_kept candidate.value) e in
    record {
      body = line_body (safe_shown candidate);
      whole = refl;
      one_line = safe_line_without line_feed refl refl candidate parts.0;
      reads =
          ap fish_kept (body_read candidate.value (safe_help candidate.help) (safe_without tab refl candidate.value parts.0))
          ∙ ap (λ b. cond b (Some (safe_shown candidate)) None) parts.1;
    }

pub lines_read_back : (candidates : List CompletionCandidate) → SafeLinesRead candidates
unfolding SafeLinesRead lines_from
lines_read_back candidates =
    lines_back (IsWithout line_feed) (lines_from []) refl feed_first fish_item_read (λ candidate. Some (safe_shown candidate))
    (λ candidate. is_fish_insertable candidate.value) safe_line fish_line_reads candidates

-- ---- zsh

zsh_item_without : (item : Shown) → IsWithout line_feed item.value → IsHelpWithout line_feed item.help → IsWithout line_feed (zsh_item item)
unfolding zsh_item
zsh_item_without item h k =
    AllByRecursion-append (λ byte. (byte == line_feed) ≡ false) (zsh_replied_value item.value) (colon_help item.help)
    (marked_without line_feed is_reply_value_marked item.value refl h) (colon_help_without line_feed item.help refl refl k)

zsh_line_reads : (ascii_only : Bool) (candidate : CompletionCandidate) → is_zsh_insertable ascii_only candidate.value ≡ true
    → ReadsLine (IsWithout line_feed) (zsh_item_read ascii_only) (safe_zsh_line candidate) (Some (safe_shown candidate))
unfolding zsh_item_read
zsh_line_reads ascii_only candidate e =
    let parts = and_parts (is_safe_text candidate.value) (is_zsh_kept ascii_only candidate.value) e in
    record {
      body = zsh_item (safe_shown candidate);
      whole = refl;
      one_line = zsh_item_without (safe_shown candidate) (safe_without line_feed refl candidate.value parts.0) (safe_help_without line_feed refl candidate.help);
      reads =
          ap (option_and_then (zsh_kept ascii_only)) (item_read (safe_shown candidate))
          ∙ ap (λ b. cond b (Some (safe_shown candidate)) None) parts.1;
    }

pub zsh_read_back : (ascii_only : Bool) (candidates : List CompletionCandidate) → SafeZshRead ascii_only candidates
unfolding SafeZshRead lines_from
zsh_read_back ascii_only candidates =
    lines_back (IsWithout line_feed) (lines_from []) refl feed_first (zsh_item_read ascii_only) (λ candidate. Some (safe_shown candidate))
    (λ candidate. is_zsh_insertable ascii_only candidate.value) safe_zsh_line (zsh_line_reads ascii_only) candidates
