-- The entries of given lines, line by line.
use Rattle.std.specs.Prelude.{filter, map}
use Rattle.std.specs.Str.{is_utf8}
use Rattle.std.proofs.Common.{◌≡◌, ◌==◌, ◌&&◌, ℕ, Bool, true, false, cond, List, [], ◌∷◌, ◌++◌, Option, Some, None, length, refl, ap, sym, ◌∙◌, append_assoc}
use Rattle.std.proofs.lemmas.Bool.{cond-false, cond-true}
use Rattle.cc_base.specs.Bytes.{line_feed}
use Rattle.cc_base.specs.Found.{cut_at}
use Rattle.cc_replies.specs.GivenLines.{Entry, description_help, given_entries, if_given, if_some, is_given_text, is_given_value, line_entry, without_controls}
use Rattle.cc_replies.specs.Reply.{without_return}
use Rattle.cc_replies.proofs.Cutting.{line_last, line_more}

-- those of the entries that count
abbrev all_given : List Entry → List Entry
all_given entries = filter (λ entry. is_given_value entry.value) entries

abbrev of_lines : Option (List ℕ) → List (List ℕ) → List Entry
of_lines split lines = map (λ line. line_entry split (without_return line)) lines

one_first : (b : Bool) (entry : Entry) (rest : List Entry) → cond b (entry ∷ rest) rest ≡ cond b (entry ∷ []) [] ++ rest
one_first true entry rest = refl
one_first false entry rest = refl

-- a line and those after it
pub entries_more : (split : Option (List ℕ)) (text line rest : List ℕ) (done more whole : List Entry) → cut_at (line_feed ∷ []) text ≡ Some (line, rest) →
    more ≡ done ++ if_given (line_entry split (without_return line)) → done ++ given_entries split text ≡ whole → more ++ given_entries split rest ≡ whole
entries_more split text line rest done more whole cut add h =
    let entry = line_entry split (without_return line) in
    ap (λ m. m ++ given_entries split rest) add
    ∙ append_assoc done (if_given entry) (given_entries split rest)
    ∙ ap (λ e. done ++ e) (sym (one_first (is_given_value entry.value) entry (given_entries split rest)))
    ∙ ap (λ lines. done ++ all_given (of_lines split lines)) (sym (line_more text line rest cut)) ∙ h

-- the last line
pub entries_last : (split : Option (List ℕ)) (text : List ℕ) (done more whole : List Entry) → cut_at (line_feed ∷ []) text ≡ None →
    more ≡ done ++ if_given (line_entry split (without_return text)) → done ++ given_entries split text ≡ whole → more ≡ whole
entries_last split text done more whole cut add h =
    add ∙ ap (λ lines. done ++ all_given (of_lines split lines)) (sym (line_last text cut)) ∙ h

-- ---- descriptions

some_text : (text : List ℕ) → (length text == 0) ≡ false → if_some text ≡ Some text
some_text [] h = cc
some_text (byte ∷ text) h = refl

pub help_none : (description : List ℕ) → is_utf8 description ≡ false → None ≡ description_help description
unfolding description_help
help_none description refused = sym (cond-false (is_utf8 description) (if_some (without_controls description)) None refused)

pub help_some : (description text help : List ℕ) → is_utf8 description ≡ true → text ≡ description → help ≡ without_controls text → (length help == 0) ≡ false → Some help ≡ description_help description
unfolding description_help
help_some description text help utf8 same shown some =
    sym (some_text help some) ∙ ap if_some (shown ∙ ap without_controls same)
    ∙ sym (cond-true (is_utf8 description) (if_some (without_controls description)) None utf8)

-- ---- one entry

-- the entry with this value and this description
abbrev pub IsEntry : Entry → List ℕ → List ℕ → Type 0
IsEntry entry value description = entry ≡ record { value = value; description = description }

-- it counts if its value does
given_when : (entry : Entry) (value description : List ℕ) (counts : Bool) → IsEntry entry value description → (is_utf8 value && is_given_text value) ≡ counts
    → cond counts (record { value = value; description = description } ∷ []) [] ≡ if_given entry
given_when entry value description counts is e =
    sym (ap if_given is ∙ ap (λ b. cond b (record { value = value; description = description } ∷ []) []) e)

pub not_text : (entry : Entry) (value description : List ℕ) → IsEntry entry value description → is_utf8 value ≡ false → [] ≡ if_given entry
not_text entry value description is refused = given_when entry value description false is (ap (λ b. b && is_given_text value) refused)

pub is_given : (entry : Entry) (value text description : List ℕ) (counts : Bool) → IsEntry entry value description → text ≡ value → is_utf8 value ≡ true → is_given_text text ≡ counts
    → cond counts (record { value = text; description = description } ∷ []) [] ≡ if_given entry
is_given entry value text description counts is same utf8 fits =
    ap (λ t. cond counts (record { value = t; description = description } ∷ []) []) same
    ∙ given_when entry value description counts is (ap (λ b. b && is_given_text value) utf8 ∙ ap is_given_text (sym same) ∙ fits)
