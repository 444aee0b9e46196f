-- The word of an option reads back to the option. Other words describe no option.
use Rattle.std.proofs.Common.{◌≡◌, ◌==◌, ℕ, Bool, true, false, cond, ◌&&◌, ◌||◌, IsTrue, List, [], ◌∷◌, ◌++◌, Some, None, codes, refl, sym, ◌∙◌, ap, subst, inl, inr, arith, append_assoc, append-nil}
use Rattle.std.specs.Char.{is_ascii_alphanumeric}
use Rattle.std.specs.List.{AllByRecursion, list_all}
use Rattle.std.proofs.lemmas.Bool.{cases_Bool}
use Rattle.std.proofs.lemmas.Bool.Decides.{Decides-eqb, nat_tests}
use Rattle.cc_base.specs.Bytes as ascii
use Rattle.cc_base.specs.Joined.{joined, joined_after}
use Rattle.cc_quote.specs.Escapes.{marked_byte, marked}
use Rattle.cc_quote.specs.ZshQuote.{is_help_marked, is_value_marked}
use Rattle.cc_zsh.specs.Reader.{Bracket, ZshOption, OptionState, new_option, with_help, with_name, is_name_byte, after_name, next_state, state_after, is_typed_name, with_typed_names, read_option, option_of}
use Rattle.cc_zsh.specs.Reader.Bracket.{alone, after_plus, after_equals}
use Rattle.cc_zsh.specs.Reader.OptionState.{before_option, in_conflicts, after_conflicts, after_star, in_name, at_bracket, in_help, in_help_escaped, after_help, no_option}

-- ---- names

abbrev pub AreNameBytes : List ℕ → Type 0
AreNameBytes text = AllByRecursion (λ byte. is_name_byte byte ≡ true) text

-- a dash and bytes of names
abbrev pub StartsDashed : List ℕ → Type 0
StartsDashed [] = ⊥
StartsDashed (byte ∷ text) = (byte ≡ 45) × AreNameBytes text

-- such a text, which is one or two dashes and a plain name
pub record IsDashed (text : List ℕ) : Type 0 where
  pub starts : StartsDashed text
  pub typed : IsTrue (is_typed_name text)

-- a byte of names differs from a byte that occurs in no name
pub name_byte-differs : (other byte : ℕ) →
    (is_ascii_alphanumeric other || other == ascii.dash || other == ascii.underscore) ≡ false → is_name_byte byte ≡ true →
    byte == other ≡ false
unfolding is_name_byte
name_byte-differs other byte outside h = elim (cases_Bool (byte == other)) [
  | inl t ↦
      let same : other ≡ byte = sym ((Decides-eqb byte other).0 t) in
      let wrong : false ≡ true = sym outside ∙ ap is_name_byte same ∙ h in cc
  | inr f ↦ f
]

dash_is_name : is_name_byte 45 ≡ true
unfolding is_name_byte
dash_is_name = refl

pub dashed_bytes : (text : List ℕ) → IsDashed text → AreNameBytes text
dashed_bytes text h = by_start text h.starts
  where
    by_start : (name : List ℕ) → StartsDashed name → AreNameBytes name
    by_start [] k = absurd k
    by_start (byte ∷ name) (e, k) = (ap is_name_byte e ∙ dash_is_name, k)

name_read : (text rest name : List ℕ) (names : List (List ℕ)) (repeated : Bool) →
    AreNameBytes text → state_after (in_name names repeated name) (text ++ rest)
    ≡ state_after (in_name names repeated (name ++ text)) rest
unfolding state_after next_state
name_read [] rest name names repeated h =
    ap (λ n. state_after (in_name names repeated n) rest) (sym (append-nil name))
name_read (byte ∷ text) rest name names repeated (h, hs) =
    ap (λ b. state_after (cond b (in_name names repeated (name ++ byte ∷ []))
    (after_name names repeated name byte)) (text ++ rest)) h
    ∙ name_read text rest (name ++ byte ∷ []) names repeated hs
    ∙ ap (λ n. state_after (in_name names repeated n) rest) (append_assoc name (byte ∷ []) text)

-- ---- brackets and help texts

-- the text between a name and its help text
abbrev pub bracket_text : Bracket → List ℕ
bracket_text alone = []
bracket_text after_plus = codes "+"
bracket_text after_equals = codes "="

bracket_read : (bracket : Bracket) (rest name : List ℕ) (names : List (List ℕ)) (repeated : Bool) →
    state_after (in_name names repeated name) (bracket_text bracket ++ ascii.open_bracket ∷ rest)
    ≡ state_after (in_help (new_option names repeated name bracket)) rest
unfolding state_after next_state is_name_byte after_name
bracket_read alone rest name names repeated = refl
bracket_read bracket rest name names repeated = refl

-- after the help text nothing changes
pub after_stays : (option : ZshOption) (rest : List ℕ) →
    state_after (after_help option) rest ≡ after_help option
unfolding state_after next_state
after_stays option [] = refl
after_stays option (byte ∷ rest) = after_stays option rest

abbrev helped : ZshOption → List ℕ → ZshOption
helped option help = record option { help = option.help ++ help }

not_bracket : (byte : ℕ) → is_help_marked byte ≡ false → byte == ascii.close_bracket ≡ false
not_bracket byte h = grind (arith, nat_tests)

not_backslash : (byte : ℕ) → is_help_marked byte ≡ false → byte == ascii.backslash ≡ false
not_backslash byte h = grind (arith, nat_tests)

help_byte_read : (byte : ℕ) (rest : List ℕ) (option : ZshOption) →
    state_after (in_help option) (marked_byte is_help_marked byte ++ rest)
    ≡ state_after (in_help (with_help option byte)) rest
unfolding state_after next_state
help_byte_read byte rest option = by_test (is_help_marked byte) refl
  where
    by_test : (m : Bool) → is_help_marked byte ≡ m →
        state_after (in_help option) (cond m (ascii.backslash ∷ byte ∷ []) (byte ∷ []) ++ rest)
        ≡ state_after (in_help (with_help option byte)) rest
    by_test true e = refl
    by_test false e =
        ap (λ b. state_after (cond b (after_help option) (cond (byte == ascii.backslash) (in_help_escaped option)
        (in_help (with_help option byte)))) rest) (not_bracket byte e)
        ∙ ap (λ b. state_after (cond b (in_help_escaped option)
        (in_help (with_help option byte))) rest) (not_backslash byte e)

help_read : (help rest : List ℕ) (option : ZshOption) →
    state_after (in_help option) (marked is_help_marked help ++ ascii.close_bracket ∷ rest)
    ≡ after_help (helped option help)
unfolding state_after next_state
help_read [] rest option =
    after_stays option rest ∙ ap (λ h. after_help (record option { help = h })) (sym (append-nil option.help))
help_read (byte ∷ help) rest option =
    ap (state_after (in_help option))
    (append_assoc (marked_byte is_help_marked byte) (marked is_help_marked help) (ascii.close_bracket ∷ rest))
    ∙ help_byte_read byte (marked is_help_marked help ++ ascii.close_bracket ∷ rest) option
    ∙ help_read help rest (with_help option byte)
    ∙ ap (λ h. after_help (record option { help = h })) (append_assoc option.help (byte ∷ []) help)

-- ---- conflicting names

conflict_read : (text rest name : List ℕ) (names : List (List ℕ)) → AreNameBytes text →
    state_after (in_conflicts names name) (text ++ rest)
    ≡ state_after (in_conflicts names (name ++ text)) rest
unfolding state_after next_state
conflict_read [] rest name names h =
    ap (λ n. state_after (in_conflicts names n) rest) (sym (append-nil name))
conflict_read (byte ∷ text) rest name names (h, hs) =
    ap (λ b. state_after (cond b (after_conflicts (with_name names name))
    (cond (byte == ascii.space) (in_conflicts (with_name names name) [])
    (in_conflicts names (name ++ byte ∷ [])))) (text ++ rest)) (name_byte-differs ascii.close_parenthesis byte refl h)
    ∙ ap (λ b. state_after (cond b (in_conflicts (with_name names name) [])
    (in_conflicts names (name ++ byte ∷ []))) (text ++ rest)) (name_byte-differs ascii.space byte refl h)
    ∙ conflict_read text rest (name ++ byte ∷ []) names hs
    ∙ ap (λ n. state_after (in_conflicts names n) rest) (append_assoc name (byte ∷ []) text)

with_dashed : (names : List (List ℕ)) (name : List ℕ) → IsDashed name →
    with_name names name ≡ names ++ name ∷ []
with_dashed names [] h = absurd h.starts
with_dashed names (byte ∷ name) h = refl

-- the names after the first
names_read : (words : List (List ℕ)) (rest name : List ℕ) (names : List (List ℕ)) →
    AllByRecursion IsDashed words →
    state_after (in_conflicts names name) (joined_after (codes " ") true words ++ ascii.close_parenthesis ∷ rest)
    ≡ state_after (after_conflicts (with_name names name ++ words)) rest
unfolding state_after next_state
names_read [] rest name names h =
    ap (λ ns. state_after (after_conflicts ns) rest) (sym (append-nil (with_name names name)))
names_read (word ∷ words) rest name names (h, hs) =
    let before : List (List ℕ) = with_name names name in
    let more : List ℕ = joined_after (codes " ") true words ++ ascii.close_parenthesis ∷ rest in
    ap (state_after (in_conflicts before []))
    (append_assoc word (joined_after (codes " ") true words) (ascii.close_parenthesis ∷ rest))
    ∙ conflict_read word more [] before (dashed_bytes word h)
    ∙ names_read words rest word before hs
    ∙ ap (λ ns. state_after (after_conflicts (ns ++ words)) rest) (with_dashed before word h)
    ∙ ap (λ ns. state_after (after_conflicts ns) rest) (append_assoc before (word ∷ []) words)

-- all names between brackets
pub conflicts_read : (words : List (List ℕ)) (rest : List ℕ) → AllByRecursion IsDashed words →
    state_after before_option (codes "(" ++ (joined (codes " ") words ++ (codes ")" ++ rest)))
    ≡ state_after (after_conflicts words) rest
unfolding state_after next_state
conflicts_read [] rest h = refl
conflicts_read (word ∷ words) rest (h, hs) =
    ap (state_after (in_conflicts [] []))
    (append_assoc word (joined_after (codes " ") true words) (ascii.close_parenthesis ∷ rest))
    ∙ conflict_read word (joined_after (codes " ") true words ++ ascii.close_parenthesis ∷ rest) [] [] (dashed_bytes word h)
    ∙ names_read words rest word [] hs
    ∙ ap (λ ns. state_after (after_conflicts (ns ++ words)) rest) (with_dashed [] word h)

-- ---- whole words

-- the text before the name
abbrev pub front_of : Bool → List (List ℕ) → List ℕ
front_of false words = []
front_of true words = codes "(" ++ (joined (codes " ") words ++ codes ")")

abbrev pub star_of : Bool → List ℕ
star_of repeated = cond repeated (codes "*") []

-- the text after the name
abbrev pub after_name_text : Bracket → List ℕ → List ℕ → List ℕ
after_name_text bracket help values =
    bracket_text bracket ++ (codes "[" ++ (help ++ (codes "]" ++ values)))

-- the word of an option, given its written help text
abbrev pub option_word : Bool → List (List ℕ) → Bool → List ℕ → Bracket → List ℕ → List ℕ → List ℕ
option_word has_front words repeated name bracket help values =
    front_of has_front words ++ (star_of repeated ++ (name ++ after_name_text bracket help values))

abbrev option_with : List (List ℕ) → Bool → List ℕ → Bracket → List ℕ → ZshOption
option_with words repeated name bracket help = record {
  conflicts = words;
  repeated = repeated;
  name = name;
  bracket = bracket;
  help = help;
}

-- from the first byte of the name on
rest_read : (words : List (List ℕ)) (repeated : Bool) (name : List ℕ) (bracket : Bracket)
    (help values : List ℕ) → AreNameBytes name →
    state_after (in_name words repeated (ascii.dash ∷ []))
    (name ++ after_name_text bracket (marked is_help_marked help) values)
    ≡ after_help (option_with words repeated (ascii.dash ∷ name) bracket help)
rest_read words repeated name bracket help values h =
    name_read name (after_name_text bracket (marked is_help_marked help) values) (ascii.dash ∷ []) words
    repeated h
    ∙ bracket_read bracket (marked is_help_marked help ++ (codes "]" ++ values)) (ascii.dash ∷ name) words
    repeated
    ∙ help_read help values (new_option words repeated (ascii.dash ∷ name) bracket)

-- from the star on, if a star and a dash lead on as after the given conflicting names
star_read : (state : OptionState) (words : List (List ℕ)) →
    ((rest : List ℕ) → state_after state (ascii.star ∷ rest) ≡ state_after (after_star words) rest) →
    ((rest : List ℕ) → state_after state (ascii.dash ∷ rest)
    ≡ state_after (in_name words false (ascii.dash ∷ [])) rest) →
    (repeated : Bool) (name : List ℕ) (bracket : Bracket) (help values : List ℕ) →
    StartsDashed name → state_after state
    (star_of repeated ++ (name ++ after_name_text bracket (marked is_help_marked help) values))
    ≡ after_help (option_with words repeated name bracket help)
unfolding state_after next_state
star_read state words star dash repeated [] bracket help values h = absurd h
star_read state words star dash true (byte ∷ name) bracket help values (e, h) =
    star ((byte ∷ name) ++ after_name_text bracket (marked is_help_marked help) values)
    ∙ rw e (rest_read words true name bracket help values h)
star_read state words star dash false (byte ∷ name) bracket help values (e, h) =
    rw e (dash (name ++ after_name_text bracket (marked is_help_marked help) values)
    ∙ rest_read words false name bracket help values h)

-- without a front there are no conflicting names
abbrev pub IsFront : Bool → List (List ℕ) → Type 0
IsFront true words = AllByRecursion IsDashed words
IsFront false words = words ≡ []

all_typed : (words : List (List ℕ)) → AllByRecursion IsDashed words →
    IsTrue (list_all is_typed_name words)
all_typed [] h = refl
all_typed (word ∷ words) (h, hs) =
    ap (λ b. b && list_all is_typed_name words) h.typed ∙ all_typed words hs

-- an option with such names is not passed over
typed_kept : (words : List (List ℕ)) (repeated : Bool) (name : List ℕ) (bracket : Bracket)
    (help : List ℕ) → AllByRecursion IsDashed words → IsDashed name →
    read_option (after_help (option_with words repeated name bracket help))
    ≡ Some (option_with words repeated name bracket help)
unfolding read_option with_typed_names
typed_kept words repeated name bracket help are h =
    let option : ZshOption = option_with words repeated name bracket help in
    ap (λ b. cond (b && list_all is_typed_name words) (Some option) None) h.typed
    ∙ ap (λ b. cond b (Some option) None) (all_typed words are)

-- an option's word describes the option
pub option_read : (has_front : Bool) (words : List (List ℕ)) (repeated : Bool) (name : List ℕ)
    (bracket : Bracket) (help values : List ℕ) → IsFront has_front words → IsDashed name →
    option_of
    (option_word has_front words repeated name bracket (marked is_help_marked help) values)
    ≡ Some (option_with words repeated name bracket help)
unfolding option_of state_after next_state
option_read false words repeated name bracket help values none h =
    ap read_option (star_read before_option [] (λ rest. refl) (λ rest. refl) repeated name bracket
    help values h.starts)
    ∙ typed_kept [] repeated name bracket help tt h
    ∙ ap (λ ws. Some (option_with ws repeated name bracket help)) (sym none)
option_read true words repeated name bracket help values are h =
    let rest : List ℕ = star_of repeated
    ++ (name ++ after_name_text bracket (marked is_help_marked help) values) in
    ap (λ t. read_option (state_after before_option (codes "(" ++ t)))
    (append_assoc (joined (codes " ") words) (codes ")") rest)
    ∙ ap read_option (conflicts_read words rest are
    ∙ star_read (after_conflicts words) words (λ rest. refl) (λ rest. refl) repeated name bracket
    help values h.starts)
    ∙ typed_kept words repeated name bracket help are h

-- ---- words that describe no option

pub none_stays : (rest : List ℕ) → state_after no_option rest ≡ no_option
unfolding state_after next_state
none_stays [] = refl
none_stays (byte ∷ rest) = none_stays rest

-- a word that begins with a colon
pub colon_none : (rest : List ℕ) → option_of (codes ":" ++ rest) ≡ None
unfolding option_of state_after next_state read_option
colon_none rest = ap read_option (none_stays rest)

-- the states between the star and the bracket
data BeforeBracket : OptionState → Type 0 where
  star_state : (names : List (List ℕ)) → BeforeBracket (after_star names)
  name_state : (names : List (List ℕ)) (repeated : Bool) (name : List ℕ) →
      BeforeBracket (in_name names repeated name)
  bracket_state : (names : List (List ℕ)) (repeated : Bool) (name : List ℕ) (bracket : Bracket) →
      BeforeBracket (at_bracket names repeated name bracket)
  none_state : BeforeBracket no_option

by_cond : (q : Bool) {a b : OptionState} → BeforeBracket a → BeforeBracket b → BeforeBracket (cond q a b)
by_cond true h k = h
by_cond false h k = k

not_open : (byte : ℕ) → is_value_marked byte ≡ false → byte == ascii.open_bracket ≡ false
not_open byte h = grind (arith, nat_tests)

-- a byte other than a bracket does not lead on to the help text
kept_before : (state : OptionState) (byte : ℕ) → BeforeBracket state → byte == ascii.open_bracket ≡ false →
    BeforeBracket (next_state state byte)
unfolding next_state after_name
kept_before state byte (star_state names) e =
    by_cond (byte == ascii.dash) (name_state names true (byte ∷ [])) none_state
kept_before state byte (name_state names repeated name) e =
    by_cond (is_name_byte byte) (name_state names repeated (name ++ byte ∷ []))
    (subst (λ b. BeforeBracket (cond b (in_help (new_option names repeated name alone))
    (cond (byte == ascii.plus) (at_bracket names repeated name after_plus)
    (cond (byte == ascii.equals) (at_bracket names repeated name after_equals) no_option)))) (sym e)
    (by_cond (byte == ascii.plus) (bracket_state names repeated name after_plus)
    (by_cond (byte == ascii.equals) (bracket_state names repeated name after_equals) none_state)))
kept_before state byte (bracket_state names repeated name bracket) e =
    subst (λ b. BeforeBracket (cond b (in_help (new_option names repeated name bracket)) no_option))
    (sym e) none_state
kept_before state byte none_state e = none_state

-- no option follows a backslash
backslash_none : (state : OptionState) → BeforeBracket state → next_state state ascii.backslash ≡ no_option
unfolding next_state after_name is_name_byte
backslash_none state (star_state names) = refl
backslash_none state _ = refl

value_before : (text : List ℕ) (state : OptionState) → BeforeBracket state →
    BeforeBracket (state_after state (marked is_value_marked text))
unfolding state_after
value_before [] state h = h
value_before (byte ∷ text) state h = by_test (is_value_marked byte) refl
    (λ e. value_before text (next_state state byte) (kept_before state byte h (not_open byte e)))
  where
    by_test : (m : Bool) → is_value_marked byte ≡ m → (is_value_marked byte ≡ false →
        BeforeBracket (state_after (next_state state byte) (marked is_value_marked text))) →
        BeforeBracket (state_after state (cond m (ascii.backslash ∷ byte ∷ []) (byte ∷ [])
        ++ marked is_value_marked text))
    by_test true e again =
        subst (λ p. BeforeBracket (state_after p (byte ∷ marked is_value_marked text)))
        (sym (backslash_none state h))
        (subst BeforeBracket (sym (none_stays (byte ∷ marked is_value_marked text))) none_state)
    by_test false e again = again e

-- a colon ends it
colon_ends : (state : OptionState) (rest : List ℕ) → BeforeBracket state →
    state_after state (ascii.colon ∷ rest) ≡ no_option
unfolding state_after next_state after_name is_name_byte
colon_ends state rest (star_state names) = none_stays rest
colon_ends state rest _ = none_stays rest

state_after-append : (text rest : List ℕ) (state : OptionState) →
    state_after state (text ++ rest) ≡ state_after (state_after state text) rest
unfolding state_after
state_after-append [] rest state = refl
state_after-append (byte ∷ text) rest state = state_after-append text rest (next_state state byte)

-- a word that begins with a star, an escaped value and a colon
pub star_none : (value rest : List ℕ) →
    option_of (codes "*" ++ (marked is_value_marked value ++ (codes ":" ++ rest))) ≡ None
unfolding option_of state_after next_state read_option
star_none value rest =
    ap read_option (state_after-append (marked is_value_marked value) (ascii.colon ∷ rest) (after_star [])
    ∙ colon_ends (state_after (after_star []) (marked is_value_marked value)) rest
    (value_before value (after_star []) (star_state [])))
