-- The words that the text of a record spells.
use Rattle.std.proofs.Common.{◌≡◌, ℕ, Bool, true, false, List, [], ◌∷◌, ◌++◌, eqb, refl, ap, ◌∙◌, subst, sym, append_assoc, append-nil, inl, inr, Option, Some, None, map, cond, codes, encode_utf8, not, ◌&&◌, unwrap_or, flat_map, filter, option_map, IsTrue, arith}
use Rattle.std.proofs.lemmas.Bool.{cases_Bool, and_parts}
use Rattle.std.proofs.lemmas.Bool.Decides.{nat_tests}
use Rattle.std.specs.Char.{is_ascii_alphanumeric}
use Rattle.std.specs.List.{list_all}
use Rattle.cc_base.specs.Bytes.{dash}
use Rattle.cc_arg.specs.declared.parts.ArgParts.{ArgParts as Arg}
use Rattle.cc_arg.specs.declared.possible_value.PossibleValue.{PossibleValue}
use Rattle.cc_arg.specs.declared.value_hint.ValueHint.{ValueHint}
use Rattle.cc_arg.specs.declared.value_hint.ValueHint.TheVariants.{Unknown, AnyPath, FilePath, DirPath, ExecutablePath, CommandName, CommandString, Username, Hostname}
use Rattle.cc_arg.specs.Arguments.{possible_values}
use Rattle.cc_arg.specs.ShownNames.{shown_shorts, shown_longs}
use Rattle.cc_command.proofs.PlainParts.{IsPlainArgument}
use Rattle.cc_base.specs.Bytes as ascii
use Rattle.cc_base.specs.Joined.{separator, joined, joined_after}
use Rattle.cc_quote.specs.QuotedWord.{line_feeds_as_spaces}
use Rattle.cc_quote.specs.Escapes.{marked_byte}
use Rattle.cc_quote.specs.FishQuote.{fish_escaped, fish_sign, advance, begins_word, begins_with_word, is_fish_safe, is_double_marked, double_escaped, single_quoted, fish_quoted, fish_quoted_for_eval, fish_help_for_eval_of, bare, in_double}
use Rattle.cc_quote.specs.FishTokens.{between, in_word, commands_from, fish_commands}
use Rattle.cc_quote.proofs.FishEscaped.{fish_escaped_composed}
use Rattle.cc_quote.proofs.FishWords.{safe_sign, safe_bytes, safe_in_double, double_read, single_quoted_read, fish_quoted_read, advance-append}
use Rattle.cc_quote.proofs.FishCutting.{Spells, word_read, Adds, adds_none, adds_word, adds_append, adds_flat_map, command_read}
use Rattle.cc_fish.specs.Script.{condition_text, short_text, long_text, help_text, value_text, value_lines, list_begin, listed_text, hint_text, value_part, values_text, names_text, front_text}
use Rattle.cc_fish.specs.Table.{value_word}
use Rattle.cc_fish.specs.Reader.{joined_words, offered_of}
use Rattle.cc_fish.proofs.Names.{IsName, letter_safe, dash_safe, name_safe, name_spelled, escaped_spelled, IsShortName, plain_shorts, plain_longs}

-- ---- words in `"`

-- whether a byte stays as it is between two `"`
abbrev pub is_kept : ℕ → Bool
is_kept byte = not (eqb byte ascii.double_quote) && (not (eqb byte ascii.backslash) && not (eqb byte ascii.dollar))

kept_byte : (byte : ℕ) → is_kept byte ≡ true → marked_byte is_double_marked byte ≡ byte ∷ []
kept_byte byte h = grind (arith, nat_tests)

kept_escaped : (text : List ℕ) → list_all is_kept text ≡ true → double_escaped text ≡ text
kept_escaped [] h = refl
kept_escaped (byte ∷ text) h =
    let parts = and_parts _ _ h in
    ap (λ bytes. bytes ++ double_escaped text) (kept_byte byte parts.0) ∙ ap (λ bytes. byte ∷ bytes) (kept_escaped text parts.1)

-- a text of such bytes stays as it is between two `"`
pub kept_read : (text word : List ℕ) → list_all is_kept text ≡ true → advance (Some (in_double word)) text ≡ Some (in_double (word ++ text))
kept_read text word h = ap (advance (Some (in_double word))) (sym (kept_escaped text h)) ∙ double_read text word

-- a text in `"`
pub in_doubles : (inner word : List ℕ) → advance (Some (in_double [])) inner ≡ Some (in_double word) → Spells (ascii.double_quote ∷ (inner ++ ascii.double_quote ∷ [])) word
unfolding fish_sign
in_doubles inner word h = record {
  begins = refl;
  spells = advance-append inner (ascii.double_quote ∷ []) (Some (in_double [])) ∙ ap (λ state. advance state (ascii.double_quote ∷ [])) h;
}

-- ---- options and their operands

pub adds_operand : (option text word : List ℕ) → Spells option option → Spells text word → Adds (ascii.space ∷ (option ++ ascii.space ∷ text)) (option ∷ word ∷ [])
adds_operand option text word is h = adds_append (ascii.space ∷ option) (ascii.space ∷ text) (option ∷ []) (word ∷ []) (adds_word option option is) (adds_word text word h)

-- an option is a letter after `-`
option_spelled : (letter : ℕ) → is_ascii_alphanumeric letter ≡ true → Spells (dash ∷ letter ∷ []) (dash ∷ letter ∷ [])
option_spelled letter h = name_spelled (dash ∷ letter ∷ []) (dash_safe, (letter_safe letter h, tt))

-- ---- the condition

abbrev pub condition_words : Option (List ℕ) → List (List ℕ)
condition_words None = []
condition_words (Some text) = codes "-n" ∷ text ∷ []

abbrev pub IsKept : Option (List ℕ) → Type 0
IsKept None = Unit {0}
IsKept (Some text) = list_all is_kept text ≡ true

condition_adds : (when : Option (List ℕ)) → IsKept when → Adds (condition_text when) (condition_words when)
condition_adds None h = adds_none
condition_adds (Some text) h = adds_operand (codes "-n") (ascii.double_quote ∷ (text ++ ascii.double_quote ∷ [])) text (option_spelled _ refl) (in_doubles text text (kept_read text [] h))

-- ---- names and help texts

abbrev pub short_words : ℕ → List (List ℕ)
short_words short = codes "-s" ∷ encode_utf8 short ∷ []

abbrev pub long_words : List ℕ → List (List ℕ)
long_words long = codes "-l" ∷ long ∷ []

abbrev pub help_words : Option (List ℕ) → List (List ℕ)
help_words None = []
help_words (Some help) = codes "-d" ∷ line_feeds_as_spaces help ∷ []

short_adds : (short : ℕ) → IsShortName short → Adds (short_text short) (short_words short)
unfolding short_text
short_adds short h = adds_operand (codes "-s") (encode_utf8 short) (encode_utf8 short) (option_spelled _ refl) (name_spelled (encode_utf8 short) h)

long_adds : (long : List ℕ) → IsName long → Adds (long_text long) (long_words long)
unfolding long_text
long_adds long h = adds_operand (codes "-l") (fish_escaped long) long (option_spelled _ refl) (escaped_spelled long h)

single_quoted_spelled : (text : List ℕ) → Spells (single_quoted text) text
unfolding fish_sign
single_quoted_spelled text = record { begins = refl; spells = single_quoted_read text [] }

pub help_adds : (help : Option (List ℕ)) → Adds (help_text help) (help_words help)
help_adds None = adds_none
help_adds (Some help) =
    subst (λ escaped. Adds (codes " -d '" ++ escaped ++ codes "'") (help_words (Some help))) (sym (fish_escaped_composed help))
    (adds_operand (codes "-d") (single_quoted (line_feeds_as_spaces help)) (line_feeds_as_spaces help) (option_spelled _ refl) (single_quoted_spelled (line_feeds_as_spaces help)))

abbrev pub names_words : Arg → List (List ℕ)
names_words argument = flat_map short_words (shown_shorts argument) ++ flat_map long_words (shown_longs argument) ++ help_words argument.help

pub names_adds : (argument : Arg) → IsPlainArgument argument → Adds (names_text argument) (names_words argument)
unfolding names_text
names_adds argument is =
    adds_append _ _ _ _
    (adds_append _ _ _ _ (adds_flat_map IsShortName short_text short_words short_adds (shown_shorts argument) (plain_shorts argument is))
    (adds_flat_map IsName long_text long_words long_adds (shown_longs argument) (plain_longs argument is)))
    (help_adds argument.help)

-- ---- listed values

-- a value after the first reading
abbrev pub value_inner : PossibleValue → List ℕ
value_inner value = fish_quoted value.name ++ (codes "\\t" ++ single_quoted (line_feeds_as_spaces (unwrap_or value.help [])))

tab_once : (word help : List ℕ) → advance (Some (in_double word)) (codes "\\t" ++ double_escaped help) ≡ Some (in_double ((word ++ codes "\\t") ++ help))
unfolding fish_sign
tab_once word help =
    double_read help ((word ++ codes "\\") ++ codes "t") ∙ ap (λ t. Some (in_double (t ++ help))) (append_assoc word (codes "\\") (codes "t"))

value_once : (value : PossibleValue) (word : List ℕ) → advance (Some (in_double word)) (value_text value) ≡ Some (in_double (word ++ value_inner value))
unfolding value_text fish_quoted_for_eval fish_help_for_eval_of
value_once value word =
    let help : List ℕ = single_quoted (line_feeds_as_spaces (unwrap_or value.help [])) in
    ap (advance (Some (in_double word))) (append_assoc (double_escaped (fish_quoted value.name)) (codes "\\t") (double_escaped help))
    ∙ advance-append (double_escaped (fish_quoted value.name)) (codes "\\t" ++ double_escaped help) (Some (in_double word))
    ∙ ap (λ state. advance state (codes "\\t" ++ double_escaped help)) (double_read (fish_quoted value.name) word)
    ∙ tab_once (word ++ fish_quoted value.name) help
    ∙ ap (λ t. Some (in_double t)) (simp append_assoc)

-- lines with separators; the flag says whether a line comes before them
abbrev lines_after : Bool → List (List ℕ) → List ℕ
lines_after begun lines = joined_after (ascii.line_feed ∷ []) begun lines

keep_separator : (begun : Bool) → list_all is_kept (separator (ascii.line_feed ∷ []) begun) ≡ true
keep_separator true = refl
keep_separator false = refl

-- the first reading of listed values
values_once : (values : List PossibleValue) (begun : Bool) (word : List ℕ)
    → advance (Some (in_double word)) (lines_after begun (map value_text values)) ≡ Some (in_double (word ++ lines_after begun (map value_inner values)))
values_once [] begun word = rw append-nil
values_once (value ∷ values) begun word =
    let before : List ℕ = separator (ascii.line_feed ∷ []) begun in
    let further : List ℕ = lines_after true (map value_text values) in
    ap (advance (Some (in_double word))) (append_assoc before (value_text value) further)
    ∙ advance-append before (value_text value ++ further) (Some (in_double word))
    ∙ ap (λ state. advance state (value_text value ++ further)) (kept_read before word (keep_separator begun))
    ∙ advance-append (value_text value) further (Some (in_double (word ++ before)))
    ∙ ap (λ state. advance state further) (value_once value (word ++ before))
    ∙ values_once values true ((word ++ before) ++ value_inner value)
    ∙ ap (λ t. Some (in_double t)) (simp append_assoc)

quoted_begins : (text rest : List ℕ) → IsTrue (begins_with_word (fish_quoted text ++ rest))
unfolding fish_quoted fish_sign
quoted_begins [] rest = refl
quoted_begins (byte ∷ text) rest = elim (cases_Bool (list_all is_fish_safe (byte ∷ text))) [
  | inl safe ↦ rw safe (ap begins_word (safe_sign byte (safe_bytes (byte ∷ text) safe).0))
  | inr unsafe ↦ rw unsafe refl
]

tab_read : (name help : List ℕ) → advance (Some (bare name)) (codes "\\t" ++ single_quoted help) ≡ Some (bare ((name ++ ascii.tab ∷ []) ++ help))
unfolding fish_sign
tab_read name help = single_quoted_read help (name ++ ascii.tab ∷ [])

-- a value spells its word
value_spelled : (value : PossibleValue) → Spells (value_inner value) (value_word value)
value_spelled value =
    let help : List ℕ = line_feeds_as_spaces (unwrap_or value.help []) in
    record {
      begins = quoted_begins value.name (codes "\\t" ++ single_quoted help);
      spells =
          advance-append (fish_quoted value.name) (codes "\\t" ++ single_quoted help) (Some (bare []))
          ∙ ap (λ state. advance state (codes "\\t" ++ single_quoted help)) (fish_quoted_read value.name [])
          ∙ tab_read value.name help
          ∙ ap (λ t. Some (bare t)) (append_assoc value.name (ascii.tab ∷ []) help);
    }

further_twice : (values : List PossibleValue) (word : List ℕ)
    → joined_words (commands_from (in_word [] (bare word)) (lines_after true (map value_inner values))) ≡ Some (word ∷ map value_word values)
unfolding fish_sign
further_twice [] word = refl
further_twice (value ∷ values) word =
    let further : List ℕ = lines_after true (map value_inner values) in
    ap (λ commands. option_map (λ later. word ∷ later) (joined_words commands)) (word_read (value_inner value) (value_word value) [] further (value_spelled value))
    ∙ ap (option_map (λ later. word ∷ later)) (further_twice values (value_word value))

-- the second reading of listed values
pub values_twice : (values : List PossibleValue) → offered_of (joined (ascii.line_feed ∷ []) (map value_inner values)) ≡ Some (map value_word values)
unfolding fish_commands
values_twice [] = refl
values_twice (value ∷ values) =
    ap joined_words (word_read (value_inner value) (value_word value) [] (lines_after true (map value_inner values)) (value_spelled value))
    ∙ further_twice values (value_word value)

-- ---- the values of an option

abbrev pub hint_words : ValueHint → List (List ℕ)
hint_words Unknown = codes "-r" ∷ []
hint_words AnyPath = codes "-r" ∷ codes "-F" ∷ []
hint_words FilePath = codes "-r" ∷ codes "-F" ∷ []
hint_words ExecutablePath = codes "-r" ∷ codes "-F" ∷ []
hint_words DirPath = codes "-r" ∷ codes "-f" ∷ codes "-a" ∷ codes "(__fish_complete_directories)" ∷ []
hint_words CommandString = codes "-r" ∷ codes "-f" ∷ codes "-a" ∷ codes "(__fish_complete_command)" ∷ []
hint_words CommandName = codes "-r" ∷ codes "-f" ∷ codes "-a" ∷ codes "(__fish_complete_command)" ∷ []
hint_words Username = codes "-r" ∷ codes "-f" ∷ codes "-a" ∷ codes "(__fish_complete_users)" ∷ []
hint_words Hostname = codes "-r" ∷ codes "-f" ∷ codes "-a" ∷ codes "(__fish_print_hostnames)" ∷ []
hint_words _ = codes "-r" ∷ codes "-f" ∷ []

adds_offer : (text word : List ℕ) → Spells text word → Adds (codes " -r -f -a " ++ text) (codes "-r" ∷ codes "-f" ∷ codes "-a" ∷ word ∷ [])
adds_offer text word h =
    adds_append (codes " -r") _ _ _ (adds_word (codes "-r") (codes "-r") (option_spelled _ refl))
    (adds_append (codes " -f") _ _ _ (adds_word (codes "-f") (codes "-f") (option_spelled _ refl)) (adds_operand (codes "-a") text word (option_spelled _ refl) h))

files_adds : Adds (codes " -r -F") (codes "-r" ∷ codes "-F" ∷ [])
files_adds = adds_append (codes " -r") (codes " -F") _ _ (adds_word (codes "-r") (codes "-r") (option_spelled _ refl)) (adds_word (codes "-F") (codes "-F") (option_spelled _ refl))

no_files_adds : Adds (codes " -r -f") (codes "-r" ∷ codes "-f" ∷ [])
no_files_adds = adds_append (codes " -r") (codes " -f") _ _ (adds_word (codes "-r") (codes "-r") (option_spelled _ refl)) (adds_word (codes "-f") (codes "-f") (option_spelled _ refl))

command_adds : Adds (codes " -r -f -a \"(__fish_complete_command)\"") (codes "-r" ∷ codes "-f" ∷ codes "-a" ∷ codes "(__fish_complete_command)" ∷ [])
unfolding fish_sign
command_adds = adds_offer (codes "\"(__fish_complete_command)\"") _ (in_doubles (codes "(__fish_complete_command)") _ refl)

hint_adds : (hint : ValueHint) → Adds (hint_text hint) (hint_words hint)
unfolding fish_sign hint_text
hint_adds Unknown = adds_word (codes "-r") (codes "-r") (option_spelled _ refl)
hint_adds AnyPath = files_adds
hint_adds FilePath = files_adds
hint_adds ExecutablePath = files_adds
hint_adds DirPath = adds_offer (codes "\"(__fish_complete_directories)\"") _ (in_doubles (codes "(__fish_complete_directories)") _ refl)
hint_adds CommandString = command_adds
hint_adds CommandName = command_adds
hint_adds Username = adds_offer (codes "\"(__fish_complete_users)\"") _ (in_doubles (codes "(__fish_complete_users)") _ refl)
hint_adds Hostname = adds_offer (codes "\"(__fish_print_hostnames)\"") _ (in_doubles (codes "(__fish_print_hostnames)") _ refl)
hint_adds hint = no_files_adds

-- the listed values that are not hidden
abbrev pub shown_of : List PossibleValue → List PossibleValue
shown_of values = filter (λ value. not value.hide) values

-- the words of listed values, or of the hint
abbrev pub part_words : Option (List PossibleValue) → ValueHint → List (List ℕ)
part_words (Some values) hint = codes "-r" ∷ codes "-f" ∷ codes "-a" ∷ joined (ascii.line_feed ∷ []) (map value_inner (shown_of values)) ∷ []
part_words None hint = hint_words hint

part_adds : (values : Option (List PossibleValue)) (hint : ValueHint) → Adds (value_part values hint) (part_words values hint)
unfolding listed_text list_begin value_lines
part_adds (Some values) hint =
    let raw : List ℕ = joined (ascii.line_feed ∷ []) (map value_text (shown_of values)) in
    let once : List ℕ = joined (ascii.line_feed ∷ []) (map value_inner (shown_of values)) in
    adds_offer (ascii.double_quote ∷ (raw ++ ascii.double_quote ∷ [])) once (in_doubles raw once (values_once (shown_of values) false []))
part_adds None hint = hint_adds hint

abbrev pub values_words : Bool → Arg → List (List ℕ)
values_words true argument = part_words (possible_values argument) argument.value_hint
values_words false argument = []

pub values_adds : (takes : Bool) (argument : Arg) → Adds (values_text takes argument) (values_words takes argument)
unfolding values_text
values_adds true argument = part_adds (possible_values argument) argument.value_hint
values_adds false argument = adds_none

-- ---- a child's name

pub child_offer_adds : (name : List ℕ) → IsName name → Adds (codes " -a \"" ++ (name ++ codes "\"")) (codes "-a" ∷ name ∷ [])
child_offer_adds name h = adds_operand (codes "-a") (ascii.double_quote ∷ (name ++ ascii.double_quote ∷ [])) name (option_spelled _ refl) (in_doubles name name (safe_in_double name [] (name_safe name h)))

pub no_files_mark_adds : (no_files : Bool) → Adds (cond no_files (codes " -f") []) (cond no_files (codes "-f" ∷ []) [])
no_files_mark_adds true = adds_word (codes "-f") (codes "-f") (option_spelled _ refl)
no_files_mark_adds false = adds_none

-- ---- a record

abbrev pub front_words : List ℕ → Option (List ℕ) → List (List ℕ)
front_words bin_name when = codes "-c" ∷ bin_name ∷ condition_words when

complete : Spells (codes "complete") (codes "complete")
unfolding fish_sign
complete = record { begins = refl; spells = refl }

-- a record's text is one command
pub record_read : (bin_name : List ℕ) (when : Option (List ℕ)) (text : List ℕ) (words : List (List ℕ)) (rest : List ℕ) → IsName bin_name → IsKept when → Adds text words
    → commands_from (between []) (front_text bin_name when ++ (text ++ ascii.line_feed ∷ rest)) ≡ Some (codes "complete" ∷ (front_words bin_name when ++ words)) ∷ commands_from (between []) rest
unfolding front_text
record_read bin_name when text words rest name is adds =
    let end : List ℕ = ascii.line_feed ∷ rest in
    let front : Adds (codes " -c " ++ bin_name) (codes "-c" ∷ bin_name ∷ []) = adds_operand (codes "-c") bin_name bin_name (option_spelled _ refl) (name_spelled bin_name name) in
    ap (commands_from (between []))
    (ap (λ t. codes "complete -c " ++ t)
    (append_assoc bin_name (condition_text when) (text ++ end)
    ∙ ap (λ t. bin_name ++ t) (sym (append_assoc (condition_text when) text end))
    ∙ sym (append_assoc bin_name (condition_text when ++ text) end)))
    ∙ command_read (codes "complete") (codes "complete") ((codes " -c " ++ bin_name) ++ (condition_text when ++ text)) _ rest complete
    (adds_append _ _ _ _ front (adds_append _ _ _ _ (condition_adds when is) adds))
