-- The text for the values of an argument holds no `'` except escaped ones.
use Rattle.std.proofs.Common.{◌≡◌, ◌==◌, ℕ, zero, suc, Bool, true, false, cond, not, IsTrue, List, [], ◌∷◌, ◌++◌, map, Option, Some, None, unwrap_or, codes, refl}
use Rattle.std.specs.List.{AllByRecursion, list_any}
use Rattle.std.proofs.lemmas.Bool.{not-true}
use Rattle.cc_base.specs.Bytes.{single_quote}
use Rattle.cc_base.proofs.Booleans.{each_passes}
use Rattle.cc_base.proofs.Members.{AllByRecursion-weaker}
use Rattle.cc_base.specs.Joined.{joined_after, separator}
use Rattle.cc_arg.specs.declared.parts.ArgParts.{ArgParts as Arg}
use Rattle.cc_arg.specs.declared.possible_value.PossibleValue.{PossibleValue}
use Rattle.cc_arg.specs.declared.value_hint.ValueHint.{ValueHint}
use Rattle.cc_arg.specs.declared.value_hint.ValueHint.TheVariants.{Unknown, Other, DirPath, ExecutablePath, CommandName, CommandString, CommandWithArguments, Username, Hostname, Url, EmailAddress}
use Rattle.cc_arg.specs.Arguments.{possible_values, takes_values}
use Rattle.cc_command.proofs.PlainParts.{HasNoQuote}
use Rattle.cc_quote.specs.QuotedWord.{line_feeds_as_spaces}
use Rattle.cc_quote.specs.Escapes.{marked}
use Rattle.cc_quote.specs.ZshQuote.{is_help_marked, is_value_marked, zsh_escaped_help, zsh_escaped_value}
use Rattle.cc_quote.proofs.ZshWords.{help_composed, value_composed}
use Rattle.cc_zsh.specs.declared.values.Form.{Form}
use Rattle.cc_zsh.specs.declared.values.Form.TheVariants.{Names, Helps}
use Rattle.cc_zsh.specs.Values.{shown_values, is_described, item_help, item_text, item_separator, items_text, list_text, hint_text, listed_or_hint, value_text, first_name, one_value, times, least_values, range, values_text}
use Rattle.cc_zsh.proofs.Cutting.{NoQuote, IsEscaped, escaped_append, escaped_same, escaped_of}

-- a text without a quote, by the tests for plain trees
pub no_quote : (text : List ℕ) → HasNoQuote text → NoQuote text
no_quote text h = AllByRecursion-weaker (λ byte. IsTrue (not (byte == single_quote))) (λ byte. byte == single_quote ≡ false)
    (λ byte k. not-true (byte == single_quote) k) text (each_passes (λ byte. not (byte == single_quote)) text h)

escaped_value : (text : List ℕ) → IsEscaped (zsh_escaped_value text)
escaped_value text = escaped_of (zsh_escaped_value text) (marked is_value_marked text) (value_composed text)

escaped_help : (text : List ℕ) → IsEscaped (zsh_escaped_help text)
escaped_help text =
    escaped_of (zsh_escaped_help text) (marked is_help_marked (line_feeds_as_spaces text)) (help_composed text)

escaped_joined : {X : Type 0} (between : List ℕ) (text : X → List ℕ) → IsEscaped between →
    ((x : X) → IsEscaped (text x)) → (begun : Bool) (xs : List X) →
    IsEscaped (joined_after between begun (map text xs))
escaped_joined between text h each begun [] = escaped_same [] tt
escaped_joined between text h each begun (x ∷ xs) =
    escaped_append (separator between begun ++ text x) (joined_after between true (map text xs))
    (escaped_append (separator between begun) (text x) (front begun) (each x))
    (escaped_joined between text h each true xs)
  where
    front : (begun : Bool) → IsEscaped (separator between begun)
    front true = h
    front false = escaped_same [] tt

escaped_item_help : (help : List ℕ) → IsEscaped (item_help help)
unfolding item_help
escaped_item_help help =
    escaped_append (codes "\\:\"" ++ zsh_escaped_help help) (codes "\"")
    (escaped_append (codes "\\:\"") (zsh_escaped_help help)
    (escaped_same (codes "\\:\"") (refl, (refl, (refl, tt)))) (escaped_help help))
    (escaped_same (codes "\"") (refl, tt))

escaped_item : (form : Form) (value : PossibleValue) → IsEscaped (item_text form value)
unfolding item_text
escaped_item Names value = escaped_value value.name
escaped_item Helps value =
    escaped_append (zsh_escaped_value value.name) (item_help (unwrap_or value.help []))
    (escaped_value value.name) (escaped_item_help (unwrap_or value.help []))

escaped_items : (form : Form) (values : List PossibleValue) → IsEscaped (items_text form values)
escaped_items form values =
    escaped_joined (item_separator form) (item_text form) (separator_escaped form)
    (escaped_item form) false (shown_values values)
  where
    separator_escaped : (form : Form) → IsEscaped (item_separator form)
    separator_escaped Names = escaped_same (codes " ") (refl, tt)
    separator_escaped Helps = escaped_same (codes "\n") (refl, tt)

escaped_list : (values : List PossibleValue) → IsEscaped (list_text values)
unfolding list_text
escaped_list values = by_test (list_any is_described values)
  where
    by_test : (b : Bool) → IsEscaped (cond b ((codes "((" ++ items_text Helps values) ++ codes "))")
        ((codes "(" ++ items_text Names values) ++ codes ")"))
    by_test true =
        escaped_append (codes "((" ++ items_text Helps values) (codes "))")
        (escaped_append (codes "((") (items_text Helps values)
        (escaped_same (codes "((") (refl, (refl, tt))) (escaped_items Helps values))
        (escaped_same (codes "))") (refl, (refl, tt)))
    by_test false =
        escaped_append (codes "(" ++ items_text Names values) (codes ")")
        (escaped_append (codes "(") (items_text Names values) (escaped_same (codes "(") (refl, tt))
        (escaped_items Names values))
        (escaped_same (codes ")") (refl, tt))

-- a text without a quote, according to the test
computed : (text : List ℕ) → HasNoQuote text → IsEscaped text
computed text h = escaped_same text (no_quote text h)

escaped_hint : (hint : ValueHint) → IsEscaped (hint_text hint)
unfolding hint_text
escaped_hint Unknown = computed (codes "_default") refl
escaped_hint Other = escaped_same [] tt
escaped_hint DirPath = computed (codes "_files -/") refl
escaped_hint ExecutablePath = computed (codes "_absolute_command_paths") refl
escaped_hint CommandName = computed (codes "_command_names -e") refl
escaped_hint CommandString = computed (codes "_cmdstring") refl
escaped_hint CommandWithArguments = computed (codes "_cmdambivalent") refl
escaped_hint Username = computed (codes "_users") refl
escaped_hint Hostname = computed (codes "_hosts") refl
escaped_hint Url = computed (codes "_urls") refl
escaped_hint EmailAddress = computed (codes "_email_addresses") refl
escaped_hint hint = computed (codes "_files") refl

escaped_listed : (values : Option (List PossibleValue)) (hint : ValueHint) →
    IsEscaped (listed_or_hint values hint)
escaped_listed (Some values) hint = escaped_list values
escaped_listed None hint = escaped_hint hint

pub escaped_value_text : (argument : Arg) → IsEscaped (value_text argument)
unfolding value_text
escaped_value_text argument = escaped_listed (possible_values argument) argument.value_hint

escaped_first : (names : List (List ℕ)) → AllByRecursion HasNoQuote names → IsEscaped (first_name names)
escaped_first [] h = escaped_same (codes " ") (refl, tt)
escaped_first (name ∷ names) (h, hs) = computed name h

escaped_times : (count : ℕ) (text : List ℕ) → IsEscaped text → IsEscaped (times count text)
escaped_times zero text h = escaped_same [] tt
escaped_times (suc count) text h =
    escaped_append text (times count text) h (escaped_times count text h)

colon : IsEscaped (codes ":")
colon = escaped_same (codes ":") (refl, tt)

pub escaped_values : (argument : Arg) → AllByRecursion HasNoQuote argument.value_names →
    IsEscaped (values_text argument)
unfolding values_text one_value
escaped_values argument h = by_test (takes_values argument) (by_least (range argument).least)
  where
    first : List ℕ
    first = first_name argument.value_names

    one : IsEscaped (one_value argument)
    one = escaped_append ((codes ":" ++ first) ++ codes ":") (value_text argument)
        (escaped_append (codes ":" ++ first) (codes ":")
        (escaped_append (codes ":") first colon (escaped_first argument.value_names h)) colon)
        (escaped_value_text argument)

    by_least : (least : ℕ) → IsEscaped (least_values least (one_value argument))
    by_least zero = escaped_append (codes ":") (one_value argument) colon one
    by_least (suc count) = escaped_times (suc count) (one_value argument) one

    by_test : (b : Bool) → IsEscaped (least_values (range argument).least (one_value argument)) →
        IsEscaped (cond b (least_values (range argument).least (one_value argument)) [])
    by_test true least = least
    by_test false least = escaped_same [] tt
