-- fish's escapes work byte by byte.
use Rattle.std.proofs.Common.{◌≡◌, ◌∙◌, ℕ, true, false, List, [], ◌∷◌, ◌++◌, refl, sym, ap, arith, codes}
use Rattle.std.proofs.lemmas.List.Folds.{flat_map-map}
use Rattle.std.proofs.lemmas.List.Concat.{flat_map-append}
use Rattle.std.proofs.lemmas.Bool.Decides.{nat_tests}
use Rattle.memchr.specs.Find.{is_byte3}
use Rattle.cc_quote.specs.QuotedWord.{space_for_line_feed, line_feeds_as_spaces}
use Rattle.cc_quote.specs.Escapes.{escaped_byte, escaped_by, marked_byte}
use Rattle.cc_quote.specs.FishQuote.{description_replacement, is_single_marked, single_escaped, is_double_marked, double_escaped, single_quoted, fish_escaped, is_fish_safe, is_fish_safe_word, fish_quoted, fish_quoted_for_eval, fish_help_for_eval_of}
use Rattle.cc_quote.proofs.FishWords.{IsSafe, safe_is_not, safe_bytes, safe_double_escaped}
use Rattle.cc_quote.specs.FishEscapes.{eval_byte, help_byte, is_eval_byte, is_help_byte}
use Rattle.cc_quote.proofs.ByteEscapes.{composed, same_bytes}

description_byte : (byte : ℕ) → escaped_byte (is_byte3 92 39 10) description_replacement byte ≡ marked_byte is_single_marked (space_for_line_feed byte)
description_byte byte = grind (arith, nat_tests)

pub fish_escaped_composed : (text : List ℕ) → fish_escaped text ≡ single_escaped (line_feeds_as_spaces text)
unfolding fish_escaped
fish_escaped_composed text =
    same_bytes (escaped_byte (is_byte3 92 39 10) description_replacement) (λ byte. marked_byte is_single_marked (space_for_line_feed byte)) description_byte text
    ∙ sym (flat_map-map (marked_byte is_single_marked) space_for_line_feed text)

-- a description keeps each byte that needs no quotes
safe_description : (byte : ℕ) → is_fish_safe byte ≡ true → escaped_byte (is_byte3 92 39 10) description_replacement byte ≡ byte ∷ []
unfolding is_fish_safe
safe_description byte h = rw (safe_is_not byte 92 h refl, safe_is_not byte 39 h refl, safe_is_not byte 10 h refl)

-- so a text of such bytes is its own escape
pub safe_escaped : (text : List ℕ) → IsSafe text → fish_escaped text ≡ text
unfolding fish_escaped
safe_escaped [] h = refl
safe_escaped (byte ∷ text) (h, hs) = ap (λ bytes. bytes ++ fish_escaped text) (safe_description byte h) ∙ ap (λ bytes. byte ∷ bytes) (safe_escaped text hs)

-- a text within both kinds of quotes
abbrev eval_escaped : List ℕ → List ℕ
eval_escaped text = escaped_by is_eval_byte eval_byte text

eval_same : (byte : ℕ) → escaped_byte is_eval_byte eval_byte byte ≡ eval_byte byte
eval_same byte = grind (arith, nat_tests)

eval_composed : (text : List ℕ) → eval_escaped text ≡ double_escaped (single_escaped text)
eval_composed text =
    same_bytes (escaped_byte is_eval_byte eval_byte) eval_byte eval_same text ∙ composed (marked_byte is_single_marked) (marked_byte is_double_marked) text

-- a help text within both kinds of quotes
abbrev help_escaped : List ℕ → List ℕ
help_escaped help = escaped_by is_help_byte help_byte help

help_same : (byte : ℕ) → escaped_byte is_help_byte help_byte byte ≡ help_byte byte
help_same byte = grind (arith, nat_tests)

help_composed : (help : List ℕ) → help_escaped help ≡ double_escaped (single_escaped (line_feeds_as_spaces help))
help_composed help =
    same_bytes (escaped_byte is_help_byte help_byte) help_byte help_same help
    ∙ composed (λ byte. marked_byte is_single_marked (space_for_line_feed byte)) (marked_byte is_double_marked) help
    ∙ ap double_escaped (sym (flat_map-map (marked_byte is_single_marked) space_for_line_feed help))

-- a text in `'` that stands between two `"`
pub double_escaped-single_quoted : (text : List ℕ) → double_escaped (single_quoted text) ≡ codes "'" ++ double_escaped (single_escaped text) ++ codes "'"
double_escaped-single_quoted text = ap (λ bytes. codes "'" ++ bytes) (flat_map-append (marked_byte is_double_marked) (single_escaped text) (codes "'"))

-- a text that needs no quotes, as one word
pub quoted_safe : (text : List ℕ) → is_fish_safe_word text ≡ true → text ≡ fish_quoted text
unfolding fish_quoted
quoted_safe text h = rw h

-- any other text, as one word
pub quoted_unsafe : (text : List ℕ) → is_fish_safe_word text ≡ false → (codes "'" ++ single_escaped text) ++ codes "'" ≡ fish_quoted text
unfolding fish_quoted
quoted_unsafe text h = rw h

safe_word_bytes : (text : List ℕ) → is_fish_safe_word text ≡ true → IsSafe text
safe_word_bytes [] h = cc
safe_word_bytes (byte ∷ text) h = safe_bytes (byte ∷ text) h

-- a text that needs no quotes, to be read twice
pub eval_safe : (text : List ℕ) → is_fish_safe_word text ≡ true → text ≡ fish_quoted_for_eval text
unfolding fish_quoted_for_eval
eval_safe text h = sym (safe_double_escaped text (safe_word_bytes text h)) ∙ ap double_escaped (quoted_safe text h)

-- any other text, to be read twice
pub eval_unsafe : (text : List ℕ) → is_fish_safe_word text ≡ false → (codes "'" ++ eval_escaped text) ++ codes "'" ≡ fish_quoted_for_eval text
unfolding fish_quoted_for_eval
eval_unsafe text h =
    ap (λ bytes. (codes "'" ++ bytes) ++ codes "'") (eval_composed text) ∙ sym (double_escaped-single_quoted text) ∙ ap double_escaped (quoted_unsafe text h)

-- a help text, to be read twice
pub help_quoted : (help : List ℕ) → (codes "'" ++ help_escaped help) ++ codes "'" ≡ fish_help_for_eval_of help
unfolding fish_help_for_eval_of
help_quoted help = ap (λ bytes. (codes "'" ++ bytes) ++ codes "'") (help_composed help) ∙ sym (double_escaped-single_quoted (line_feeds_as_spaces help))
