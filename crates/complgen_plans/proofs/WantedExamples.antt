-- What is written of a command, for some words.
use Rattle.std.proofs.Common.{◌≡◌, [], ◌∷◌, None, Some, codes, refl}
use Rattle.json.specs.Print.{escape_byte, print_from}
use Rattle.complgen_plans.specs.Wanted.{array_tokens, wanted_text}

none_row : wanted_text None ≡ []
none_row = refl

words_row : wanted_text (Some (codes "git" ∷ codes "branch" ∷ []))
    ≡ codes "[\"git\",\"branch\"]\n"
unfolding array_tokens escape_byte print_from lib.Utf8.encode
words_row = refl

-- a quote, a backslash, a line feed, and an empty word
escaped_row : wanted_text (Some (codes "a\"\\\n" ∷ [] ∷ []))
    ≡ codes "[\"a\\\"\\\\\\n\",\"\"]\n"
unfolding array_tokens escape_byte print_from lib.Utf8.encode
escaped_row = refl
