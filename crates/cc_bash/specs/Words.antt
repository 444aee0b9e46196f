-- Words that are written one after another, with a space before each but the first.
use Rattle.std.specs.Prelude.{ℕ, List, Bool, codes}
use Rattle.cc_base.specs.Joined.{joined, joined_after}

-- words with spaces; the flag says whether a word comes before them
abbrev pub words_after : Bool → List (List ℕ) → List ℕ
words_after = joined_after (codes " ")

-- words with a space before each but the first
abbrev pub words_text : List (List ℕ) → List ℕ
words_text = joined (codes " ")
