-- The match of a word with the options.
use Rattle.std.specs.Prelude.{ℕ, List, [], ◌∷◌, ◌++◌, ◌-◌, ◌==◌, filter, find, length, take, Option, Some, None, codes, chars, if◌then◌else◌}
use Rattle.cc_base.specs.Bytes.{dash, equals}
use Rattle.cc_arg.specs.declared.parts.ArgParts.{ArgParts as Arg}
use Rattle.cc_candidates.specs.declared.candidate.CompletionCandidate.{CompletionCandidate}
use Rattle.cc_candidates.specs.Beginning.{begins}
use Rattle.cc_engine.specs.Numbers.{is_number}
use Rattle.cc_engine.specs.OwnLongs.{has_own_long}
use Rattle.cc_engine.specs.Options.{longs, shorts}
use Rattle.cc_engine.specs.declared.gathering.options.OptionMatch.{OptionMatch}
use Rattle.cc_engine.specs.declared.gathering.options.OptionMatch.TheVariants.{Listed, ValuesOf}
use Rattle.cc_engine.specs.declared.gathering.options.ValueQuery.{ValueQuery}
use Rattle.cc_engine.specs.WordClasses.{value_character}
use Rattle.cc_engine.specs.Words.{before_equals}
use Rattle.cc_engine.specs.declared.walking.word_class.ValueCharacter.{ValueCharacter}

-- ---- the long of a word

-- the text after the first `=`, if there is one
abbrev pub after_equals : List ℕ → Option (List ℕ)
after_equals [] = None
after_equals (c ∷ s) = if c == equals then Some s else after_equals s

-- the values of the argument that the flag names
abbrev pub flag_match : Option Arg → List ℕ → List ℕ → OptionMatch
flag_match None flag text = Listed []
flag_match (Some argument) flag text =
    ValuesOf (record { argument = argument; before = codes "--" ++ flag ++ codes "="; text = text })

-- After `--`: the longs that begin with the rest of the word. After a `=`: the values of the first
-- argument with that long.
abbrev pub long_match : List Arg → List ℕ → Option (List ℕ) → OptionMatch
long_match arguments long None = Listed (filter (begins (codes "--" ++ long)) (longs arguments))
long_match arguments long (Some text) =
    flag_match (find (has_own_long (before_equals long)) arguments) (before_equals long) text

-- ---- the shorts of a word

-- a `=` in front of a value belongs to the text before it
abbrev pub value_query_after : Arg → List ℕ → List ℕ → ValueQuery
value_query_after argument before [] = record { argument = argument; before = before; text = [] }
value_query_after argument before (c ∷ s) =
    if c == equals then record { argument = argument; before = before ++ codes "="; text = s }
    else record { argument = argument; before = before; text = c ∷ s }

-- the text without its ending `end`
abbrev pub without_end : List ℕ → List ℕ → List ℕ
without_end text end = take (length text - length end) text

-- The values of the first character whose argument takes values, for the text after it in the word.
-- If there is no such character, the shorts after the word.
abbrev pub cluster_match : List Arg → List ℕ → Option ValueCharacter → OptionMatch
cluster_match arguments word None = Listed (shorts word arguments)
cluster_match arguments word (Some found) =
    ValuesOf (value_query_after found.argument (without_end word found.after) found.after)

-- after `-`; nothing for a negative number
abbrev pub short_match : List Arg → List ℕ → OptionMatch
short_match arguments after =
    if is_number after then Listed []
    else cluster_match arguments (codes "-" ++ after) (value_character arguments (chars after))

-- ---- the word

abbrev pub after_two_dashes : List Arg → List ℕ → OptionMatch
after_two_dashes arguments [] = Listed (longs arguments)
after_two_dashes arguments (c ∷ s) = long_match arguments (c ∷ s) (after_equals (c ∷ s))

abbrev pub after_one_dash : List Arg → List ℕ → OptionMatch
after_one_dash arguments [] = Listed (shorts (codes "-") arguments ++ longs arguments)
after_one_dash arguments (c ∷ s) =
    if c == dash then after_two_dashes arguments s else short_match arguments (c ∷ s)

unfoldable pub match_of : List Arg → List ℕ → OptionMatch
match_of arguments [] = Listed (longs arguments ++ shorts (codes "-") arguments)
match_of arguments (c ∷ s) = if c == dash then after_one_dash arguments s else Listed []

-- the candidate with a text in front of its value
abbrev pub with_prefix : List ℕ → CompletionCandidate → CompletionCandidate
with_prefix before c = record c { value = before ++ c.value }
