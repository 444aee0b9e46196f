-- Computed examples of the definitions.
use Rattle.std.specs.Prelude.{◌≡◌, ℕ, true, false, List, [], ◌∷◌, map, Some, ⊤, codes, refl}
use Rattle.std.specs.List.{list_all, list_any}
use Rattle.cc_arg.specs.declared.parts.ArgParts.{ArgParts as Arg}
use Rattle.cc_arg.specs.Arguments.{new_arg, exactly}
use Rattle.cc_candidates.specs.declared.candidate.CompletionCandidate.{CompletionCandidate}
use Rattle.cc_candidates.specs.Candidate.{new_candidate}
use Rattle.cc_base.specs.Sorting.{insert, in_order}
use Rattle.std.specs.Str.{chars}
use Rattle.cc_engine.specs.Finished.{finish, group, shown_or_all}
use Rattle.cc_engine.specs.Numbers.{is_number}
use Rattle.cc_engine.specs.OptionMatches.{match_of}
use Rattle.cc_engine.specs.declared.gathering.options.OptionMatch.{OptionMatch}
use Rattle.cc_engine.specs.declared.gathering.options.OptionMatch.TheVariants.{Listed, ValuesOf}
use Rattle.cc_engine.specs.Options.{longs, shorts}

abbrev candidate : List ℕ → List ℕ → List ℕ → ℕ → CompletionCandidate
candidate value id tag order = record (new_candidate value) { id = Some id; tag = Some tag; display_order = Some order }

abbrev auto : CompletionCandidate
auto = record (new_candidate (codes "auto")) { id = Some (codes "arg::col"); tag = Some (codes "Auto") }

abbrev col : CompletionCandidate
col = candidate (codes "--col") (codes "arg::col") (codes "Options") 0

abbrev port : CompletionCandidate
port = candidate (codes "--port") (codes "arg::port") (codes "Net") 1

abbrev help : CompletionCandidate
help = candidate (codes "--help") (codes "arg::help") (codes "Options") 999

finished :
    -- after an open option that shares an id with the options after it: made final twice, and once
    (map (λ c. c.value) (finish (auto ∷ finish (col ∷ port ∷ help ∷ []))) ≡ codes "auto" ∷ codes "--help" ∷ codes "--port" ∷ [])
    × (map (λ c. c.value) (finish (auto ∷ col ∷ port ∷ help ∷ [])) ≡ codes "auto" ∷ codes "--port" ∷ codes "--help" ∷ [])
unfolding finish group shown_or_all in_order insert
finished = (refl, refl)

abbrev color : Arg
color = record (new_arg (codes "color")) { short = Some 99; long = Some (codes "color"); num_args = Some (exactly 1) }

abbrev verbose : Arg
verbose = record (new_arg (codes "verbose")) {
  short = Some 118;
  long = Some (codes "verbose");
  visible_aliases = codes "loud" ∷ [];
  aliases = codes "noisy" ∷ [];
  num_args = Some (exactly 0);
}

abbrev arguments : List Arg
arguments = color ∷ verbose ∷ []

-- the values of the listed candidates, or the texts of the request
abbrev shape : OptionMatch → List (List ℕ)
shape (Listed candidates) = map (λ c. c.value) candidates
shape (ValuesOf wanted) = wanted.argument.id ∷ wanted.before ∷ wanted.text ∷ []

-- unfolds each definition
unfoldable definitions : ⊤
unfolding match_of longs shorts is_number chars lib.Utf8.encode
definitions = tt

matched :
    (shape (match_of arguments (codes "")) ≡
    codes "--color" ∷ codes "--verbose" ∷ codes "--loud" ∷ codes "--noisy" ∷ codes "-c" ∷ codes "-v" ∷ [])
    × (shape (match_of arguments (codes "-")) ≡
    codes "-c" ∷ codes "-v" ∷ codes "--color" ∷ codes "--verbose" ∷ codes "--loud" ∷ codes "--noisy" ∷ [])
    × (shape (match_of arguments (codes "--no")) ≡ codes "--noisy" ∷ [])
    × (shape (match_of arguments (codes "--color=n")) ≡ codes "color" ∷ codes "--color=" ∷ codes "n" ∷ [])
    × (shape (match_of arguments (codes "--loud=n")) ≡ [])
    × (shape (match_of arguments (codes "-5e3")) ≡ [])
    × (shape (match_of arguments (codes "run")) ≡ [])
    × (shape (match_of arguments (codes "-vc=a")) ≡ codes "color" ∷ codes "-vc=" ∷ codes "a" ∷ [])
unfolding definitions
matched = (refl, refl, refl, refl, refl, refl, refl, refl)

numbers :
    -- numbers
    (list_all is_number (codes "1" ∷ codes "1." ∷ codes "1.5" ∷ codes "1e5" ∷ codes "1.e5" ∷ codes "12.34e56" ∷ [])
    ≡ true)
    -- texts that are no numbers: an empty one; a point or an `e` first, an `e` last, a point after
    -- it, two of either, a sign
    × (list_any is_number ([] ∷ codes ".5" ∷ codes "e1" ∷ codes "1e" ∷ codes "1e5." ∷ codes "1e1e1" ∷ codes "1.2.3"
    ∷ codes "1e-5" ∷ []) ≡ false)
unfolding is_number
numbers = (refl, refl)
