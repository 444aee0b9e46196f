-- The names of the programs that have tree files in some directories.
use Rattle.std.specs.Prelude.{◌≡◌, ℕ, Bool, not, List, [], ◌∷◌, ◌++◌, length, filter, Option, codes}
use Rattle.std.specs.Cmp.Lexicographic.{slice_cmp}
use Rattle.std.specs.List.{dedup}
use Rattle.std.specs.Ordering.{is_lt, nat_cmp}
use Rattle.std.specs.Str.{bytes_eq}
use Rattle.cc_base.specs.Sorting.{in_order}
use Rattle.cc_candidates.specs.PathCandidates.{MayList}
use Rattle.cc_base.specs.PlainName.{is_plain_name}
use Rattle.complgen_live.specs.TreeFiles.{stems}

-- one text sorts before another, by their bytes
abbrev pub comes_before : List ℕ → List ℕ → Bool
comes_before one other = is_lt (slice_cmp nat_cmp one other)

-- the names, sorted and without duplicates
abbrev pub each_once : List (List ℕ) → List (List ℕ)
each_once names = dedup bytes_eq (in_order comes_before names)

-- the name of this program
abbrev pub own_name : List ℕ
own_name = codes "complgen"

-- the name is that of another program
abbrev pub is_other_name : List ℕ → Bool
is_other_name name = not (bytes_eq name own_name)

-- the name is not plain
abbrev pub is_odd_name : List ℕ → Bool
is_odd_name name = not (is_plain_name name)

-- these names may be listed in the directories: first the names in the first directory, and then
-- the names in the others
abbrev pub AreListed : (List ℕ → Option (List (List ℕ)) → Type 0) → List (List ℕ)
    → List (List ℕ) → Type 0
AreListed lists [] names = names ≡ []
AreListed lists (folder ∷ folders) names = (first : List (List ℕ)) × (others : List (List ℕ))
    × MayList (lists folder) first × AreListed lists folders others × (names ≡ first ++ others)

-- Two results for names that may be listed in the directories: the plain names of other programs
-- with tree files, sorted and without duplicates; and the number of tree files of programs whose
-- name is not plain.
pub record AreKnown (lists : List ℕ → Option (List (List ℕ)) → Type 0)
    (folders known : List (List ℕ)) (passed_over : ℕ) : Type 0 where
  pub listed : List (List ℕ)
  pub are_listed : AreListed lists folders listed
  pub known_are : known
      ≡ each_once (filter is_other_name (filter is_plain_name (stems listed)))
  pub passed_over_is : passed_over ≡ length (filter is_odd_name (stems listed))
