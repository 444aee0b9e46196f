-- The candidates for the names in a directory.
use Rattle.std.specs.Prelude.{◌≡◌, ℕ, List, [], ◌∷◌, ◌++◌, map, filter, length, slice_index, Bool, not, ◌&&◌, ◌==◌, if◌then◌else◌, Option, Some, unwrap_or, MatchOption, codes, nat_eq}
use Rattle.std.specs.List.{AllByRecursion, starts_with}
use Rattle.std.specs.Path.{cur_dir, dot, path_join, slash}
use Rattle.cc_base.specs.Sorting.{in_order}
use Rattle.cc_candidates.specs.Candidate.{comes_before, new_candidate}
use Rattle.cc_candidates.specs.declared.candidate.CompletionCandidate.{CompletionCandidate}
use Rattle.cc_candidates.specs.Folders.{FolderFacts}
use Rattle.cc_candidates.specs.PathTexts.{search_root, word_name, word_prefix}
use Rattle.cc_candidates.specs.declared.paths.entry.Entry.{Entry}

-- the slash at the end of a directory's path
abbrev pub folder_mark : Bool → List ℕ
folder_mark is_folder = if is_folder then slash ∷ [] else []

-- The candidate for a listed name: the prefix as the user typed it, the name, and a slash for a
-- directory. It is hidden if the name begins with a dot.
abbrev pub path_candidate : List ℕ → Entry → CompletionCandidate
path_candidate prefix entry =
    record (new_candidate (path_join prefix entry.name ++ folder_mark entry.is_folder)) {
      hidden = slice_index entry.name 0 == dot;
    }

-- the candidate `.` for an empty word, if the directory itself passes the test
abbrev pub dot_candidate : List ℕ → Bool → List CompletionCandidate
dot_candidate word root_passes =
    if (length word == 0) && root_passes then new_candidate cur_dir ∷ [] else []

-- the entry passes the test
abbrev pub is_wanted : Entry → Bool
is_wanted entry = entry.passes

-- a directory that does not pass the test
abbrev pub is_unwanted_folder : Entry → Bool
is_unwanted_folder entry = not entry.passes && entry.is_folder

-- the given candidates and those of the entries that match, in order, then the other directories
-- in order
unfoldable pub groups : List CompletionCandidate → List ℕ → List Entry → List CompletionCandidate
groups wanted prefix entries =
    in_order comes_before (wanted ++ map (path_candidate prefix) (filter is_wanted entries))
    ++ in_order comes_before (map (path_candidate prefix) (filter is_unwanted_folder entries))

-- the candidates for a word, from these entries
abbrev pub grouped_candidates : List ℕ → Bool → List Entry → List CompletionCandidate
grouped_candidates word root_passes entries =
    groups (dot_candidate word root_passes) (word_prefix word) entries

-- the name begins with this text
abbrev pub begins : List ℕ → List ℕ → Bool
begins start name = starts_with nat_eq name start

-- the name of an entry
abbrev pub entry_name : Entry → List ℕ
entry_name entry = entry.name

-- the entry holds results that the directory and the test may return for the path of its name
pub record IsEntry (tells_dir passes : List ℕ → Bool → Type 0) (root : List ℕ)
    (entry : Entry) : Type 0 where
  pub folder : tells_dir (path_join root entry.name) entry.is_folder
  pub test : passes (path_join root entry.name) entry.passes

-- these names may be listed; an unreadable directory has none
abbrev pub MayList : (Option (List (List ℕ)) → Type 0) → List (List ℕ) → Type 0
MayList lists names =
    (listing : Option (List (List ℕ))) × lists listing × (names ≡ unwrap_or listing [])

-- The candidates for a word from the names that may be listed at the root. Only the names that
-- begin like the word are looked at.
pub record AreCandidatesAt (facts : FolderFacts) (passes : List ℕ → Bool → Type 0)
    (word root : List ℕ) (candidates : List CompletionCandidate) : Type 0 where
  pub names : List (List ℕ)
  pub listed : MayList (facts.names root) names
  pub entries : List Entry
  pub named : map entry_name entries ≡ filter (begins (word_name word)) names
  pub are_entries : AllByRecursion (IsEntry facts.is_dir passes root) entries
  pub root_passes : Bool
  pub root_test : word ≡ [] → passes root root_passes
  pub is : candidates ≡ grouped_candidates word root_passes entries

-- the candidates for a word; none if it needs a home directory or a current directory that is
-- missing
abbrev pub ArePathCandidates : FolderFacts → (List ℕ → Bool → Type 0) → Option (List ℕ) → List ℕ
    → List CompletionCandidate → Type 0
ArePathCandidates facts passes current word candidates =
    MatchOption (search_root facts.home current (word_prefix word)) (candidates ≡ [])
    (λ root. AreCandidatesAt facts passes word root candidates)

-- the candidate `-`, for standard input or output, for an empty word
abbrev pub stdio_candidate : List ℕ → Bool → List CompletionCandidate
stdio_candidate word stdio =
    if stdio && (length word == 0)
    then record (new_candidate (codes "-")) { help = Some (codes "stdio") } ∷ [] else []

-- the candidates for paths, then the candidate `-` if it is offered
abbrev pub WithStdio : (List CompletionCandidate → Type 0) → Bool → List ℕ
    → List CompletionCandidate → Type 0
WithStdio ArePaths stdio word candidates = (paths : List CompletionCandidate)
    × ArePaths paths × (candidates ≡ paths ++ stdio_candidate word stdio)
