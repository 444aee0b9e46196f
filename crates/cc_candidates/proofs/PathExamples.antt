-- Examples of the candidates in a file system that functions describe.
use Rattle.std.proofs.Common.{◌≡◌, ◌++◌, ℕ, List, [], ◌∷◌, Bool, true, Option, Some, None, codes, refl, ◌==◌, suc, length, false, ne_eqb, ◌∙◌, ap, ap₂, map, filter, MatchOption}
use Rattle.std.specs.Prelude.{◌||◌, if◌then◌else◌, unwrap_or, ⊤}
use Rattle.std.specs.List.{list_any, AllByRecursion}
use Rattle.std.specs.Path.{path_file_name, path_join, path_parent, rsplit_once, split_last_component, trim_trailing}
use Rattle.std.specs.Str.{bytes_eq}
use Rattle.std.specs.Option.{option_map_or}
use Rattle.cc_base.specs.Sorting.{in_order, insert}
use Rattle.cc_candidates.specs.Candidate.{new_candidate}
use Rattle.cc_candidates.specs.declared.candidate.CompletionCandidate.{CompletionCandidate}
use Rattle.cc_candidates.specs.PathCandidates.{groups, stdio_candidate, ArePathCandidates, AreCandidatesAt, IsEntry, grouped_candidates, begins, entry_name}
use Rattle.cc_candidates.specs.PathTexts.{search_root, word_name, word_prefix}
use Rattle.cc_candidates.specs.Folders.{FolderFacts}
use Rattle.cc_candidates.specs.declared.paths.entry.Entry.{Entry}

-- the entries of these names, by functions of their paths
abbrev pub entries_by : (List ℕ → Bool) → (List ℕ → Bool) → List ℕ → List (List ℕ) → List Entry
entries_by is_dir passes root names =
    map (λ name. record {
      name = name;
      is_folder = is_dir (path_join root name);
      passes = passes (path_join root name);
    }) names

-- The candidates, given functions for the names in a directory, for which paths lead to
-- directories, and for which paths pass.
abbrev pub candidates_by : (List ℕ → List (List ℕ)) → (List ℕ → Bool) → (List ℕ → Bool)
    → Option (List ℕ) → Option (List ℕ) → List ℕ → List CompletionCandidate
candidates_by names is_dir passes home current word =
    option_map_or
    (λ root. grouped_candidates word (passes root)
    (entries_by is_dir passes root (filter (begins (word_name word)) (names root))))
    (search_root home current (word_prefix word)) []

module _ (names : List ℕ → List (List ℕ)) (is_dir passes : List ℕ → Bool) where
  -- a path has the result that the function returns
  abbrev Returns : (List ℕ → Bool) → List ℕ → Bool → Type 0
  Returns f path is = is ≡ f path

  entry_is : (root : List ℕ) (entry : Entry) → IsEntry (Returns is_dir) (Returns passes) root entry
      → entry ≡ record {
        name = entry.name;
        is_folder = is_dir (path_join root entry.name);
        passes = passes (path_join root entry.name);
      }
  entry_is root entry is =
      ap₂ (λ a b. record { name = entry.name; is_folder = a; passes = b }) is.folder is.test

  entries_are : (root : List ℕ) (entries : List Entry)
      → AllByRecursion (IsEntry (Returns is_dir) (Returns passes) root) entries
      → entries ≡ entries_by is_dir passes root (map entry_name entries)
  entries_are root [] is = refl
  entries_are root (entry ∷ entries) is =
      ap₂ (λ e es. e ∷ es) (entry_is root entry is.0) (entries_are root entries is.1)

  -- whether the root passes matters only for the empty word
  root_counts : (word root : List ℕ) (is : Bool) (entries : List Entry)
      → (word ≡ [] → is ≡ passes root)
      → grouped_candidates word is entries ≡ grouped_candidates word (passes root) entries
  root_counts [] root is entries h = ap (λ b. grouped_candidates [] b entries) (h refl)
  root_counts (byte ∷ word) root is entries h =
      let some : (length (byte ∷ word) == 0) ≡ false =
      ne_eqb (length (byte ∷ word)) 0 (λ (e : suc (length word) ≡ 0). cc) in
      rw some

  -- the file system that these functions describe
  abbrev Facts : Option (List ℕ) → FolderFacts
  Facts home = record {
    names = λ path listing. unwrap_or listing [] ≡ names path;
    is_dir = Returns is_dir;
    is_file = λ path is. ⊤;
    is_executable = λ path is. ⊤;
    home = home;
  }

  candidates_at : (home : Option (List ℕ)) (word root : List ℕ)
      (candidates : List CompletionCandidate)
      → AreCandidatesAt (Facts home) (Returns passes) word root candidates
      → candidates ≡ grouped_candidates word (passes root)
      (entries_by is_dir passes root (filter (begins (word_name word)) (names root)))
  candidates_at home word root candidates h =
      h.is ∙ root_counts word root h.root_passes h.entries h.root_test
      ∙ ap (grouped_candidates word (passes root)) (entries_are root h.entries h.are_entries
      ∙ ap (entries_by is_dir passes root) (h.named
      ∙ ap (filter (begins (word_name word))) (h.listed.2 ∙ h.listed.1)))

  by_root : (home : Option (List ℕ)) (word : List ℕ) (candidates : List CompletionCandidate) (found : Option (List ℕ))
      → MatchOption found (candidates ≡ [])
      (λ root. AreCandidatesAt (Facts home) (Returns passes) word root candidates)
      → candidates ≡ option_map_or
      (λ root. grouped_candidates word (passes root)
      (entries_by is_dir passes root (filter (begins (word_name word)) (names root)))) found []
  by_root home word candidates None h = h
  by_root home word candidates (Some root) h = candidates_at home word root candidates h

  pub candidates_are : (home current : Option (List ℕ)) (word : List ℕ)
      (candidates : List CompletionCandidate)
      → ArePathCandidates (Facts home) (Returns passes) current word candidates
      → candidates ≡ candidates_by names is_dir passes home current word
  candidates_are home current word candidates h =
      by_root home word candidates (search_root home current (word_prefix word)) h

-- the path is this one, with or without a slash at its end
abbrev is_at : List ℕ → List ℕ → Bool
is_at known path = bytes_eq path known || bytes_eq path (path_join known [])

-- `/w` contains the file `a.txt` and the directories `.git` and `src`; `/home/u` contains the
-- directory `src`
abbrev names : List ℕ → List (List ℕ)
names path = if is_at (codes "/w") path
    then codes "src" ∷ codes ".git" ∷ codes "a.txt" ∷ []
    else (if is_at (codes "/home/u") path then codes "src" ∷ [] else [])

abbrev is_dir : List ℕ → Bool
is_dir path = list_any (λ known. is_at known path)
    (codes "/w" ∷ codes "/w/.git" ∷ codes "/w/src" ∷ codes "/home/u" ∷ codes "/home/u/src" ∷ [])

abbrev is_file : List ℕ → Bool
is_file path = bytes_eq path (codes "/w/a.txt")

abbrev home : Option (List ℕ)
home = Some (codes "/home/u")

abbrev current : Option (List ℕ)
current = Some (codes "/w")

abbrev shown : List ℕ → CompletionCandidate
shown value = new_candidate value

abbrev hidden : List ℕ → CompletionCandidate
hidden value = record (new_candidate value) { hidden = true }

abbrev stdio : CompletionCandidate
stdio = record (new_candidate (codes "-")) { help = Some (codes "stdio") }

found :
    (candidates_by names is_dir is_file home current []
    ≡ shown (codes "a.txt") ∷ hidden (codes ".git/") ∷ shown (codes "src/") ∷ [])
    -- the same with `-`, which a completer with `stdio` offers last
    × (candidates_by names is_dir is_file home current [] ++ stdio_candidate [] true
    ≡ shown (codes "a.txt") ∷ hidden (codes ".git/") ∷ shown (codes "src/") ∷ stdio ∷ [])
    × (candidates_by names is_dir is_dir home current []
    ≡ shown (codes ".") ∷ hidden (codes ".git/") ∷ shown (codes "src/") ∷ [])
    × (candidates_by names is_dir (λ _. true) home current (codes "~/s")
    ≡ shown (codes "~/src/") ∷ [])
    × (candidates_by names is_dir (λ _. true) home None (codes "s") ≡ [])
unfolding groups in_order insert search_root word_name word_prefix path_file_name path_join path_parent rsplit_once split_last_component trim_trailing
found = (refl, refl, refl, refl, refl)

-- a directory that contains the directory `foo` and the files `foobar` and `bar`
abbrev other_names : List ℕ → List (List ℕ)
other_names path =
    if is_at (codes "/o") path then codes "foobar" ∷ codes "foo" ∷ codes "bar" ∷ [] else []

parts :
    (candidates_by other_names (bytes_eq (codes "/o/foo")) (λ _. true) home (Some (codes "/o")) (codes "foo/.")
    ≡ shown (codes "foo/") ∷ shown (codes "foobar") ∷ [])
    -- the parts of a word
    × (word_prefix (codes "a/b//c") ≡ codes "a/b")
    × (word_prefix (codes "/c") ≡ codes "/")
    × (word_prefix (codes "a/b/") ≡ codes "a/b/")
    × (word_name (codes "a/..") ≡ [])
    × (search_root home current (codes "~/././/a/") ≡ Some (codes "/home/u/a/"))
    × (search_root home current (codes "~a") ≡ Some (codes "/w/~a"))
unfolding groups in_order insert search_root word_name word_prefix path_file_name path_join path_parent rsplit_once split_last_component trim_trailing
parts = (refl, refl, refl, refl, refl, refl, refl)
