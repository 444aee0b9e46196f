-- The parts of a directory that the caller passes, and the facts about paths that follow.
use Rattle.std.specs.Prelude.{◌≡◌, ℕ, Bool, List, Option, Some, map, string_bytes}
use Rattle.std.specs.Borrow.{Bor}
use Rattle.std.specs.BTreeSet.{keys}
use Rattle.std.specs.List.{list_any}
use Rattle.std.specs.Option.{option_copied}
use Rattle.std.specs.Str.{bytes_eq}
use Rattle.cc_candidates.specs.Folders.{FolderFacts}
use Rattle.complgen_c.specs.declared.listed.Listed.{Listed}

-- the path of a directory, the names in it, and the paths of directories and of files
pub record Listing : Type 0 where
  pub path : List ℕ
  pub names : List (List ℕ)
  pub folders : List (List ℕ)
  pub files : List (List ℕ)

-- the contents of slices of bytes
abbrev pub handed : List (Bor (List ℕ)) → List (List ℕ)
handed slices = map (λ slice. slice.now) slices

-- a path is one of these
abbrev pub is_among : List (List ℕ) → List ℕ → Bool
is_among paths path = list_any (bytes_eq path) paths

-- The facts about paths. Only the directory at the listing's path has names, and these are the
-- listing's. A path leads to a directory if it is among the folders. It leads to a file, which is
-- executable, if it is among the files.
abbrev pub facts_of : Listing → Option (List ℕ) → FolderFacts
facts_of listing home = record {
  names = λ path names. (path ≡ listing.path) × (names ≡ Some listing.names);
  is_dir = λ path is. is ≡ is_among listing.folders path;
  is_file = λ path is. is ≡ is_among listing.files path;
  is_executable = λ path is. is ≡ is_among listing.files path;
  home = home;
}

-- the listing that a folder holds
abbrev pub listing_of : Listed → Listing
listing_of listed = record {
  path = listed.path.now;
  names = map string_bytes listed.names.items;
  folders = handed (keys listed.folders);
  files = handed (keys listed.files);
}

-- a folder holds a listing and a home directory
pub record HoldsListing (listing : Listing) (home : Option (List ℕ)) (listed : Listed)
    : Type 0 where
  pub path_same : listed.path.now ≡ listing.path
  pub names_same : map string_bytes listed.names.items ≡ listing.names
  pub folders_same : (path : List ℕ)
      → is_among (handed (keys listed.folders)) path ≡ is_among listing.folders path
  pub files_same : (path : List ℕ)
      → is_among (handed (keys listed.files)) path ≡ is_among listing.files path
  pub home_same : option_copied listed.home ≡ home
