-- The results that a file system may return.
use Rattle.std.specs.Prelude.{ℕ, Bool, List, Option}

-- For each call, the results that it may return for a path: the names in a directory, or none if it
-- is unreadable; whether the path leads to a directory, a file or an executable file. The home
-- directory of the user is always the same.
pub record FolderFacts : Type 1 where
  pub names : List ℕ → Option (List (List ℕ)) → Type 0
  pub is_dir : List ℕ → Bool → Type 0
  pub is_file : List ℕ → Bool → Type 0
  pub is_executable : List ℕ → Bool → Type 0
  pub home : Option (List ℕ)
