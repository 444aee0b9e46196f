-- The records of a fish script, and the conditions under which they hold.
use Rattle.std.specs.Prelude.{ℕ, List, [], Bool, Option, Some, None}

-- what a record requires: the beginning of the name of the function that is called, the names of a
-- path, which must have been seen, and the excluded names, which must not have been seen
pub record Condition : Type 0 where
  pub function : List ℕ
  pub path : List (List ℕ)
  pub excluded : List (List ℕ)

-- the marks of a record: `-r`, a value follows; `-f`, no files are offered; `-F`, files are offered
pub record Marks : Type 0 where
  pub required : Bool
  pub no_files : Bool
  pub files : Bool

-- the contents of a record: the program, the condition if there is one, the shorts and longs, the
-- description, the marks, and the words that are offered
pub record Record : Type 0 where
  pub command : Option (List ℕ)
  pub when : Option Condition
  pub shorts : List (List ℕ)
  pub longs : List (List ℕ)
  pub description : Option (List ℕ)
  pub marks : Marks
  pub offered : Option (List (List ℕ))

-- the path of a condition; without a condition, the path of the root
abbrev pub condition_path : Option Condition → List (List ℕ)
condition_path None = []
condition_path (Some condition) = condition.path

-- the path at which a record holds
abbrev pub record_path : Record → List (List ℕ)
record_path read = condition_path read.when
