-- The words that ask for a plan.
use Rattle.std.specs.Prelude.{◌≡◌, ◌<◌, ◌^◌, ◌⊎◌, ℕ, Bool, false, List, [], IsSome, None, Option, Some}
use Rattle.std.specs.Prelude.{codes, map, option_map, string_bytes, unwrap_or}
use Rattle.std.specs.Str.{bytes_eq}
use Rattle.std.specs.Str.Parse.{IsNumeral, digits_value, without_leading_plus}
use Rattle.clap.specs.Words.{Row, Text, all_of, first_of}
use Rattle.complgen_scripts.specs.declared.plans.Plan.{Plan}
use Rattle.complgen_scripts.specs.declared.plans.Plan.TheVariants.{Candidates, CandidatesWith}
use Rattle.complgen_scripts.specs.declared.plans.Plan.TheVariants.{Check, Man, Register, Script}
use Rattle.complgen_scripts.specs.declared.plans.Plan.TheVariants.{Scripts, Wanted}

-- the subcommand with this name was entered, and its rows have this property
pub record Enters (name : Text) (Has : List Row → Type 0) (entered : Option (Text × List Row))
    : Type 0 where
  pub rows : List Row
  pub is_entered : entered ≡ Some (name, rows)
  pub has : Has rows

-- ---- the values of the arguments

-- of `--shell`, `--bin` and `TREE`
pub record HasNames (shell bin tree : Text) (rows : List Row) : Type 0 where
  pub has_shell : first_of (codes "shell") rows ≡ Some shell
  pub has_bin : first_of (codes "bin") rows ≡ Some bin
  pub has_tree : first_of (codes "tree") rows ≡ Some tree

-- of `--bin`, `--out-dir` and `TREE`
pub record HasDirectory (bin directory tree : Text) (rows : List Row) : Type 0 where
  pub has_bin : first_of (codes "bin") rows ≡ Some bin
  pub has_directory : first_of (codes "out-dir") rows ≡ Some directory
  pub has_tree : first_of (codes "tree") rows ≡ Some tree

-- the value of a flag that is set
abbrev pub is_true : Option Text → Bool
is_true None = false
is_true (Some value) = bytes_eq value (codes "true")

-- the flag of this name is set
abbrev pub is_set : Text → List Row → Bool
is_set name rows = is_true (first_of name rows)

-- of `--bin`, which may be left out, `--json` and `TREE`
pub record HasReport (bin : Option Text) (json : Bool) (tree : Text) (rows : List Row) : Type 0 where
  pub has_bin : first_of (codes "bin") rows ≡ bin
  pub has_json : json ≡ is_set (codes "json") rows
  pub has_tree : first_of (codes "tree") rows ≡ Some tree

-- of `--bin` and `TREE`
pub record HasPage (bin tree : Text) (rows : List Row) : Type 0 where
  pub has_bin : first_of (codes "bin") rows ≡ Some bin
  pub has_tree : first_of (codes "tree") rows ≡ Some tree

-- the text consists of digits after at most one `+`, and is this `usize`
pub record Writes (text : Text) (number : ℕ) : Type 0 where
  pub is_numeral : IsNumeral 10 (without_leading_plus text)
  pub fits : digits_value 10 (without_leading_plus text) < 2 ^ 64
  pub has_value : number ≡ digits_value 10 (without_leading_plus text)

-- of `--index`
pub record HasIndex (index : ℕ) (rows : List Row) : Type 0 where
  pub text : Text
  pub has_text : first_of (codes "index") rows ≡ Some text
  pub writes : Writes text index

-- a text of `--index` that is not a `usize`
pub record HasBadIndex (rows : List Row) : Type 0 where
  pub text : Text
  pub has_text : first_of (codes "index") rows ≡ Some text
  pub writes_none : (index : ℕ) → Writes text index → ⊥

-- of `WORDS`; there may be none
abbrev pub words_of : List Row → List Text
words_of rows = unwrap_or (all_of (codes "words") rows) []

-- of `--index`, `TREE` and `WORDS`
pub record HasWords (index : ℕ) (tree : Text) (words : List Text) (rows : List Row) : Type 0 where
  pub has_index : HasIndex index rows
  pub has_tree : first_of (codes "tree") rows ≡ Some tree
  pub has_words : words_of rows ≡ words

-- the same, and of `--values`, which may be left out
pub record HasValues (values : Option Text) (index : ℕ) (tree : Text) (words : List Text)
    (rows : List Row) : Type 0 where
  pub has_values : first_of (codes "values") rows ≡ values
  pub has_line : HasWords index tree words rows

-- ---- what words ask for

-- the subcommand that was entered asks for this plan
abbrev pub AsksFor : Option (Text × List Row) → Plan → Type 0
AsksFor entered (Script shell bin tree) = Enters (codes "script")
    (HasNames (string_bytes shell) (string_bytes bin) (string_bytes tree)) entered
AsksFor entered (Register shell bin tree) = Enters (codes "register")
    (HasNames (string_bytes shell) (string_bytes bin) (string_bytes tree)) entered
AsksFor entered (Candidates index tree words) = Enters (codes "candidates")
    (HasValues None index (string_bytes tree) (map string_bytes words.items)) entered
AsksFor entered (CandidatesWith values index tree words) = Enters (codes "candidates")
    (HasValues (Some (string_bytes values)) index (string_bytes tree)
    (map string_bytes words.items)) entered
AsksFor entered (Wanted index tree words) = Enters (codes "wanted")
    (HasWords index (string_bytes tree) (map string_bytes words.items)) entered
AsksFor entered (Check bin json tree) = Enters (codes "check")
    (HasReport (option_map string_bytes bin) json (string_bytes tree)) entered
AsksFor entered (Man bin tree) = Enters (codes "man")
    (HasPage (string_bytes bin) (string_bytes tree)) entered
AsksFor entered (Scripts bin out_dir tree) = Enters (codes "scripts")
    (HasDirectory (string_bytes bin) (string_bytes out_dir) (string_bytes tree)) entered

-- the required arguments of `script` and `register` have values
abbrev pub GivesNames : List Row → Type 0
GivesNames rows = IsSome (first_of (codes "shell") rows) × IsSome (first_of (codes "bin") rows)
    × IsSome (first_of (codes "tree") rows)

-- the required arguments of `scripts` have values
abbrev pub GivesDirectory : List Row → Type 0
GivesDirectory rows = IsSome (first_of (codes "bin") rows) × IsSome (first_of (codes "out-dir") rows)
    × IsSome (first_of (codes "tree") rows)

-- the required arguments of `candidates` and `wanted` have values
abbrev pub GivesWords : List Row → Type 0
GivesWords rows = IsSome (first_of (codes "index") rows) × IsSome (first_of (codes "tree") rows)

-- the required argument of `check` has a value
abbrev pub GivesTree : List Row → Type 0
GivesTree rows = IsSome (first_of (codes "tree") rows)

-- the required arguments of `man` have values
abbrev pub GivesPage : List Row → Type 0
GivesPage rows = IsSome (first_of (codes "bin") rows) × IsSome (first_of (codes "tree") rows)

-- a subcommand that reads a tree file to complete or to check was entered, with its required
-- arguments
abbrev pub EntersTree : Option (Text × List Row) → Type 0
EntersTree entered = Enters (codes "script") GivesNames entered
    ⊎ (Enters (codes "scripts") GivesDirectory entered
    ⊎ (Enters (codes "register") GivesNames entered
    ⊎ (Enters (codes "candidates") GivesWords entered
    ⊎ (Enters (codes "wanted") GivesWords entered
    ⊎ Enters (codes "check") GivesTree entered))))

-- a subcommand was entered, with its required arguments
abbrev pub EntersOne : Option (Text × List Row) → Type 0
EntersOne entered = EntersTree entered ⊎ Enters (codes "man") GivesPage entered
