-- The texts that are printed for words without a plan.
use Rattle.std.specs.Prelude.{◌≡◌, ◌⊎◌, ℕ, List, [], ◌∷◌, Option, codes}
use Rattle.clap.specs.Kinds.{IsAmong, Kinds}
use Rattle.clap.specs.Words.{Row, Text}
use Rattle.clap.specs.declared.error.kind.ErrorKind.{ErrorKind}
use Rattle.clap.specs.declared.error.kind.ErrorKind.TheVariants.{DisplayHelp, DisplayVersion}
use Rattle.clap.specs.declared.error.kind.ErrorKind.TheVariants.{OutOfMemory}
use Rattle.complgen_command_line.specs.Plans.{Enters, HasBadIndex}
use Rattle.complgen_scripts.specs.Refusals.{IsOutOfMemory, text_of}
use Rattle.complgen_scripts.specs.declared.refusals.Refusal.{Refusal}

-- the exit status for an error of a parse
abbrev pub status_of : ErrorKind → ℕ
status_of DisplayHelp = 0
status_of DisplayVersion = 0
status_of OutOfMemory = 1
status_of _ = 2

-- the refusal for an error of this kind; memory may run out when its text is made
abbrev pub ReportsKind : ErrorKind → Refusal → Type 0
ReportsKind OutOfMemory refusal = IsOutOfMemory refusal
ReportsKind kind refusal = IsOutOfMemory refusal ⊎ (refusal.status ≡ status_of kind)

-- status 2, and a line that says that the index is not a number
pub record IsBadIndex (refusal : Refusal) : Type 0 where
  pub status : refusal.status ≡ 2
  pub text_is : text_of refusal ≡ codes "index: bad number\n"

-- The refusal for a parse that fails with one of these kinds. If there are no kinds, the index is
-- not a number.
abbrev pub Fails : Kinds → Option (Text × List Row) → Refusal → Type 0
Fails [] entered refusal = IsBadIndex refusal × (Enters (codes "candidates") HasBadIndex entered
    ⊎ Enters (codes "wanted") HasBadIndex entered)
Fails (first ∷ more) entered refusal =
    (kind : ErrorKind) × IsAmong kind (first ∷ more) × ReportsKind kind refusal

-- the same, or out of memory
abbrev pub Reports : Kinds → Option (Text × List Row) → Refusal → Type 0
Reports kinds entered refusal = IsOutOfMemory refusal ⊎ Fails kinds entered refusal
