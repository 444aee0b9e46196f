-- The messages about words that are not carried out, and the statuses after them.
use Rattle.std.specs.Prelude.{◌≡◌, ℕ, Bool, false, true, List, Result, Ok, Err}
use Rattle.std.specs.Process.{exit_status}
use Rattle.std.specs.IoError.{error_kind}
use Rattle.std.specs.declared.process.ExitCode.{ExitCode}
use Rattle.clap.specs.declared.error.kind.ErrorKind.{ErrorKind}
use Rattle.clap.specs.declared.error.kind.ErrorKind.TheVariants.{DisplayHelp, DisplayVersion, OutOfMemory}
use Rattle.cc_base.specs.Writes.{Writes}
use Rattle.cc_base.specs.declared.error.Error.{Error}
use Rattle.cc_base.specs.declared.error.Error.TheVariants.{Memory, Write}
use Rattle.cc_base.specs.declared.sink.Sink.{Ghosts}
use Rattle.cc_program.specs.declared.failure.Failure.{Failure}
use Rattle.cc_program.specs.declared.failure.Failure.TheVariants.{Library, Print}
use Rattle.cc_program.specs.declared.streams.Streams.{Streams}

-- words that ask for a help or the version end with 0, and those with a mistake with 2
abbrev pub status_of : ErrorKind → ℕ
status_of DisplayHelp = 0
status_of DisplayVersion = 0
status_of _ = 2

-- the words ask for the message: it is a help text or the version
abbrev pub is_asked_for : ErrorKind → Bool
is_asked_for DisplayHelp = true
is_asked_for DisplayVersion = true
is_asked_for _ = false

-- there was no memory to parse the words
abbrev pub is_out_of_memory : ErrorKind → Bool
is_out_of_memory OutOfMemory = true
is_out_of_memory _ = false

-- A write of a text: to the first stream if the words ask for it, else to the second. The other
-- stream stays as it was.
abbrev pub Puts : {O X : Type 0} → Ghosts O → Ghosts X → Bool → Result (Unit {0}) Error
    → Streams O X → Streams O X → List ℕ → Type 0
Puts out err true done old new text =
    Writes out.taken out.failed done old.out new.out text × (new.err ≡ old.err)
Puts out err false done old new text =
    Writes err.taken err.failed done old.err new.err text × (new.out ≡ old.out)

-- the end after a write of a message of this kind: its status, or the failure of the write
abbrev pub EndsPut : {E : Type 0} → ErrorKind → Result (Unit {0}) Error
    → Result ExitCode (Failure E) → Type 0
EndsPut kind (Ok done) (Ok code) = exit_status code ≡ status_of kind
EndsPut kind (Err (Write failed)) (Err (Print error)) = error_kind error ≡ failed
EndsPut kind _ _ = ⊥

-- a text is written as the message of this kind, and the program ends by that
abbrev pub SaysText : {E O X : Type 0} → Ghosts O → Ghosts X → ErrorKind → Streams O X
    → Streams O X → List ℕ → Result ExitCode (Failure E) → Type 0
SaysText out err kind old new text result = (done : Result (Unit {0}) Error)
    × Puts out err (is_asked_for kind) done old new text × EndsPut kind done result

-- The ends of a program whose words give no matches, by the kind of the error and its texts.
pub data Explains {E O X : Type 0} (out : Ghosts O) (err : Ghosts X) (kind : ErrorKind)
    (Says : List ℕ → Type 0) (old new : Streams O X) : Result ExitCode (Failure E) → Type 0 where
  -- memory ran out, during the parse or for the text, and nothing is written
  unexplained : new ≡ old → Explains out err kind Says old new (Err (Library Memory))
  -- the text of the error is written
  explained : (text : List ℕ) (result : Result ExitCode (Failure E))
      → is_out_of_memory kind ≡ false → Says text → SaysText out err kind old new text result
      → Explains out err kind Says old new result
