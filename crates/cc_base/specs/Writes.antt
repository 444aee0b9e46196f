-- The effect of a call that writes a text on its sink.
use Rattle.std.specs.Prelude.{◌≡◌, ℕ, List, ◌++◌, Result, Ok, Err, OnOk, OnErr, IfErr, ⊤, true}
use Rattle.std.specs.declared.io.ErrorKind.{ErrorKind}
use Rattle.cc_base.specs.declared.error.Error.{Error}
use Rattle.cc_base.specs.declared.error.Error.TheVariants.{Memory, Write}
use Rattle.cc_base.specs.Partly.{partly}
use Rattle.cc_base.specs.Sink.{Failures, add_failure}

-- the call counts a failure if and only if it returns `Write`, with that kind
abbrev pub CountsWrite : {T : Type 0} → Result T Error → Failures → Failures → Type 0
CountsWrite (Err (Write kind)) old new = new ≡ add_failure kind old
CountsWrite _ old new = new ≡ old

-- the error is a failed put
abbrev pub IsWrite : Error → Type 0
IsWrite (Write _) = ⊤
IsWrite _ = ⊥

-- the error is out of memory or a failed put
abbrev pub IsMemoryOrWrite : Error → Type 0
IsMemoryOrWrite Memory = ⊤
IsMemoryOrWrite (Write _) = ⊤
IsMemoryOrWrite _ = ⊥

-- a result whose error is a kind, as one whose error is `Write` of that kind
abbrev pub as_write : Result (Unit {0}) ErrorKind → Result (Unit {0}) Error
as_write (Ok done) = Ok done
as_write (Err kind) = Err (Write kind)

-- If the call returns `Ok`, the sink has taken the text. A failure is counted if and only if the
-- call returns `Write`. The only other error is `Memory`. After an error the sink has taken a
-- beginning of the text.
pub record Writes {S : Type 0} (taken : S → List ℕ) (failed : S → Failures)
    (result : Result (Unit {0}) Error) (old new : S) (text : List ℕ) : Type 0 where
  pub ok : OnOk result (taken new ≡ taken old ++ text)
  pub begun : OnErr result (partly (taken new) (taken old) text ≡ true)
  pub failures : CountsWrite result (failed old) (failed new)
  pub kinds : IfErr result IsMemoryOrWrite
