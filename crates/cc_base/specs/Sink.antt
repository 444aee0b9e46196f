-- The failures of a sink: how many puts and flushes failed, and the kind of the last failure.
use Rattle.std.specs.Prelude.{ℕ, ◌+◌, ◌-◌, ◌^◌, ◌==◌, nat_lt, ◌&&◌, if◌then◌else◌, List, length, Some, None, Result, Ok, Err}
use Rattle.std.specs.declared.io.ErrorKind.{ErrorKind}
use Rattle.std.specs.declared.io.ErrorKind.TheVariants.{WriteZero}
pub use Rattle.cc_base.specs.declared.failures.Failures.{Failures}

-- nothing failed so far
abbrev pub none_failed : Failures
none_failed = record { count = 0; last = None }

-- the failures after one more of the given kind; a count of `u64::MAX` stays as it is
unfoldable pub add_failure : ErrorKind → Failures → Failures
add_failure kind failures = record {
  count = if failures.count == 2 ^ 64 - 1 then failures.count else failures.count + 1;
  last = Some kind;
}

-- the failures after a put; it counts if it is an error, or if it took nothing of a slice that is
-- not empty
abbrev pub after_put : Result ℕ ErrorKind → List ℕ → Failures → Failures
after_put (Ok count) bytes failures =
    if (count == 0) && nat_lt 0 (length bytes) then add_failure WriteZero failures else failures
after_put (Err kind) bytes failures = add_failure kind failures
