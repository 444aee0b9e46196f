-- Examples of counted failures.
use Rattle.std.proofs.Common.{◌≡◌, ◌-◌, ◌^◌, None, Some, refl}
use Rattle.std.specs.declared.io.ErrorKind.TheVariants.{BrokenPipe, WriteZero}
use Rattle.cc_base.specs.Sink.{none_failed, add_failure}

-- a second failure adds one to the count, and the kind is that of the last failure
two : add_failure BrokenPipe (add_failure WriteZero none_failed) ≡ record { count = 2; last = Some BrokenPipe }
unfolding add_failure
two = refl

-- a count of `u64::MAX` stays as it is
at_most : add_failure BrokenPipe (record { count = 2 ^ 64 - 1; last = None })
    ≡ record { count = 2 ^ 64 - 1; last = Some BrokenPipe }
unfolding add_failure
at_most = refl
