use Rattle.cc_registrations.proofs.SafeElvishReadings.{safe_elvish_reads}
use Rattle.cc_registrations.proofs.safe_elvish.write_safe_elvish.Goals as goal

pub returns-clause-read_back : goal.returns-clause-read_back
returns-clause-read_back g c = safe_elvish_reads _ _ _ _
