use Rattle.cc_registrations.proofs.SafeBashReadings.{safe_bash_reads}
use Rattle.cc_registrations.proofs.safe_bash.write_safe_bash.Goals as goal

pub returns-clause-read_back : goal.returns-clause-read_back
returns-clause-read_back g c = safe_bash_reads _ _ _ _
