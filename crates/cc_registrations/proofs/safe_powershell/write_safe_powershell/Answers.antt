use Rattle.cc_registrations.proofs.SafePowershellReadings.{safe_powershell_reads}
use Rattle.cc_registrations.proofs.safe_powershell.write_safe_powershell.Goals as goal

pub returns-clause-read_back : goal.returns-clause-read_back
returns-clause-read_back g c = safe_powershell_reads _ _ _ _
