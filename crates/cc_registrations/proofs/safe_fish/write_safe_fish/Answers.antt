use Rattle.cc_registrations.proofs.SafeFishReadings.{safe_fish_reads}
use Rattle.cc_registrations.proofs.safe_fish.write_safe_fish.Goals as goal

pub returns-clause-read_back : goal.returns-clause-read_back
returns-clause-read_back g c = safe_fish_reads _ _ _ _
