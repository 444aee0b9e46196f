use Rattle.cc_registrations.proofs.SafeZshReadings.{safe_zsh_reads}
use Rattle.cc_registrations.proofs.safe_zsh.write_safe_zsh.Goals as goal

pub returns-clause-read_back : goal.returns-clause-read_back
returns-clause-read_back g c = safe_zsh_reads _ _ _ _
