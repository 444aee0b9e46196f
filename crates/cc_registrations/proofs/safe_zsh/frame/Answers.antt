use Rattle.std.proofs.Common.{refl}
use Rattle.cc_registrations.specs.SafeZsh.{zsh_frame, fixed_texts}
use Rattle.cc_registrations.proofs.safe_zsh.frame.Goals as goal

pub returns : goal.returns
unfolding zsh_frame fixed_texts
returns c = rw (c.new.ensures, c.new-2.ensures, c.new-3.ensures, c.new-4.ensures, c.new-5.ensures, c.new-6.ensures, c.new-7.ensures) refl
