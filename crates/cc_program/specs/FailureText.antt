-- The text of a failure, as far as it is defined.
use Rattle.std.specs.Prelude.{ℕ, List, Option, None, Some}
use Rattle.cc_base.specs.ErrorText.{error_text}
use Rattle.cc_program.specs.declared.failure.Failure.{Failure}
use Rattle.cc_program.specs.declared.failure.Failure.TheVariants.{Library, Own, Print, Words}

-- the text of the error in it; the standard library defines none for its own errors
abbrev pub failure_text : {E : Type 0} → (E → Option (List ℕ)) → Failure E → Option (List ℕ)
failure_text shown (Words error) = None
failure_text shown (Library error) = Some (error_text error)
failure_text shown (Print error) = None
failure_text shown (Own error) = shown error
