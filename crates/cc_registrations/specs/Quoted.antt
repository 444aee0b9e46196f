-- Words as the shells quote them.
use Rattle.std.specs.Prelude.{ℕ, List}
use Rattle.cc_quote.specs.FishQuote.{fish_quoted}
use Rattle.cc_quote.specs.PosixQuote.{posix_quoted}
use Rattle.cc_registrations.specs.Names.{elvish_quoted, powershell_quoted}
use Rattle.cc_registrations.specs.declared.words.Quoting.{Quoting}
use Rattle.cc_registrations.specs.declared.words.Quoting.TheVariants.{Posix, Fish, Elvish}
use Rattle.cc_registrations.specs.declared.words.Quoting.TheVariants.{Powershell}

-- a text as one word
abbrev pub quoted : Quoting → List ℕ → List ℕ
quoted Posix text = posix_quoted text
quoted Fish text = fish_quoted text
quoted Elvish text = elvish_quoted text
quoted Powershell text = powershell_quoted text
