-- The warnings that are notes.
use Rattle.std.specs.Prelude.{Bool, true, false, List}
use Rattle.std.specs.List.{list_all}
use Rattle.complgen_lints.specs.declared.warning.Advice.{Advice}
use Rattle.complgen_lints.specs.declared.warning.Advice.TheVariants.{HiddenCommand, HiddenArgument, PassesWords, RunsCommand}
use Rattle.complgen_lints.specs.declared.warning.Kind.{Kind}
use Rattle.complgen_lints.specs.declared.warning.Kind.TheVariants as kind
use Rattle.complgen_lints.specs.declared.warning.Warning.{Warning}

-- the advice that is a note
abbrev pub notes : Advice → Bool
notes HiddenCommand = true
notes HiddenArgument = true
notes (RunsCommand words) = true
notes (PassesWords words) = true
notes _ = false

-- the kind of a note
abbrev pub is_note : Kind → Bool
is_note (kind.Premise premise) = false
is_note (kind.Advice advice) = notes advice

-- all warnings are notes
abbrev pub are_notes : List Warning → Bool
are_notes warnings = list_all (λ warning. is_note warning.kind) warnings
