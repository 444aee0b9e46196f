-- The text that an error prints.
use Rattle.std.specs.Prelude.{ℕ, List, ◌++◌, codes}
use Rattle.cc_base.specs.declared.error.Error.{Error}
use Rattle.cc_base.specs.declared.error.Error.TheVariants.{Memory, Write, LabelClash, NoCompletion, NoArguments, UnknownShell, InvalidVariant}

-- the text, to which no line feed is added
abbrev pub error_text : Error → List ℕ
error_text Memory = codes "out of memory"
error_text (Write _) = codes "write failed"
error_text (LabelClash label) = codes "two commands share the label " ++ label
error_text NoCompletion = codes "no completion generated"
error_text NoArguments = codes "no arguments"
error_text (UnknownShell text) = text
error_text (InvalidVariant text) = text
