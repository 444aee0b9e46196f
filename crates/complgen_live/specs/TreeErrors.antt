-- The faults of a tree file that describes no command.
use Rattle.std.specs.Prelude.{⊤, ℕ, List, None, Some, Result, Ok, Err}
use Rattle.cc_base.specs.declared.error.Error.TheVariants.{Memory}
use Rattle.cc_command.specs.Tree.{Tree}
use Rattle.complgen_live.specs.declared.reply_errors.ReplyError.{ReplyError}
use Rattle.complgen_live.specs.declared.reply_errors.ReplyError.TheVariants as failed
use Rattle.complgen_tree_file.specs.TreeFile.{Describes, SpellsNone}
use Rattle.complgen_tree_file.specs.declared.error.TreeError.{TreeError}
use Rattle.complgen_tree_file.specs.declared.error.TreeError.TheVariants as fault

-- the bytes of a file have this fault
abbrev pub IsBad : TreeError → List ℕ → Type 0
IsBad fault.NotJson bytes = SpellsNone bytes
IsBad fault.BadForm bytes = Describes bytes None
IsBad fault.Memory bytes = ⊥

-- the command that the bytes describe, or out of memory, or the fault of the bytes
abbrev pub DescribedBy : List ℕ → Result Tree ReplyError → Type 0
DescribedBy bytes (Ok tree) = Describes bytes (Some tree)
DescribedBy bytes (Err (failed.Library Memory)) = ⊤
DescribedBy bytes (Err (failed.Tree problem)) = IsBad problem bytes
DescribedBy bytes (Err _) = ⊥
