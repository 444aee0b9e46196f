-- The effects of a call that writes an Elvish script only for plain commands.
use Rattle.std.specs.Prelude.{◌≡◌, ℕ, List, ◌++◌, Bool, true, false, Some, Result, Ok, ⊤}
use Rattle.clap_complete.specs.cc_tables.ElvishReader.{elvish_tables, offer_read}
use Rattle.clap_complete.specs.cc_tables.ElvishScript.{elvish_script}
use Rattle.clap_complete.specs.cc_base.declared.error.Error.{Error}
use Rattle.clap_complete.specs.cc_tables.Tables.{tree_tables}
use Rattle.clap_complete.specs.cc_command.Tree.{Tree}

-- the script of the tree is written, and reads back to the tree's tables
pub record TakesTables (old new : List ℕ) (tree : Tree) : Type 0 where
  pub taken : new ≡ old ++ elvish_script tree
  pub tables : elvish_tables (elvish_script tree) ≡ Some (tree_tables offer_read tree)

-- On `Ok(true)`, the script is written, and reads back to the tables. On `Ok(false)`, nothing is
-- written.
abbrev pub TakesPlain : Result Bool Error → List ℕ → List ℕ → Tree → Type 0
TakesPlain (Ok true) old new tree = TakesTables old new tree
TakesPlain (Ok false) old new tree = new ≡ old
TakesPlain _ old new tree = ⊤
