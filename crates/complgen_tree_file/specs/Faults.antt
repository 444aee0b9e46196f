-- The faults in a value of a tree file: there are some exactly if the value does not fit.
use Rattle.std.specs.Prelude.{◌≡◌, ◌&&◌, List, [], ◌∷◌, Bool, true, false, Option, is_some}
use Rattle.complgen_tree_file.specs.declared.faults.Fault.{Fault}
use Rattle.complgen_tree_file.specs.declared.faults.Faults.{Faults}

-- whether a list has no item
abbrev pub is_nil : {A : Type 0} → List A → Bool
is_nil [] = true
is_nil (a ∷ more) = false

-- what is found wrong so far
abbrev pub faults_in : Faults → List Fault
faults_in faults = faults.list.items

-- whether nothing is found wrong
abbrev pub has_none : Faults → Bool
has_none faults = is_nil (faults_in faults)

-- something more is found wrong, unless the value fits
abbrev pub FindsUnless : Bool → Faults → Faults → Type 0
FindsUnless fits old new = has_none new ≡ (has_none old && fits)

-- A reader makes this of a value, and finds something more wrong unless the value fits. `fits
-- before` says whether it fits and `before` holds.
pub record Makes {X : Type 0} (made : X) (fits : Bool → Bool) (got : X) (old new : Faults) : Type 0 where
  pub same : got ≡ made
  pub faults : has_none new ≡ fits (has_none old)

-- a reader returns what is defined, and finds something more wrong exactly if nothing is defined
pub record Reads {X : Type 0} (defined : Option X) (found : Option X) (old new : Faults) : Type 0 where
  pub same : found ≡ defined
  pub faults : FindsUnless (is_some defined) old new
