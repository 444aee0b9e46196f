-- The encoding of visits and steps, by which proofs tell them apart. Readers of contracts do not
-- need it.
use Rattle.std.specs.Prelude.{◌≡◌, ◌⊎◌, ℕ, List, refl}
use Rattle.std.proofs.Common.{inl, inr}
use Rattle.std.specs.Coded.{Coded, code_by, coded×, coded⊎, coded_ℕ, coded_list}
use Rattle.cc_command.specs.Tree.{none, Tree}
use Rattle.cc_command.specs.TreeCode.{tree_code}
use Rattle.cc_generator.specs.Visits.{Keyed, keyed, Step, enter, leave}

-- the parts of a visit: its key, its tree, and the node above it as a tree without children
abbrev Parts : Type 0
Parts = List ℕ × (Tree × Tree)

abbrev parts_code : Coded Parts
parts_code = coded× (coded_list coded_ℕ) (coded× tree_code tree_code)

abbrev parts_of : Keyed (List ℕ) → Parts
parts_of visit = (visit.key, (visit.tree, record { node = visit.above; children = none }))

abbrev visit_from : Parts → Keyed (List ℕ)
visit_from parts = keyed parts.0 parts.1.1.node parts.1.0

-- visits are encoded as their parts
abbrev pub visits_code : Coded (List (Keyed (List ℕ)))
visits_code = coded_list (code_by Parts parts_code parts_of visit_from (λ _. refl))

-- the parts of a step's visit: on the left if the node is entered, else on the right
abbrev stored : Step (List ℕ) → Parts ⊎ Parts
stored (enter visit) = inl (parts_of visit)
stored (leave visit) = inr (parts_of visit)

-- the step with such parts
abbrev read : Parts ⊎ Parts → Step (List ℕ)
read (inl parts) = enter (visit_from parts)
read (inr parts) = leave (visit_from parts)

abbrev read-stored : (step : Step (List ℕ)) → read (stored step) ≡ step
read-stored (enter visit) = refl
read-stored (leave visit) = refl

-- steps are encoded as the parts of their visits
abbrev pub steps_code : Coded (List (Step (List ℕ)))
steps_code = coded_list (code_by (Parts ⊎ Parts)
    (coded⊎ parts_code parts_code) stored read read-stored)
