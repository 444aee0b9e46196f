-- The premises of the promises about scripts, and those that warnings say do not hold.
use Rattle.std.specs.Prelude.{ℕ, Bool, ◌&&◌, List, [], ◌∷◌, Option}
use Rattle.std.specs.List.{flat_map}
use Rattle.cc_base.specs.PlainName.{is_plain_name}
use Rattle.cc_command.specs.Escaped.{is_escaped_tree}
use Rattle.cc_command.specs.Plain.{is_plain_tree, passes_if_some}
use Rattle.cc_command.specs.Quiet.{is_quiet_tree}
use Rattle.cc_command.specs.Tree.{Tree}
use Rattle.complgen_lints.specs.Lists.{is_nil}
use Rattle.complgen_lints.specs.declared.found.Finding.{Finding}
use Rattle.complgen_lints.specs.declared.place.TreePlace.{TreePlace}
use Rattle.complgen_lints.specs.declared.warning.Kind.{Kind}
use Rattle.complgen_lints.specs.declared.warning.Kind.TheVariants as kind
use Rattle.complgen_lints.specs.declared.warning.Premise.{Premise}
use Rattle.complgen_lints.specs.declared.warning.Warning.{Warning}

-- the bin name is plain if there is one; the tree is plain and quiet, and its quotes are escaped
abbrev pub holds_premises : Option (List ℕ) → Tree → Bool
holds_premises bin tree = passes_if_some is_plain_name bin
    && (is_plain_tree tree && (is_quiet_tree tree && is_escaped_tree tree))

-- the premise of a kind, at a place, if it has one
abbrev pub premise_at : TreePlace → Kind → List (Finding Premise)
premise_at place (kind.Premise premise) = record { place = place; kind = premise } ∷ []
premise_at place (kind.Advice advice) = []

-- the premises that some warnings say do not hold, with their places
abbrev pub premises_in : List Warning → List (Finding Premise)
premises_in warnings = flat_map (λ warning. premise_at warning.place warning.kind) warnings

-- no warning says that a premise does not hold
abbrev pub name_no_premise : List Warning → Bool
name_no_premise warnings = is_nil (premises_in warnings)
