-- Names of subcommands with their places, and names that are already taken.
use Rattle.std.specs.Prelude.{ℕ, List, [], ◌∷◌, ◌++◌, fold, if◌then◌else◌, Option, Some, None}
use Rattle.std.specs.Borrow.{Bor}
use Rattle.std.specs.HashMap.{HashMap, get_by}
use Rattle.std.specs.Str.{bytes_eq}
use Rattle.complgen_lints.specs.Findings.{finding}
use Rattle.complgen_lints.specs.Parts.{content_text}
use Rattle.complgen_lints.specs.declared.found.Finding.{Finding}
use Rattle.complgen_lints.specs.declared.found.Spot.TheVariants.{Child}
use Rattle.complgen_lints.specs.declared.names.PlacedName.{PlacedName}
use Rattle.complgen_lints.specs.declared.parts.Part.{Part}
use Rattle.complgen_lints.specs.declared.place.Key.{Key}
use Rattle.complgen_lints.specs.declared.warning.Premise.{Premise}
use Rattle.complgen_lints.specs.declared.warning.Premise.TheVariants.{TakenName}

-- a name of the argument or subcommand with this index, at its place
abbrev pub placed_name : ℕ → Key → Option ℕ → List ℕ → List ℕ → PlacedName
placed_name index key item name owner =
    record { index = index; key = key; item = item; name = name; owner = owner }

-- a part as a name
abbrev pub named_part : ℕ → List ℕ → Part → PlacedName
named_part index owner part =
    placed_name index part.key part.item (content_text part.content) owner

-- the last owner of a name among these names
abbrev pub owner_with : List PlacedName → List ℕ → Option (List ℕ)
owner_with names word =
    fold (λ found name. if bytes_eq name.name word then Some name.owner else found) None names

-- the owner of a name in a map
unfoldable pub owner_in : {S : Type 0} → HashMap (Bor (List ℕ)) (List ℕ) S → List ℕ → Option (List ℕ)
owner_in seen word = get_by (λ other. bytes_eq word other.now) seen

-- a finding about a name of a subcommand, if it has an earlier owner
abbrev pub taken_by : Option (List ℕ) → PlacedName → List (Finding Premise)
taken_by None name = []
taken_by (Some owner) name =
    finding (Child name.index) name.key name.item (TakenName name.name owner) ∷ []

-- a finding for each name that equals a name before it
abbrev pub taken_from : List PlacedName → List PlacedName → List (Finding Premise)
taken_from before [] = []
taken_from before (name ∷ names) = taken_by (owner_with before name.name) name
    ++ taken_from (before ++ name ∷ []) names
