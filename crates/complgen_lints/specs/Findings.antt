-- Findings about one command, and their places in the tree.
use Rattle.std.specs.Prelude.{ℕ, List, [], ◌∷◌, ◌++◌, Option, Some, None}
use Rattle.complgen_lints.specs.declared.found.Finding.{Finding}
use Rattle.complgen_lints.specs.declared.found.Spot.{Spot}
use Rattle.complgen_lints.specs.declared.found.Spot.TheVariants.{Child, Argument}
use Rattle.complgen_lints.specs.declared.place.Key.{Key}
use Rattle.complgen_lints.specs.declared.place.TreePlace.{TreePlace}

-- the path from a command to the command of a spot, and the argument of the spot
abbrev pub spot_path : Spot → List ℕ
spot_path (Child index) = index ∷ []
spot_path _ = []

abbrev pub spot_argument : Spot → Option ℕ
spot_argument (Argument index) = Some index
spot_argument _ = None

-- a finding about a key at a spot, or about an item of the key's list; its place begins at the
-- command
abbrev pub finding : {K : Type 0} → Spot → Key → Option ℕ → K → Finding K
finding spot key item kind = record {
  place = record {
    command = spot_path spot;
    argument = spot_argument spot;
    key = Some key;
    item = item;
  };
  kind = kind;
}

-- a place in a command of this path, as a place in the tree
abbrev pub placed : List ℕ → TreePlace → TreePlace
placed path place = record place { command = path ++ place.command }

abbrev pub placed_finding : {K : Type 0} → List ℕ → Finding K → Finding K
placed_finding path finding = record { place = placed path finding.place; kind = finding.kind }
