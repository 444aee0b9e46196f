-- Members of an object that a later member of the same key hides.
use Rattle.std.specs.Prelude.{ℕ, ◌+◌, ◌++◌, ◌||◌, Bool, true, false, List, [], ◌∷◌, Vec, map}
use Rattle.std.specs.Str.{bytes_eq}
use Rattle.std.specs.declared.alloc.Global.{Global}
use Rattle.json.specs.Json.{Json, null, boolean, number, string, array, object}
use Rattle.json.specs.Json.{Items, no_items, item, Members, no_members, member}
use Rattle.complgen_check.specs.Places.{ShownStep, index, key, shown_step}
use Rattle.complgen_tree_file.specs.declared.faults.Step.{Step}

-- paths as they are shown
abbrev pub shown_paths : List (Vec Step Global) → List (List ShownStep)
shown_paths paths = map (λ path. map shown_step path.items) paths

-- whether a member has the key
abbrev pub has_key : List ℕ → Members → Bool
has_key name no_members = false
has_key name (member other j ms) = bytes_eq other name || has_key name ms

-- the path alone if the member there is hidden, and else none
abbrev pub if_hidden : Bool → List ShownStep → List (List ShownStep)
if_hidden true path = path ∷ []
if_hidden false path = []

-- the paths to all hidden members inside a value, in the order of the text; `path` leads to the
-- value
abbrev mutual
  pub hidden_in : List ShownStep → Json → List (List ShownStep)
  hidden_in path null = []
  hidden_in path (boolean b) = []
  hidden_in path (number s) = []
  hidden_in path (string s) = []
  hidden_in path (array js) = hidden_in_items path 0 js
  hidden_in path (object ms) = hidden_in_members path ms

  -- the same for the items of a list, the first of which is at index `n`
  pub hidden_in_items : List ShownStep → ℕ → Items → List (List ShownStep)
  hidden_in_items path n no_items = []
  hidden_in_items path n (item j js) =
      hidden_in (path ++ index n ∷ []) j ++ hidden_in_items path (n + 1) js

  pub hidden_in_members : List ShownStep → Members → List (List ShownStep)
  hidden_in_members path no_members = []
  hidden_in_members path (member name j ms) =
      (if_hidden (has_key name ms) (path ++ key name ∷ []) ++ hidden_in (path ++ key name ∷ []) j)
      ++ hidden_in_members path ms
