-- A request as texts, from the bytes that the caller passes.
use Rattle.std.specs.Prelude.{◌≡◌, ℕ, List, [], ◌∷◌, Option, None, Some, String, Vec, map, string_bytes}
use Rattle.std.specs.declared.alloc.Global.{Global}
use Rattle.std.specs.List.{All}
use Rattle.std.specs.Str.{IsUtf8}
use Rattle.cc_replies.specs.declared.environment.EnvValues.{EnvValues}
use Rattle.complgen_c.specs.declared.requests.RequestTexts.{RequestTexts}

-- the bytes of two texts
abbrev pub both_bytes : String Global × String Global → List ℕ × List ℕ
both_bytes texts = (string_bytes texts.0, string_bytes texts.1)

-- texts in pairs, without a last one that has no partner
abbrev pub in_pairs : List (List ℕ) → List (List ℕ × List ℕ)
in_pairs [] = []
in_pairs (first ∷ []) = []
in_pairs (first ∷ second ∷ rest) = (first, second) ∷ in_pairs rest

-- the environment has these variables, which the caller passes as names and values, alternating
abbrev pub HoldsVariables : List (List ℕ) → EnvValues → Type 0
HoldsVariables variables env = map both_bytes env.variables ≡ in_pairs variables

-- the texts with these bytes, all of which are UTF-8, or none if not all are
abbrev pub AreTexts : List (List ℕ) → Option (Vec (String Global) Global) → Type 0
AreTexts slices None = All IsUtf8 slices → ⊥
AreTexts slices (Some texts) = (map string_bytes texts.items ≡ slices) × All IsUtf8 slices

-- all are UTF-8
pub record AreUtf8 (words variables names : List (List ℕ)) : Type 0 where
  pub words_utf8 : All IsUtf8 words
  pub variables_utf8 : All IsUtf8 variables
  pub names_utf8 : All IsUtf8 names

-- the request has these words, variables and names, which are UTF-8
pub record HasParts (words variables names : List (List ℕ)) (request : RequestTexts) : Type 0 where
  pub utf8 : AreUtf8 words variables names
  pub words_same : map string_bytes request.words.items ≡ words
  pub variables_same : HoldsVariables variables request.env
  pub names_same : map string_bytes request.names.items ≡ names

-- not all are UTF-8
abbrev pub NotUtf8Texts : List (List ℕ) → List (List ℕ) → List (List ℕ) → Type 0
NotUtf8Texts words variables names = All IsUtf8 words → All IsUtf8 variables → All IsUtf8 names → ⊥

-- the request with these words, variables and names, or none if not all are UTF-8
abbrev pub IsRead : List (List ℕ) → List (List ℕ) → List (List ℕ) → Option RequestTexts → Type 0
IsRead words variables names None = NotUtf8Texts words variables names
IsRead words variables names (Some request) = HasParts words variables names request
