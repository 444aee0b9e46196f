-- The results of reading a text.
use Rattle.std.specs.Prelude.{◌≡◌, ⊤, ℕ, List, [], Some, None, Result, Ok, Err}
use Rattle.std.specs.declared.alloc.Global.{Global}
use Rattle.json.specs.Json.{Json, value}
use Rattle.json.specs.Lex.{tokens}
use Rattle.json.specs.Token.{Token}
use Rattle.json.specs.Value.{value_view}
use Rattle.json.specs.declared.value.Value.{Value}
use Rattle.serde_json.specs.Read as serde
use Rattle.complgen_tree_file.specs.JsonSeen.{view}
use Rattle.complgen_tree_file.specs.declared.json_values.read.JsonError.{JsonError}
use Rattle.complgen_tree_file.specs.declared.json_values.read.JsonError.TheVariants.{Memory, MoreText, NotJson, OutOfRange}

-- the text spells this JSON, in which each object has all its members, also those of one key
abbrev pub SpellsJson : List ℕ → Json → Type 0
SpellsJson text j = value serde.max_depth (tokens text) ≡ Some (j, [])

-- Reading a text returns the value that it spells, and fails where it spells none: it is not JSON,
-- there is more text after the value, or a number in the value is out of range. It may be out of
-- memory.
abbrev pub ReadsJson : List ℕ → Result (Value Global) JsonError → Type 0
ReadsJson text (Ok value) = serde.read text ≡ Some (view value)
ReadsJson text (Err (NotJson offset)) = serde.read text ≡ None
ReadsJson text (Err (MoreText end)) = serde.read text ≡ None
ReadsJson text (Err (OutOfRange value)) =
    (serde.read text ≡ None) × SpellsJson text (value_view value)
ReadsJson text (Err Memory) = ⊤

-- of the tokens `old`, reading the first value returns it and leaves `new`
abbrev pub ReadsFirst : List Token → Result (Value Global) JsonError → List Token → Type 0
ReadsFirst old (Ok v) new = value serde.max_depth old ≡ Some (value_view v, new)
ReadsFirst old (Err (NotJson offset)) new = value serde.max_depth old ≡ None
ReadsFirst old (Err Memory) new = ⊤
ReadsFirst old (Err _) new = ⊥
