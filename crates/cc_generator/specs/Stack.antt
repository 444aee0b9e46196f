-- The results that a stack still gives.
use Rattle.std.specs.Prelude.{List, reverse}
use Rattle.std.specs.List.{flat_map}

-- what the items of a stack give, the last item first
unfoldable pub from_stack : {A B : Type 0} → (A → List B) → List A → List B
from_stack from_item stack = flat_map from_item (reverse stack)
