-- A value of `json`, which borrows its text, as a value of `serde_json`.
use Rattle.std.specs.Prelude.{ℕ, ◌&&◌, List, Bool, true, Option, Some, None, is_some, negsuc}
use Rattle.std.specs.Borrow.{Bor}
use Rattle.std.specs.declared.alloc.Global.{Global}
use Rattle.json.specs.Json as borrowed
use Rattle.json.specs.Value.{value_view}
use Rattle.json.specs.Value as views
use Rattle.json.specs.declared.value.Value.{Value}
use Rattle.serde_json.specs.Data.{Data, null, boolean, number, string, array, object, Num, negative, Items, no_items, item, Members, no_members, put}
use Rattle.serde_json.specs.Read.{number_of}

-- the number; -1 if it is out of range, which fits no field either
abbrev pub number_seen : Option Num → Data
number_seen None = number (negative (negsuc 0))
number_seen (Some n) = number n

-- the value, if its numbers are in range; the last value of a key stays
abbrev mutual
  pub data_of : borrowed.Json → Data
  data_of borrowed.null = null
  data_of (borrowed.boolean b) = boolean b
  data_of (borrowed.number text) = number_seen (number_of text)
  data_of (borrowed.string text) = string text
  data_of (borrowed.array js) = array (each_data_of js)
  data_of (borrowed.object ms) = object (members_put ms no_members)

  pub each_data_of : borrowed.Items → Items
  each_data_of borrowed.no_items = no_items
  each_data_of (borrowed.item j js) = item (data_of j) (each_data_of js)

  pub members_put : borrowed.Members → Members → Members
  members_put borrowed.no_members found = found
  members_put (borrowed.member key j ms) found = members_put ms (put key (data_of j) found)

-- whether the numbers are in range
abbrev mutual
  pub is_in_range : borrowed.Json → Bool
  is_in_range borrowed.null = true
  is_in_range (borrowed.boolean b) = true
  is_in_range (borrowed.number text) = is_some (number_of text)
  is_in_range (borrowed.string text) = true
  is_in_range (borrowed.array js) = are_in_range js
  is_in_range (borrowed.object ms) = members_are_in_range ms

  pub are_in_range : borrowed.Items → Bool
  are_in_range borrowed.no_items = true
  are_in_range (borrowed.item j js) = is_in_range j && are_in_range js

  pub members_are_in_range : borrowed.Members → Bool
  members_are_in_range borrowed.no_members = true
  members_are_in_range (borrowed.member key j ms) = is_in_range j && members_are_in_range ms

abbrev pub view : Value Global → Data
view value = data_of (value_view value)

abbrev pub items_view : List (Value Global) → Items
items_view values = each_data_of (views.items_view values)

abbrev pub members_view : List (Bor (List ℕ) × Value Global) → Members
members_view members = members_put (views.members_view members) no_members
