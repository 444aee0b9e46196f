use Rattle.std.proofs.Common.{◌∙◌, ap, rules, sym, ◌≡◌, ◌&&◌, Bool, true, false, List, Option, Some, None, if◌then◌else◌, is_some, refl, true≢false, []}
use Rattle.std.specs.Prelude.{option_and_then, option_map}
use Rattle.json.specs.Json.{value}
use Rattle.json.specs.Value.{value_view}
use Rattle.json.specs.Json as borrowed
use Rattle.json.specs.Reads.{Yields}
use Rattle.json.specs.Token.{Token}
use Rattle.json.specs.declared.token.Token as token
use Rattle.serde_json.specs.Data.{Data, Num, array, number, object, Items, item, Members, no_members, put}
use Rattle.serde_json.specs.Read.{number_of, of_items, of_json, of_members}
use Rattle.complgen_tree_file.specs.JsonSeen.{are_in_range, data_of, each_data_of, number_seen, is_in_range, members_are_in_range, members_put}
use Rattle.complgen_tree_file.proofs.json_values.read.read_value.Goals as goal

-- If the numbers are in range, `serde_json` reads the view of a value.
number_read : (o : Option Num)
    → option_map number o ≡ (if is_some o then Some (number_seen o) else None)
number_read None = refl
number_read (Some n) = refl

within : {A B : Type 0} (f : A → B) (a : A) (is : Bool)
    → option_map f (if is then Some a else None) ≡ (if is then Some (f a) else None)
within f a true = refl
within f a false = refl

next_item : (d : Data) (ds : Items) (here later : Bool)
    → option_and_then (λ d. option_map (item d) (if later then Some ds else None))
    (if here then Some d else None)
    ≡ (if here && later then Some (item d ds) else None)
next_item d ds true true = refl
next_item d ds true false = refl
next_item d ds false later = refl

next_member : {A : Type 0} (put_in : Data → A) (d : Data) (here later : Bool)
    → option_and_then (λ d. if later then Some (put_in d) else None)
    (if here then Some d else None)
    ≡ (if here && later then Some (put_in d) else None)
next_member put_in d true later = refl
next_member put_in d false later = refl

same_rest : (rest seen : Data → Option Members) (o : Option Data) → ((d : Data) → rest d ≡ seen d)
    → option_and_then rest o ≡ option_and_then seen o
same_rest rest seen None same = refl
same_rest rest seen (Some d) same = same d

mutual
  value_read : (j : borrowed.Json)
      → of_json j ≡ (if is_in_range j then Some (data_of j) else None)
  value_read (borrowed.number text) = number_read (number_of text)
  value_read (borrowed.array js) =
      ap (option_map array) (items_read js) ∙ within array (each_data_of js) (are_in_range js)
  value_read (borrowed.object ms) = ap (option_map object) (members_read ms no_members)
      ∙ within object (members_put ms no_members) (members_are_in_range ms)
  value_read j = refl

  items_read : (js : borrowed.Items)
      → of_items js ≡ (if are_in_range js then Some (each_data_of js) else None)
  items_read borrowed.no_items = refl
  items_read (borrowed.item j js) =
      ap (λ ds. option_and_then (λ d. option_map (item d) ds) (of_json j)) (items_read js)
      ∙ ap (option_and_then (λ d. option_map (item d)
      (if are_in_range js then Some (each_data_of js) else None))) (value_read j)
      ∙ next_item (data_of j) (each_data_of js) (is_in_range j) (are_in_range js)

  members_read : (ms : borrowed.Members) (found : Members)
      → of_members ms found ≡ (if members_are_in_range ms then Some (members_put ms found) else None)
  members_read borrowed.no_members found = refl
  members_read (borrowed.member key j ms) found =
      same_rest _ (λ d. if members_are_in_range ms then Some (members_put ms (put key d found))
      else None) (of_json j) (λ d. members_read ms (put key d found))
      ∙ ap (option_and_then (λ d. if members_are_in_range ms
      then Some (members_put ms (put key d found)) else None)) (value_read j)
      ∙ next_member (λ d. members_put ms (put key d found)) (data_of j) (is_in_range j)
      (members_are_in_range ms)

-- the tokens are one value and nothing else: it is what `serde_json` reads
abbrev whole : Option (borrowed.Json × List Token) → Option Data
whole o = option_and_then of_json (option_and_then (λ p. borrowed.if_last p.0 p.1) o)

-- what the reader returns after the value
module _ (o : Option (borrowed.Json × List Token)) (j : borrowed.Json) (rest new : List Token)
    (is : o ≡ Some (j, rest)) where
  goes_on : (t : Option token.Token) → Yields rest t new → is_some t ≡ true → whole o ≡ None
  goes_on None y some = absurd (true≢false (sym some))
  goes_on (Some t) y some = ap whole (is ∙ ap (λ ts. Some (j, ts)) y)

  nothing_left : (t : Option token.Token) → Yields rest t new → is_some t ≡ false
      → o ≡ Some (j, [])
  nothing_left None y none = is ∙ ap (λ ts. Some (j, ts)) y.0
  nothing_left (Some t) y none = absurd (true≢false none)

  at_end : (t : Option token.Token) → Yields rest t new → is_some t ≡ false
      → whole o ≡ (if is_in_range j then Some (data_of j) else None)
  at_end None y none = ap whole (is ∙ ap (λ ts. Some (j, ts)) y.0) ∙ value_read j
  at_end (Some t) y none = absurd (true≢false none)

  is_whole : (t : Option token.Token) → Yields rest t new → is_some t ≡ false
      → is_in_range j ≡ true → whole o ≡ Some (data_of j)
  is_whole t y none inside =
      at_end t y none ∙ ap (λ b. if b then Some (data_of j) else None) inside

  is_outside : (t : Option token.Token) → Yields rest t new → is_some t ≡ false
      → is_in_range j ≡ false → whole o ≡ None
  is_outside t y none outside =
      at_end t y none ∙ ap (λ b. if b then Some (data_of j) else None) outside

pub returns-then-is_some-clause-reads : goal.returns-then-is_some-clause-reads
returns-then-is_some-clause-reads c =
    goes_on _ (value_view c.in_ok-value.value) c.first.new.reader c.next.new.self (ap (value 127) (sym c.in-Ok.ensures.ok) ∙ c.in_ok-value.ensures) c.next.result c.next.ensures.value
    (search rules)

pub returns-then-not-has_range-clause-reads : goal.returns-then-not-has_range-clause-reads
returns-then-not-has_range-clause-reads c =
    let first = ap (value 127) (sym c.in-Ok.ensures.ok) ∙ c.in_ok-value.ensures in (
      is_outside _ (value_view c.in_ok-value.value) c.first.new.reader c.next.new.self first
          c.next.result c.next.ensures.value (search rules) (search rules),
      nothing_left _ (value_view c.in_ok-value.value) c.first.new.reader c.next.new.self first
          c.next.result c.next.ensures.value (search rules),
    )

pub returns-clause-reads : goal.returns-clause-reads
returns-clause-reads c =
    is_whole _ (value_view c.in_ok-value.value) c.first.new.reader c.next.new.self (ap (value 127) (sym c.in-Ok.ensures.ok) ∙ c.in_ok-value.ensures) c.next.result c.next.ensures.value
    (search rules) (search rules)

pub returns-clause-spells : goal.returns-clause-spells
returns-clause-spells c =
    nothing_left _ (value_view c.in_ok-value.value) c.first.new.reader c.next.new.self (ap (value 127) (sym c.in-Ok.ensures.ok) ∙ c.in_ok-value.ensures) c.next.result c.next.ensures.value
    (search rules)
