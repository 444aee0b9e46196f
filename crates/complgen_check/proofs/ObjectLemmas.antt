-- The numbers in the JSON object of a finding are numbers of JSON.
use Rattle.std.proofs.Common.{◌≡◌, ◌<◌, ◌^◌, ℕ, List, decimal, subst, sym}
use Rattle.json.proofs.Printed.Decimals.{IsNumber-decimal}
use Rattle.json.specs.Json.{Json}
use Rattle.json.specs.Print.{IsNumber}
use Rattle.json.specs.Tree.{HasNumbers}
use Rattle.complgen_check.specs.declared.errors.finding.Finding.{Finding}
use Rattle.complgen_check.specs.Objects.{object_with}

pub is_number : (text : List ℕ) (n : ℕ) → text ≡ decimal n → n < 2 ^ 64 → IsNumber text
is_number text n is fits = subst IsNumber (sym is) (IsNumber-decimal n fits)

pub has_numbers : (j : Json) (line column : List ℕ) (finding : Finding)
    → j ≡ object_with line column finding → IsNumber line → IsNumber column → HasNumbers j
has_numbers j line column finding is first second =
    subst HasNumbers (sym is) (first, (second, (tt, (tt, (tt, tt)))))
