-- Different paths of plain names give different texts when joined, if the separator begins with a
-- byte that no plain name has.
use Rattle.std.proofs.Common.{◌≡◌, ◌≢◌, ℕ, IsTrue, List, [], ◌∷◌, ◌++◌, flat_map, refl, sym, ap, ◌∙◌, append_assoc}
use Rattle.std.specs.List.{AllByRecursion}
use Rattle.std.proofs.lemmas.List.{append_cancel_left}
use Rattle.cc_base.specs.Differ.{AllDifferBy}
use Rattle.cc_base.proofs.Differing.{AllDifferBy-finer}
use Rattle.cc_base.proofs.Members.{AllByRecursion-weaker}
use Rattle.cc_command.specs.Plain.{is_plain_tree}
use Rattle.cc_base.specs.PlainName.{name_byte, foreign}
use Rattle.cc_command.specs.Tree.{Tree}
use Rattle.cc_base.proofs.NameBytes.{plain_bytes}
use Rattle.cc_command.proofs.PlainParts.{IsPlainName}
use Rattle.cc_generator.specs.Paths.{CoversPaths}
use Rattle.cc_generator.specs.Visits.{Keyed, joined_path}
use Rattle.cc_generator.proofs.PlainVisits.{IsPlainVisit, plain_visits}

-- the separator: its first byte, and the bytes after that
module _ (first_byte : ℕ) (rest : List ℕ) (is_foreign : name_byte first_byte ≡ foreign) where
  abbrev separator : List ℕ
  separator = first_byte ∷ rest

  -- no byte is the first byte of the separator
  abbrev HasNoSeparator : List ℕ → Type 0
  HasNoSeparator bytes = AllByRecursion (λ byte. byte ≢ first_byte) bytes

  name_no_separator : (name : List ℕ) → IsPlainName name → HasNoSeparator name
  name_no_separator name h =
      AllByRecursion-weaker (λ byte. name_byte byte ≢ foreign) (λ byte. byte ≢ first_byte) (λ byte differs same. differs (ap name_byte same ∙ is_foreign)) name (plain_bytes name h)

  -- names, each after a separator
  abbrev further : List (List ℕ) → List ℕ
  further names = flat_map (λ name. separator ++ name) names

  -- a name without a separator ends where the further names begin
  same_first : (one other : List ℕ) (names others : List (List ℕ)) → HasNoSeparator one → HasNoSeparator other →
      one ++ further names ≡ other ++ further others → (one ≡ other) × (further names ≡ further others)
  same_first [] [] names others h k e = (refl, e)
  same_first [] (y ∷ other) [] others h k e = cc
  same_first [] (y ∷ other) (name ∷ names) others h k e = let is : y ≡ first_byte = cc in absurd (k.0 is)
  same_first (x ∷ one) [] names [] h k e = cc
  same_first (x ∷ one) [] names (name ∷ others) h k e = let is : x ≡ first_byte = cc in absurd (h.0 is)
  same_first (x ∷ one) (y ∷ other) names others h k e =
      let head : x ≡ y = cc in
      let tail : one ++ further names ≡ other ++ further others = cc in
      let both = same_first one other names others h.1 k.1 tail in
      (ap (λ z. z ∷ one) head ∙ ap (λ zs. y ∷ zs) both.0, both.1)

  same_path : (path other : List (List ℕ)) → AllByRecursion IsPlainName path → AllByRecursion IsPlainName other → further path ≡ further other → path ≡ other
  same_path [] [] h k e = refl
  same_path (name ∷ path) (next ∷ other) h k e =
      let tail : name ++ further path ≡ next ++ further other =
      append_cancel_left separator (name ++ further path) (next ++ further other)
      (sym (append_assoc separator name (further path)) ∙ e ∙ append_assoc separator next (further other)) in
      let both = same_first name next path other (name_no_separator name h.0) (name_no_separator next k.0) tail in
      ap (λ first. first ∷ path) both.0 ∙ ap (λ rest. next ∷ rest) (same_path path other h.1 k.1 both.1)
  same_path path _ h k e = cc

  -- visits that cover the paths of a plain tree have different joined keys
  pub joined_keys_differ : (first : List ℕ) (tree : Tree) (visits : List (Keyed (List (List ℕ)))) → IsTrue (is_plain_tree tree) → CoversPaths tree visits →
      AllDifferBy (λ visit. joined_path (first_byte ∷ rest) first visit.key) visits
  joined_keys_differ first tree visits h covers =
      AllDifferBy-finer (λ visit. visit.key) (λ visit. joined_path (first_byte ∷ rest) first visit.key) IsPlainVisit
      (λ x y one other same. same_path x.key y.key one.names other.names (append_cancel_left first (further x.key) (further y.key) same))
      visits (plain_visits tree visits h covers) covers.once
