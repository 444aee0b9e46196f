-- Texts that a script holds one after another, as a reader reads them.
use Rattle.std.proofs.Common.{◌≡◌, ℕ, List, [], ◌∷◌, ◌++◌, map, flat_map, fold, refl, sym, ap, ◌∙◌, append_assoc, append-nil}
use Rattle.std.proofs.lemmas.List.{map-id}
use Rattle.std.specs.List.{AllByRecursion}
use Rattle.cc_base.proofs.Lines.{IsLine}

-- texts one after another, before another text
abbrev pub followed : List (List ℕ) → List ℕ → List ℕ
followed [] rest = rest
followed (text ∷ texts) rest = text ++ followed texts rest

-- the texts as they are written, and as they are read
pub in_parts : (first : List ℕ) (texts : List (List ℕ)) (rest : List ℕ) →
    fold (λ front text. front ++ text) first texts ++ rest ≡ first ++ followed texts rest
in_parts first [] rest = refl
in_parts first (text ∷ texts) rest =
    in_parts (first ++ text) texts rest ∙ append_assoc first text (followed texts rest)

-- items may follow where each of them may, if the text after them may
pub items_begin : {Item : Type 0} (IsRest : List ℕ → Type 0) (text : Item → List ℕ) → ((item : Item) (rest : List ℕ) → IsRest (text item ++ rest)) →
    (items : List Item) (rest : List ℕ) → IsRest rest → IsRest (flat_map text items ++ rest)
items_begin IsRest text begins [] rest h = h
items_begin IsRest text begins (item ∷ items) rest h = rw (append_assoc (text item) (flat_map text items) rest) (begins item (flat_map text items ++ rest))

-- `reading` is the reader over a text, with what it has read before. `as_read` is what it reads of an
-- item, if the text after the item may follow.
module _ {Value Item Read : Type 0} (IsRest : List ℕ → Type 0) (reading : List Read → List ℕ → Value) (text : Item → List ℕ) (as_read : Item → Read) (IsReadable : Item → Type 0)
    (begins : (item : Item) (rest : List ℕ) → IsRest (text item ++ rest))
    (one : (done : List Read) (item : Item) (rest : List ℕ) → IsReadable item → IsRest rest → reading done (text item ++ rest) ≡ reading (done ++ as_read item ∷ []) rest) where
  pub items_read : (done : List Read) (items : List Item) (rest : List ℕ) → AllByRecursion IsReadable items → IsRest rest
      → reading done (flat_map text items ++ rest) ≡ reading (done ++ map as_read items) rest
  items_read done [] rest h l = ap (λ read. reading read rest) (sym (append-nil done))
  items_read done (item ∷ items) rest (h, hs) l =
      ap (reading done) (append_assoc (text item) (flat_map text items) rest)
      ∙ one done item (flat_map text items ++ rest) h (items_begin IsRest text begins items rest l)
      ∙ items_read (done ++ as_read item ∷ []) items rest hs l
      ∙ ap (λ read. reading read rest) (append_assoc done (as_read item ∷ []) (map as_read items))

-- items that each begin a line, and that are read unchanged
module _ {Value Item : Type 0} (reading : List Item → List ℕ → Value) (text : Item → List ℕ)
    (IsReadable : Item → Type 0) (begins : (item : Item) (rest : List ℕ) → IsLine (text item ++ rest))
    (one : (kept : List Item) (item : Item) (rest : List ℕ) → IsReadable item → IsLine rest →
    reading kept (text item ++ rest) ≡ reading (kept ++ item ∷ []) rest) where
  pub in_turn : (kept items : List Item) (rest : List ℕ) →
      AllByRecursion IsReadable items → IsLine rest →
      reading kept (flat_map text items ++ rest) ≡ reading (kept ++ items) rest
  in_turn kept items rest h l =
      items_read IsLine reading text (λ item. item) IsReadable begins one kept items rest h l
      ∙ ap (λ all. reading (kept ++ all) rest) (map-id items)
