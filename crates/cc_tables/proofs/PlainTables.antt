-- The tables of a plain tree are readable by any reader to which the bytes of plain names have no
-- special meaning.
use Rattle.std.proofs.Common.{◌≡◌, ◌≢◌, ℕ, IsTrue, List, [], ◌∷◌, ◌++◌, map, flat_map, Option, Some, codes, refl, ap, ap₂, ◌∙◌}
use Rattle.std.specs.List.{AllByRecursion}
use Rattle.std.proofs.lemmas.Simd.{map-map}
use Rattle.cc_base.specs.Differ.{AllDifferBy}
use Rattle.cc_base.proofs.Differing.{AllDifferBy-map}
use Rattle.cc_base.proofs.Members.{AllByRecursion-weaker, AllByRecursion-append, AllByRecursion-map}
use Rattle.cc_command.specs.Names.{full_name}
use Rattle.cc_command.specs.Plain.{is_plain_tree}
use Rattle.cc_base.specs.PlainName.{name_byte, foreign}
use Rattle.cc_command.specs.Tree.{Tree}
use Rattle.cc_base.proofs.NameBytes.{plain_bytes}
use Rattle.cc_command.proofs.PlainParts.{IsPlainBelow, IsPlainName, plain_full_name}
use Rattle.cc_generator.specs.Visits.{Keyed, joined_path, longer_path, table_visits}
use Rattle.cc_generator.proofs.DifferentKeys.{joined_keys_differ}
use Rattle.cc_generator.proofs.PlainVisits.{IsPlainVisit, plain_visits}
use Rattle.cc_generator.proofs.VisitedTables.{tables_cover}
use Rattle.cc_tables.specs.Offers.{node_offers}
use Rattle.cc_tables.specs.TableReader.{ReadsTables}
use Rattle.cc_tables.specs.Tables.{Table, offered, path_tables, table_of, tree_tables}
use Rattle.cc_tables.specs.declared.offers.Offer.{Offer}
use Rattle.cc_tables.proofs.PlainOffers.{IsPlainOffer, node_plain}

-- the requirements on a table: on each byte of its key, and on each row
pub record IsReadable {Row : Type 0} (IsKeyByte : ℕ → Type 0) (IsReadableRow : Row → Type 0)
    (table : Table Row) : Type 0 where
  pub key : AllByRecursion IsKeyByte table.key
  pub rows : AllByRecursion IsReadableRow table.rows

-- a table as it is read, given how a row is read
abbrev pub table_read : {Item Row : Type 0} → (Item → Row) → Table Item → Table Row
table_read as_read table = record { key = table.key; rows = map as_read table.rows }

-- what holds for the bytes of plain names holds for each byte of a plain name
pub of_plain_name : (IsByte : ℕ → Type 0) → ((byte : ℕ) → name_byte byte ≢ foreign → IsByte byte)
    → (name : List ℕ) → IsPlainName name → AllByRecursion IsByte name
of_plain_name IsByte of_byte name h =
    AllByRecursion-weaker (λ byte. name_byte byte ≢ foreign) IsByte of_byte name
    (plain_bytes name h)

-- `;` and the space do not occur in plain names
pub semicolon_foreign : name_byte 59 ≡ foreign
unfolding name_byte
semicolon_foreign = refl

pub space_foreign : name_byte 32 ≡ foreign
unfolding name_byte
space_foreign = refl

-- for keys with a separator of one byte; `rows` returns the rows of a node
module _ {Row : Type 0} (separator : ℕ) (is_foreign : name_byte separator ≡ foreign)
    (rows : Tree → List Row) where
  -- the table of a visit
  abbrev visit_table : List ℕ → Keyed (List (List ℕ)) → Table Row
  visit_table bin_name visit =
      table_of rows (joined_path (separator ∷ []) bin_name visit.key) visit.tree

  -- different tables of a plain tree have different keys
  pub keys_differ : (tree : Tree) → IsTrue (is_plain_tree tree)
      → AllDifferBy (λ table. table.key) (path_tables (separator ∷ []) rows tree)
  unfolding path_tables
  keys_differ tree h =
      let visits : List (Keyed (List (List ℕ))) = table_visits longer_path [] tree in
      let key : Table Row → List ℕ = λ table. table.key in
      AllDifferBy-map key (visit_table (full_name tree.node)) visits
      (joined_keys_differ separator [] is_foreign (full_name tree.node) tree visits h
      (tables_cover tree h))

  module _ (IsKeyByte : ℕ → Type 0) (IsReadableRow : Row → Type 0)
      (of_byte : (byte : ℕ) → name_byte byte ≢ foreign → IsKeyByte byte)
      (of_separator : IsKeyByte separator)
      (of_node : (tree : Tree) → IsPlainBelow tree → AllByRecursion IsReadableRow (rows tree)) where
    -- the names of a path, each after the separator
    names_readable : (names : List (List ℕ)) → AllByRecursion IsPlainName names
        → AllByRecursion IsKeyByte (flat_map (λ name. (separator ∷ []) ++ name) names)
    names_readable [] h = tt
    names_readable (name ∷ names) h = (
      of_separator,
      AllByRecursion-append IsKeyByte name
          (flat_map (λ name. (separator ∷ []) ++ name) names)
          (of_plain_name IsKeyByte of_byte name h.0) (names_readable names h.1),
    )

    visit_readable : (bin_name : List ℕ) → IsPlainName bin_name → (visit : Keyed (List (List ℕ)))
        → IsPlainVisit visit → IsReadable IsKeyByte IsReadableRow (visit_table bin_name visit)
    visit_readable bin_name h visit plain = record {
      key = AllByRecursion-append IsKeyByte bin_name
          (flat_map (λ name. (separator ∷ []) ++ name) visit.key)
          (of_plain_name IsKeyByte of_byte bin_name h) (names_readable visit.key plain.names);
      rows = of_node visit.tree plain.tree;
    }

    -- the tables of a plain tree
    pub tables_readable : (tree : Tree) → IsTrue (is_plain_tree tree)
        → AllByRecursion (IsReadable IsKeyByte IsReadableRow)
        (path_tables (separator ∷ []) rows tree)
    unfolding path_tables
    tables_readable tree h =
        let visits : List (Keyed (List (List ℕ))) = table_visits longer_path [] tree in
        AllByRecursion-map (IsReadable IsKeyByte IsReadableRow)
        (visit_table (full_name tree.node)) visits
        (AllByRecursion-weaker IsPlainVisit
        (λ visit. IsReadable IsKeyByte IsReadableRow (visit_table (full_name tree.node) visit))
        (visit_readable (full_name tree.node) (plain_full_name tree h)) visits
        (plain_visits tree visits h (tables_cover tree h)))

-- functions that agree give the same list
map-same : {A B : Type 0} (f g : A → B) → ((a : A) → f a ≡ g a) → (items : List A)
    → map f items ≡ map g items
map-same f g same [] = refl
map-same f g same (item ∷ items) =
    ap₂ (λ first rest. first ∷ rest) (same item) (map-same f g same items)

-- the tables as they are read are the tables of the rows as they are read
as_read_tables : {Item Row : Type 0} (separator : List ℕ) (rows : Tree → List Item)
    (read : Tree → List Row) (as_read : Item → Row) →
    ((tree : Tree) → map as_read (rows tree) ≡ read tree) →
    (tree : Tree)
    → map (table_read as_read) (path_tables separator rows tree) ≡ path_tables separator read tree
unfolding path_tables
as_read_tables separator rows read as_read same tree =
    let key : Keyed (List (List ℕ))
    → List ℕ = λ visit. joined_path separator (full_name tree.node) visit.key in
    map-map (table_read as_read) (λ visit. table_of rows (key visit) visit.tree)
    (table_visits longer_path [] tree)
    ∙ map-same (λ visit. record { key = key visit; rows = map as_read (rows visit.tree) })
    (λ visit. table_of read (key visit) visit.tree)
    (λ visit. ap (λ rows_read. record { key = key visit; rows = rows_read }) (same visit.tree))
    (table_visits longer_path [] tree)

-- the tables of a plain tree are read, if all readable tables are read
pub reads_tables : {Item Row : Type 0} (separator : ℕ)
    (is_foreign : name_byte separator ≡ foreign) (rows : Tree → List Item)
    (read : Tree → List Row) (as_read : Item → Row)
    → ((tree : Tree) → map as_read (rows tree) ≡ read tree)
    → (tables_of : List (Table Item) → Option (List (Table Row))) (tree : Tree)
    → IsTrue (is_plain_tree tree)
    → tables_of (path_tables (separator ∷ []) rows tree)
    ≡ Some (map (table_read as_read) (path_tables (separator ∷ []) rows tree))
    → ReadsTables (tables_of (path_tables (separator ∷ []) rows tree))
    (path_tables (separator ∷ []) read tree) tree
reads_tables separator is_foreign rows read as_read same tables_of tree h reads = record {
  tables = reads ∙ ap Some (as_read_tables (separator ∷ []) rows read as_read same tree);
  paths = tables_cover tree h;
  keys = keys_differ separator is_foreign read tree h;
}

-- the same for the offers at each node as rows
module _ {Row : Type 0} (as_read : Offer → Row) (IsKeyByte : ℕ → Type 0) (IsRow : Offer → Type 0)
    (of_byte : (byte : ℕ) → name_byte byte ≢ foreign → IsKeyByte byte) (of_separator : IsKeyByte 59)
    (of_offer : (offer : Offer) → IsPlainOffer offer → IsRow offer) where
  pub reads_offers : (tables_of : List (Table Offer) → Option (List (Table Row))) (tree : Tree)
      → IsTrue (is_plain_tree tree)
      → (AllByRecursion (IsReadable IsKeyByte IsRow) (path_tables (codes ";") node_offers tree)
      → tables_of (path_tables (codes ";") node_offers tree)
      ≡ Some (map (table_read as_read) (path_tables (codes ";") node_offers tree)))
      → ReadsTables (tables_of (path_tables (codes ";") node_offers tree))
      (tree_tables as_read tree) tree
  reads_offers tables_of tree h reads =
      reads_tables 59 semicolon_foreign node_offers (offered as_read) as_read (λ tree. refl)
      tables_of tree h
      (reads (tables_readable 59 semicolon_foreign node_offers IsKeyByte IsRow of_byte of_separator
      (λ tree k. AllByRecursion-weaker IsPlainOffer IsRow of_offer (node_offers tree) (node_plain tree k))
      tree h))
