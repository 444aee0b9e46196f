-- The tables of a script: for each visible path of the tree, the rows at the node to which it
-- leads.
use Rattle.std.specs.Prelude.{ℕ, List, [], map, codes}
use Rattle.cc_command.specs.Tree.{Tree}
use Rattle.cc_command.specs.Names.{full_name}
use Rattle.cc_generator.specs.Visits.{joined_path, longer_path, table_visits}
use Rattle.cc_tables.specs.Offers.{node_offers}
use Rattle.cc_tables.specs.declared.offers.Offer.{Offer}

-- the rows that are offered after the words that the key names
pub record Table (Row : Type 0) : Type 0 where
  pub key : List ℕ
  pub rows : List Row

-- the table of a node under a key; `rows` returns the rows of a node
abbrev pub table_of : {Row : Type 0} → (Tree → List Row) → List ℕ → Tree → Table Row
table_of rows key tree = record { key = key; rows = rows tree }

-- the tables of a tree, one for each visit; each key joins the name of the program and the names of
-- the path
unfoldable pub path_tables : {Row : Type 0} → List ℕ → (Tree → List Row) → Tree → List (Table Row)
path_tables separator rows tree =
    map (λ visit. table_of rows (joined_path separator (full_name tree.node) visit.key) visit.tree)
    (table_visits longer_path [] tree)

-- the rows at a node; `row` returns the row of an offer
abbrev pub offered : {Row : Type 0} → (Offer → Row) → Tree → List Row
offered row tree = map row (node_offers tree)

-- the tables of a tree under keys joined by `;`; `row` returns the row of an offer
abbrev pub tree_tables : {Row : Type 0} → (Offer → Row) → Tree → List (Table Row)
tree_tables row tree = path_tables (codes ";") (offered row) tree
