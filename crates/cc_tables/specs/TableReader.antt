-- The reader of the tables in a script. It goes through the script's tokens. The shell determines
-- what a token means, how a row is spelled, and which word ends the tables.
use Rattle.std.specs.Prelude.{◌≡◌, ℕ, List, [], ◌∷◌, ◌++◌, if◌then◌else◌, Option, Some, None, bytes_eq, codes}
use Rattle.cc_base.specs.Differ.{AllDifferBy}
use Rattle.cc_command.specs.Tree.{Tree}
use Rattle.cc_quote.specs.Tokens.{Token}
use Rattle.cc_generator.specs.Paths.{CoversPaths}
use Rattle.cc_generator.specs.Visits.{longer_path, table_visits}
use Rattle.cc_tables.specs.Tables.{Table}

-- the meaning of a token: a bare word, the key of a table, or an argument in a row
pub data Part (Argument : Type 0) : Type 0 where
  word : List ℕ → Part Argument
  key : List ℕ → Part Argument
  argument : Argument → Part Argument
  unknown : Part Argument

-- the effect of a token within a table: the reader goes on at another state, a row is complete, the
-- table is complete, or the token does not belong there
pub data Step (RowState Row : Type 0) : Type 0 where
  goes_on : RowState → Step RowState Row
  ends_row : Row → Step RowState Row
  ends_table : Step RowState Row
  fails : Step RowState Row

-- how a shell spells its tables: the meaning of a token, the state between two rows, the effect of
-- a part at a state, and the bare word after the last table
pub record Spelling (Argument RowState Row : Type 0) : Type 0 where
  pub part : Token → Part Argument
  pub between_rows : RowState
  pub step : RowState → Part Argument → Step RowState Row
  pub last_word : List ℕ

-- the state of the reader, with the tables and the rows that it has read
pub data State (RowState Row : Type 0) : Type 0 where
  between_tables : List (Table Row) → State RowState Row
  after_key : List (Table Row) → List ℕ → State RowState Row
  in_table : List (Table Row) → Table Row → RowState → State RowState Row
  finished : List (Table Row) → State RowState Row
  malformed : State RowState Row

-- the state after a step within a table
unfoldable pub after_step : {RowState Row : Type 0} → RowState → List (Table Row) → Table Row
    → Step RowState Row → State RowState Row
after_step between_rows tables table (goes_on state) = in_table tables table state
after_step between_rows tables table (ends_row row) =
    in_table tables (record table { rows = table.rows ++ row ∷ [] }) between_rows
after_step between_rows tables table ends_table = between_tables (tables ++ table ∷ [])
after_step between_rows tables table fails = malformed

-- the state after a part; a part that does not belong there makes the text malformed
unfoldable pub next : {Argument RowState Row : Type 0} → Spelling Argument RowState Row
    → State RowState Row → Part Argument → State RowState Row
next spelling (between_tables tables) (key name) = after_key tables name
next spelling (between_tables tables) (word run) =
    if bytes_eq run spelling.last_word then finished tables else malformed
next spelling (after_key tables name) (word run) =
    if bytes_eq run (codes "{") then in_table tables
    (record { key = name; rows = [] }) spelling.between_rows else malformed
next spelling (in_table tables table state) part =
    after_step spelling.between_rows tables table (spelling.step state part)
next spelling (finished tables) _ = finished tables
next spelling _ _ = malformed

-- the tables, if their list is closed
unfoldable pub tables_of : {RowState Row : Type 0} → State RowState Row → Option (List (Table Row))
tables_of (finished tables) = Some tables
tables_of _ = None

-- the tables that are read from a state on
unfoldable pub read : {Argument RowState Row : Type 0} → Spelling Argument RowState Row
    → State RowState Row → List Token → Option (List (Table Row))
read spelling state [] = tables_of state
read spelling state (token ∷ tokens) =
    read spelling (next spelling state (spelling.part token)) tokens

-- The reader reads the given tables of a tree, one for each visit. The visits are exactly the
-- visible paths of the tree, each once. No two tables have the same key.
pub record ReadsTables {Row : Type 0} (tables_read : Option (List (Table Row)))
    (tables_are : List (Table Row)) (tree : Tree) : Type 0 where
  pub tables : tables_read ≡ Some tables_are
  pub paths : CoversPaths tree (table_visits longer_path [] tree)
  pub keys : AllDifferBy (λ table. table.key) tables_are
