-- The text of a script that consists of tables: a frame with a table for each visible path.
use Rattle.std.specs.Prelude.{ℕ, List, [], ◌++◌, flat_map, Option, Some, None}
use Rattle.cc_command.specs.Tree.{Tree}
use Rattle.cc_command.specs.Names.{full_name}
use Rattle.cc_tables.specs.Tables.{Table, path_tables, table_of}
use Rattle.cc_tables.specs.declared.tables.Frame.{Frame}
use Rattle.cc_tables.specs.declared.tables.Named.{Named}

-- the text after the head, for a program called `bin`
unfoldable pub named_text : Option Named → List ℕ → List ℕ
named_text (Some named) bin = bin ++ named.between ++ bin ++ named.completions
named_text None bin = []

-- the text before the tables, for a program called `bin`
unfoldable pub head_text : Frame → List ℕ → List ℕ
head_text frame bin = frame.head ++ named_text frame.named bin

-- the key, the rows and the end of a table
unfoldable pub table_text : {Row : Type 0} → Frame → (Row → List ℕ) → Table Row → List ℕ
table_text frame row_text table =
    frame.key_begin ++ table.key ++ frame.key_end ++ flat_map row_text table.rows ++ frame.table_end

-- the text of the table of a node under a key; `rows` returns the rows of a node
unfoldable pub node_text : {Row : Type 0} → Frame → (Row → List ℕ) → (Tree → List Row) → List ℕ
    → Tree → List ℕ
node_text frame row_text rows key tree = table_text frame row_text (table_of rows key tree)

-- the frame for a program called `bin`, with the given tables
unfoldable pub script_text : {Row : Type 0} → Frame → (Row → List ℕ) → List ℕ → List (Table Row)
    → List ℕ
script_text frame row_text bin tables =
    head_text frame bin ++ flat_map (table_text frame row_text) tables ++ frame.tail

-- the script of a tree; `rows` returns the rows of a node
abbrev pub tree_script : {Row : Type 0} → Frame → (Row → List ℕ) → (Tree → List Row) → Tree → List ℕ
tree_script frame row_text rows tree =
    script_text frame row_text (full_name tree.node) (path_tables frame.separator rows tree)
