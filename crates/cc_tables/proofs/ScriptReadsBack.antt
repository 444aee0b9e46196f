-- A script reads back to the tables from which it was written, if its parts are read back.
use Rattle.std.proofs.Common.{◌≡◌, ℕ, List, [], ◌∷◌, ◌++◌, map, flat_map, Option, Some, ap, ◌∙◌, append_assoc}
use Rattle.std.specs.List.{AllByRecursion}
use Rattle.cc_base.proofs.Lines.{regroup_six}
use Rattle.cc_tables.specs.Script.{head_text, named_text, script_text, table_text}
use Rattle.cc_tables.specs.Tables.{Table}
use Rattle.cc_tables.specs.declared.tables.Frame.{Frame}
use Rattle.cc_tables.specs.declared.tables.Named.{Named}
use Rattle.cc_tables.proofs.PlainTables.{IsReadable, table_read}
use Rattle.cc_generator.proofs.ReadInTurn.{items_begin, items_read}

-- a head that names the program, and the text after it
pub named_head : (frame : Frame) (named : Named) (bin rest : List ℕ) → frame.named ≡ Some named
    → head_text frame bin ++ rest ≡ frame.head ++ (bin ++ (named.between ++ (bin ++ (named.completions ++ rest))))
unfolding head_text named_text
named_head frame named bin rest e = ap (λ given. frame.head ++ named_text given bin ++ rest) e ∙ simp append_assoc

-- The reading of a script with the given frame, from its tables on. `in_tables` is the reader
-- between two tables, with the tables before; `in_rows` is the reader within a table, with its key
-- and the rows before. `IsRest` holds for a text that may follow a part, and for each part with
-- such a text after it.
module _ {Item Row : Type 0} (frame : Frame) (row_text : Item → List ℕ) (as_read : Item → Row)
    (IsKeyByte : ℕ → Type 0) (IsRow : Item → Type 0) (IsRest : List ℕ → Type 0)
    (in_tables : List (Table Row) → List ℕ → Option (List (Table Row)))
    (in_rows : List (Table Row) → List ℕ → List Row → List ℕ → Option (List (Table Row)))
    (key_begins : (rest : List ℕ) → IsRest (frame.key_begin ++ rest))
    (row_begins : (row : Item) (rest : List ℕ) → IsRest (row_text row ++ rest))
    (end_begins : (rest : List ℕ) → IsRest (frame.table_end ++ rest))
    (tail_begins : IsRest frame.tail)
    (key_reads : (tables : List (Table Row)) (key rest : List ℕ) → AllByRecursion IsKeyByte key → IsRest rest
    → in_tables tables (frame.key_begin ++ (key ++ (frame.key_end ++ rest))) ≡ in_rows tables key [] rest)
    (row_reads : (tables : List (Table Row)) (key : List ℕ) (rows : List Row) (row : Item) (rest : List ℕ) → IsRow row → IsRest rest
    → in_rows tables key rows (row_text row ++ rest) ≡ in_rows tables key (rows ++ as_read row ∷ []) rest)
    (end_reads : (tables : List (Table Row)) (key : List ℕ) (rows : List Row) (rest : List ℕ) → IsRest rest
    → in_rows tables key rows (frame.table_end ++ rest) ≡ in_tables (tables ++ record { key = key; rows = rows } ∷ []) rest)
    (tail_reads : (tables : List (Table Row)) → in_tables tables frame.tail ≡ Some tables) where
  -- a table is read, its key first, then its rows
  table_reads : (tables : List (Table Row)) (table : Table Item) (rest : List ℕ) → IsReadable IsKeyByte IsRow table → IsRest rest
      → in_tables tables (table_text frame row_text table ++ rest) ≡ in_tables (tables ++ table_read as_read table ∷ []) rest
  unfolding table_text
  table_reads tables table rest h l =
      let closed : List ℕ = frame.table_end ++ rest in
      let closes : IsRest closed = end_begins rest in
      ap (in_tables tables) (regroup_six frame.key_begin table.key frame.key_end (flat_map row_text table.rows) frame.table_end rest)
      ∙ key_reads tables table.key (flat_map row_text table.rows ++ closed) h.key (items_begin IsRest row_text row_begins table.rows closed closes)
      ∙ items_read IsRest (in_rows tables table.key) row_text as_read IsRow row_begins (row_reads tables table.key) [] table.rows closed h.rows closes
      ∙ end_reads tables table.key (map as_read table.rows) rest l

  table_begins : (table : Table Item) (rest : List ℕ) → IsRest (table_text frame row_text table ++ rest)
  unfolding table_text
  table_begins table rest =
      rw (regroup_six frame.key_begin table.key frame.key_end (flat_map row_text table.rows) frame.table_end rest)
      (key_begins (table.key ++ (frame.key_end ++ (flat_map row_text table.rows ++ (frame.table_end ++ rest)))))

  -- the script is read back by a reader that passes over its head
  pub script_reads : (tables_of : List ℕ → Option (List (Table Row))) (bin : List ℕ) (tables : List (Table Item))
      → ((rest : List ℕ) → IsRest rest → tables_of (head_text frame bin ++ rest) ≡ in_tables [] rest)
      → AllByRecursion (IsReadable IsKeyByte IsRow) tables
      → tables_of (script_text frame row_text bin tables) ≡ Some (map (table_read as_read) tables)
  unfolding script_text
  script_reads tables_of bin tables head_reads h =
      let text : Table Item → List ℕ = table_text frame row_text in
      ap tables_of (append_assoc (head_text frame bin) (flat_map text tables) frame.tail)
      ∙ head_reads (flat_map text tables ++ frame.tail) (items_begin IsRest text table_begins tables frame.tail tail_begins)
      ∙ items_read IsRest in_tables text (table_read as_read) (IsReadable IsKeyByte IsRow) table_begins table_reads [] tables frame.tail h tail_begins
      ∙ tail_reads (map (table_read as_read) tables)
