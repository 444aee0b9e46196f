-- A PowerShell script reads back to the tables from which it was written.
use Rattle.std.proofs.Common.{◌≡◌, not, IsTrue, ℕ, List, [], ◌∷◌, ◌++◌, map, Option, Some, codes, refl, ap, ◌∙◌, append_assoc}
use Rattle.std.specs.List.{AllByRecursion}
use Rattle.cc_base.specs.Bytes.{single_quote, line_feed}
use Rattle.cc_base.proofs.Lines.{IsLine, regroup_five, regroup_six}
use Rattle.cc_base.proofs.Lines.IsLine.{line}
use Rattle.cc_quote.specs.Tokens.{QuoteState, cut, is_word, strip_words, after_words}
use Rattle.cc_quote.specs.Tokens.Piece.{bare}
use Rattle.cc_quote.specs.Tokens.QuoteState.{between, in_quotes}
use Rattle.cc_quote.specs.Signs.{sign}
use Rattle.cc_quote.specs.PowershellQuote.{sign_before, powershell_signs, powershell_escaped}
use Rattle.cc_quote.specs.PowershellTokens.{is_quote_first, powershell_tokens, IsUnquoted}
use Rattle.cc_quote.specs.QuotedWord.{line_feeds_as_spaces}
use Rattle.cc_quote.proofs.PowershellCutting.{quoted_text, escaped_text}
use Rattle.cc_tables.specs.PowershellReader.{if_quoted, part, kind_of, between_rows, after_word, after_kind, step, spelling, tables_begin, offer_read, powershell_tables, RowState}
use Rattle.cc_tables.specs.PowershellScript.{ResultKind, parameter_name, parameter_value, Row, details_text, kind_begin, kind_text, list_begin, offer_row, offer_text, powershell_frame, powershell_named, row_begin, row_end, row_text, text_begin, words_text}
use Rattle.cc_tables.specs.Script.{head_text, script_text}
use Rattle.cc_tables.specs.TableReader.{State, between_tables, in_table, after_step, next, tables_of, read}
use Rattle.cc_tables.specs.Tables.{Table}
use Rattle.cc_tables.specs.declared.offers.Offer.{Offer}
use Rattle.cc_tables.proofs.PlainTables.{IsReadable, table_read}
use Rattle.cc_tables.proofs.ScriptReadsBack.{named_head, script_reads}

-- a row as it is read, with a space for each line feed of its text
abbrev spaced_row : Row → Row
spaced_row row = record row { text = line_feeds_as_spaces row.text }

-- the word and the list text have no quotes; the other text may be any text
pub record IsPowershellRow (row : Row) : Type 0 where
  pub word : IsUnquoted row.word
  pub list : IsUnquoted row.list

-- what the reader reads from a state on, if the script is cut from a quote state on
abbrev reading : State RowState Row → QuoteState → List ℕ → Option (List (Table Row))
reading state quote script = read spelling state (cut quote (powershell_signs script))

-- within a table, with the rows so far
abbrev in_rows : List (Table Row) → List ℕ → List Row → List ℕ → Option (List (Table Row))
in_rows tables name rows script = reading (in_table tables (record { key = name; rows = rows }) between_rows) between script

-- within the row of a table that has a key and rows so far
abbrev in_row : List (Table Row) → List ℕ → List Row → RowState → State RowState Row
in_row tables name rows state = in_table tables (record { key = name; rows = rows }) state

-- a row is read up to its word, and the list text is still open
words_read : (tables : List (Table Row)) (name : List ℕ) (rows : List Row) (row : Row) (rest : List ℕ) → IsPowershellRow row
    → in_rows tables name rows (words_text row ++ rest) ≡ reading (in_row tables name rows (after_word row.word)) (in_quotes [] (single_quote ∷ []) row.list) rest
unfolding words_text row_begin list_begin sign sign_before powershell_signs cut if_quoted part step spelling after_step next read
words_read tables name rows row rest h =
    ap (in_rows tables name rows) (regroup_five row_begin row.word list_begin row.list rest)
    ∙ ap (read spelling (in_row tables name rows between_rows)) (quoted_text row.word (list_begin ++ (row.list ++ rest)) (bare (codes "[CompletionResult]::new(") ∷ []) (single_quote ∷ []) [] h.word)
    ∙ ap (read spelling (in_row tables name rows (after_word row.word))) (quoted_text row.list rest [] (single_quote ∷ []) [] h.list)

-- the row is read up to its kind
kind_reads : (tables : List (Table Row)) (name : List ℕ) (rows : List Row) (word list : List ℕ) (kind : ResultKind) (rest : List ℕ)
    → reading (in_row tables name rows (after_word word)) (in_quotes [] (single_quote ∷ []) list) (kind_begin ++ (kind_text kind ++ (text_begin ++ rest)))
    ≡ reading (in_row tables name rows (after_kind word list kind)) (in_quotes [] (single_quote ∷ []) []) rest
unfolding kind_begin kind_text text_begin sign sign_before powershell_signs cut if_quoted part kind_of step spelling after_step next read
kind_reads tables name rows word list parameter_name rest = refl
kind_reads tables name rows word list parameter_value rest = refl

-- a line feed ends the token that closes a row
row_closes : (tables : List (Table Row)) (name : List ℕ) (rows : List Row) (row : Row) (rest : List ℕ) → IsLine rest
    → reading (in_row tables name rows (after_kind row.word row.list row.kind)) (in_quotes [] (single_quote ∷ []) row.text) (row_end ++ rest) ≡ in_rows tables name (rows ++ row ∷ []) rest
unfolding row_end sign sign_before powershell_signs cut if_quoted part step spelling after_step next read
row_closes tables name rows row rest (line tail) = refl

row_reads : (tables : List (Table Row)) (name : List ℕ) (rows : List Row) (row : Row) (rest : List ℕ) → IsPowershellRow row → IsLine rest
    → in_rows tables name rows (row_text row ++ rest) ≡ in_rows tables name (rows ++ spaced_row row ∷ []) rest
unfolding row_text details_text row_end
row_reads tables name rows row rest h l =
    let closed : List ℕ = row_end ++ rest in
    ap (in_rows tables name rows) (append_assoc (words_text row) (details_text row) rest)
    ∙ words_read tables name rows row (details_text row ++ rest) h
    ∙ ap (reading (in_row tables name rows (after_word row.word)) (in_quotes [] (single_quote ∷ []) row.list))
    (regroup_six kind_begin (kind_text row.kind) text_begin (powershell_escaped row.text) row_end rest)
    ∙ kind_reads tables name rows row.word row.list row.kind (powershell_escaped row.text ++ closed)
    ∙ ap (read spelling (in_row tables name rows (after_kind row.word row.list row.kind))) (escaped_text row.text (codes ")" ++ rest) [] (single_quote ∷ []) [])
    ∙ row_closes tables name rows (spaced_row row) rest l

row_line : (row : Row) (rest : List ℕ) → IsLine (row_text row ++ rest)
unfolding row_text words_text row_begin
row_line row rest = line _

abbrev in_tables : List (Table Row) → List ℕ → Option (List (Table Row))
in_tables tables script = reading (between_tables tables) between script

-- a key opens the rows of its table
key_reads : (tables : List (Table Row)) (name rest : List ℕ) → IsUnquoted name → IsLine rest
    → in_tables tables (powershell_frame.key_begin ++ (name ++ (powershell_frame.key_end ++ rest))) ≡ in_rows tables name [] rest
unfolding powershell_frame sign sign_before powershell_signs cut if_quoted part spelling next read
key_reads tables name rest h (line tail) =
    ap (read spelling (between_tables tables)) (quoted_text name (codes "' {" ++ line_feed ∷ tail) [] (single_quote ∷ []) [] h)

-- a line feed ends the token that closes the rows
end_reads : (tables : List (Table Row)) (name : List ℕ) (rows : List Row) (rest : List ℕ) → IsLine rest
    → in_rows tables name rows (powershell_frame.table_end ++ rest) ≡ in_tables (tables ++ record { key = name; rows = rows } ∷ []) rest
unfolding powershell_frame sign sign_before powershell_signs cut part step spelling after_step next read
end_reads tables name rows rest (line tail) = refl

-- the list of tables ends after the last table
tail_reads : (tables : List (Table Row)) → in_tables tables powershell_frame.tail ≡ Some tables
unfolding powershell_frame sign sign_before powershell_signs cut if_quoted part spelling next tables_of read
tail_reads tables = refl

-- before its tables a script holds the three words once, at the end
head_reads : (bin rest : List ℕ) → IsUnquoted bin → IsLine rest → after_words tables_begin (powershell_tokens (head_text powershell_frame bin ++ rest)) ≡ cut between (powershell_signs rest)
unfolding powershell_frame powershell_named is_word strip_words after_words sign sign_before powershell_signs cut powershell_tokens tables_begin
head_reads bin rest h (line tail) =
    let last : List ℕ = bin ++ (powershell_named.completions ++ rest) in
    ap (λ text. after_words tables_begin (powershell_tokens text)) (named_head powershell_frame powershell_named bin rest refl)
    ∙ ap (after_words tables_begin) (quoted_text bin (powershell_named.between ++ last) [] (single_quote ∷ []) [] h)
    ∙ ap (after_words tables_begin) (quoted_text bin (powershell_named.completions ++ rest) [] (single_quote ∷ []) [] h)

-- a script reads back to its tables, with a space for each line feed of a text, if no key, word or
-- list text has a quote
pub powershell_reads_back : (bin : List ℕ) (tables : List (Table Offer)) → IsUnquoted bin
    → AllByRecursion (IsReadable (λ byte. IsTrue (not (is_quote_first byte))) (λ offer. IsPowershellRow (offer_row offer))) tables
    → powershell_tables (script_text powershell_frame offer_text bin tables) ≡ Some (map (table_read offer_read) tables)
unfolding powershell_tables powershell_frame offer_text
powershell_reads_back bin tables h k =
    script_reads powershell_frame offer_text offer_read (λ byte. IsTrue (not (is_quote_first byte))) (λ offer. IsPowershellRow (offer_row offer)) IsLine in_tables in_rows
    (λ rest. line _) (λ offer. row_line (offer_row offer)) (λ rest. line _) (line _)
    key_reads (λ tables key rows offer rest. row_reads tables key rows (offer_row offer) rest) end_reads tail_reads
    powershell_tables bin tables (λ rest l. ap (read spelling (between_tables [])) (head_reads bin rest h l)) k
