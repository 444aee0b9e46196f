-- The Elvish script of a plain tree reads back to the tree's tables.
use Rattle.std.proofs.Common.{◌≢◌, ◌==◌, not, ℕ, IsTrue, codes, refl, arith, ◌≡◌, List, [], ◌∷◌, ◌++◌, map, Option, Some, ap, ◌∙◌}
use Rattle.std.proofs.lemmas.Bool.Decides.{nat_tests}
use Rattle.std.specs.List.{AllByRecursion}
use Rattle.cc_base.proofs.Members.{AllByRecursion-weaker}
use Rattle.cc_command.specs.Names.{full_name}
use Rattle.cc_command.specs.Plain.{is_plain_tree}
use Rattle.cc_base.specs.PlainName.{name_byte, foreign}
use Rattle.cc_base.proofs.NameBytes.{letter_or_joiner}
use Rattle.cc_command.specs.Tree.{Tree}
use Rattle.cc_command.proofs.PlainParts.{plain_full_name}
use Rattle.cc_base.specs.Bytes.{single_quote, line_feed}
use Rattle.cc_quote.specs.ElvishTokens.{is_bare, IsBareWord, elvish_tokens, IsBare}
use Rattle.cc_base.proofs.Lines.{IsLine, regroup_six}
use Rattle.cc_base.proofs.Lines.IsLine.{line}
use Rattle.cc_quote.specs.Tokens.{QuoteState, cut, is_word, strip_words, after_words}
use Rattle.cc_quote.specs.Tokens.Piece.{bare}
use Rattle.cc_quote.specs.Tokens.QuoteState.{between}
use Rattle.cc_quote.specs.Signs.{sign, HasNoQuote}
use Rattle.cc_quote.specs.ElvishQuote.{elvish_escaped}
use Rattle.cc_quote.specs.QuotedWord.{line_feeds_as_spaces}
use Rattle.cc_quote.proofs.ElvishCutting.{bare_run, bare_word, quoted_text, escaped_text, HasNoQuote-IsBare}
use Rattle.cc_tables.specs.ElvishReader.{elvish_tables, ElvishReads, offer_read, part, between_rows, after_cand, after_word, step, spelling, tables_begin, RowState}
use Rattle.cc_tables.specs.ElvishScript.{elvish_frame, offer_text, Row, elvish_named, offer_row, row_begin, row_end, row_text, text_begin}
use Rattle.cc_tables.specs.Offers.{node_offers, word}
use Rattle.cc_tables.specs.Script.{script_text, head_text}
use Rattle.cc_tables.specs.Tables.{path_tables, Table}
use Rattle.cc_tables.specs.declared.offers.Offer.{Offer}
use Rattle.cc_tables.specs.TableReader.{State, between_tables, in_table, after_step, next, tables_of, read}
use Rattle.cc_tables.proofs.PlainOffers.{IsPlainOffer}
use Rattle.cc_tables.proofs.PlainTables.{of_plain_name, reads_offers, IsReadable, table_read}
use Rattle.cc_tables.proofs.ScriptReadsBack.{named_head, script_reads}

-- what the reader reads from a state on, if the script is cut from a quote state on
abbrev reading : State RowState Row → QuoteState → List ℕ → Option (List (Table Row))
reading state quote script = read spelling state (cut quote (map sign script))

-- within a table, with the rows so far
abbrev in_rows : List (Table Row) → List ℕ → List Row → List ℕ → Option (List (Table Row))
in_rows tables name rows script = reading (in_table tables (record { key = name; rows = rows }) between_rows) between script

-- a row is read as its word and its text
row_reads : (tables : List (Table Row)) (name : List ℕ) (rows : List Row) (row : Row) (rest : List ℕ) → IsBareWord row.word → IsLine rest
    → in_rows tables name rows (row_text row ++ rest) ≡ in_rows tables name (rows ++ record row { text = line_feeds_as_spaces row.text } ∷ []) rest
unfolding row_text row_begin text_begin row_end sign cut part step spelling after_step next read
row_reads tables name rows row rest h (line tail) =
    let table : Table Row = record { key = name; rows = rows } in
    ap (in_rows tables name rows) (regroup_six row_begin row.word text_begin (elvish_escaped row.text) row_end rest)
    ∙ ap (read spelling (in_table tables table after_cand)) (bare_word row.word (text_begin ++ (elvish_escaped row.text ++ (row_end ++ rest))) h)
    ∙ ap (read spelling (in_table tables table (after_word row.word))) (escaped_text row.text (row_end ++ rest) [] (single_quote ∷ []) [])

row_line : (row : Row) (rest : List ℕ) → IsLine (row_text row ++ rest)
unfolding row_text row_begin
row_line row rest = line _

abbrev in_tables : List (Table Row) → List ℕ → Option (List (Table Row))
in_tables tables script = reading (between_tables tables) between script

-- a key opens the rows of its table
key_reads : (tables : List (Table Row)) (name rest : List ℕ) → HasNoQuote name → IsLine rest
    → in_tables tables (elvish_frame.key_begin ++ (name ++ (elvish_frame.key_end ++ rest))) ≡ in_rows tables name [] rest
unfolding elvish_frame sign cut part spelling next read
key_reads tables name rest h (line tail) =
    ap (read spelling (between_tables tables)) (quoted_text name (codes "'= {" ++ line_feed ∷ tail) (bare (codes "&") ∷ []) (single_quote ∷ []) [] h)

-- a line feed ends the token that closes the rows
end_reads : (tables : List (Table Row)) (name : List ℕ) (rows : List Row) (rest : List ℕ) → IsLine rest
    → in_rows tables name rows (elvish_frame.table_end ++ rest) ≡ in_tables (tables ++ record { key = name; rows = rows } ∷ []) rest
unfolding elvish_frame sign cut part step spelling after_step next read
end_reads tables name rows rest (line tail) = refl

-- the list of tables ends after the last table
tail_reads : (tables : List (Table Row)) → in_tables tables elvish_frame.tail ≡ Some tables
unfolding elvish_frame sign cut part spelling next tables_of read
tail_reads tables = refl

-- before its tables a script holds the three words once, at the end
head_reads : (bin rest : List ℕ) → IsBare bin → IsLine rest → after_words tables_begin (elvish_tokens (head_text elvish_frame bin ++ rest)) ≡ cut between (map sign rest)
unfolding elvish_frame elvish_named is_word strip_words after_words sign cut elvish_tokens tables_begin
head_reads bin rest h (line tail) =
    let last : List ℕ = bin ++ (elvish_named.completions ++ rest) in
    ap (λ text. after_words tables_begin (elvish_tokens text)) (named_head elvish_frame elvish_named bin rest refl)
    ∙ ap (after_words tables_begin) (bare_run bin (elvish_named.between ++ last) [] (codes "edit:completion:arg-completer[") h)
    ∙ ap (after_words tables_begin) (quoted_text bin (elvish_named.completions ++ rest) [] (single_quote ∷ []) [] (HasNoQuote-IsBare bin h))

-- a script reads back to its tables, with a space for each line feed of a text, if each word is
-- bare and no byte of a key is a quote
pub elvish_reads_back : (bin : List ℕ) (tables : List (Table Offer)) → IsBare bin
    → AllByRecursion (IsReadable (λ byte. IsTrue (not (byte == single_quote))) (λ offer. IsBareWord (word offer))) tables
    → elvish_tables (script_text elvish_frame offer_text bin tables) ≡ Some (map (table_read offer_read) tables)
unfolding elvish_tables elvish_frame offer_text
elvish_reads_back bin tables h k =
    script_reads elvish_frame offer_text offer_read (λ byte. IsTrue (not (byte == single_quote))) (λ offer. IsBareWord (word offer)) IsLine in_tables in_rows
    (λ rest. line _) (λ offer. row_line (offer_row offer)) (λ rest. line _) (line _)
    key_reads (λ tables key rows offer rest. row_reads tables key rows (offer_row offer) rest) end_reads tail_reads
    elvish_tables bin tables (λ rest l. ap (read spelling (between_tables [])) (head_reads bin rest h l)) k

-- a byte that may occur in a plain name is bare
bare_byte : (byte : ℕ) → name_byte byte ≢ foreign → IsTrue (is_bare byte)
unfolding is_bare
bare_byte byte h = let k = letter_or_joiner byte h in grind (arith, nat_tests)

-- a byte that may occur in a plain name is not a quote
no_quote_byte : (byte : ℕ) → name_byte byte ≢ foreign → IsTrue (not (byte == single_quote))
unfolding is_bare
no_quote_byte byte h = let bare = bare_byte byte h in grind (arith, nat_tests)

-- the word of a plain offer is bare
word_bare : (offer : Offer) → IsPlainOffer offer → IsBareWord (word offer)
word_bare offer h = (
  h.is_some,
  AllByRecursion-weaker (λ byte. name_byte byte ≢ foreign)
      (λ byte. IsTrue (is_bare byte)) bare_byte (word offer) h.bytes,
)

-- the script of a plain tree reads back to its tables
pub elvish_plain_reads : (tree : Tree) → IsTrue (is_plain_tree tree) → ElvishReads tree
unfolding elvish_frame
elvish_plain_reads tree h =
    let bin_name = full_name tree.node in
    reads_offers offer_read (λ byte. IsTrue (not (byte == single_quote))) (λ offer. IsBareWord (word offer)) no_quote_byte refl word_bare
    (λ tables. elvish_tables (script_text elvish_frame offer_text bin_name tables)) tree h
    (elvish_reads_back bin_name (path_tables (codes ";") node_offers tree) (of_plain_name (λ byte. IsTrue (is_bare byte)) bare_byte bin_name (plain_full_name tree h)))
