-- The tables in an Elvish script. They come after the bare words `completions`, `=` and `[`, and
-- end before `]`. A table is `&'key'=`, `{`, rows and `}`. A row is `cand`, a bare word and a
-- quoted text. The rest of the script is not read.
use Rattle.std.specs.Prelude.{ℕ, List, [], ◌∷◌, ◌++◌, ◌&&◌, if◌then◌else◌, Option, None, bytes_eq, codes}
use Rattle.cc_command.specs.Tree.{Tree}
use Rattle.cc_generator.specs.Generators.{ShellSpec}
use Rattle.cc_quote.specs.ElvishTokens.{elvish_tokens}
use Rattle.cc_quote.specs.QuotedWord.{line_feeds_as_spaces}
use Rattle.cc_quote.specs.Tokens.{Token, after_words}
use Rattle.cc_quote.specs.Tokens.Piece.{bare, quoted}
use Rattle.cc_tables.specs.ElvishScript.{Row, elvish_script, offer_row}
use Rattle.cc_tables.specs.TableReader.{Part, ReadsTables, Spelling, Step, read}
use Rattle.cc_tables.specs.TableReader.Part.{word, argument, key, unknown}
use Rattle.cc_tables.specs.TableReader.State.{between_tables}
use Rattle.cc_tables.specs.TableReader.Step.{goes_on, ends_row, ends_table, fails}
use Rattle.cc_tables.specs.Tables.{Table, tree_tables}
use Rattle.cc_tables.specs.declared.offers.Offer.{Offer}

-- the meaning of a token: one piece is a word or a text, and a key is between `&` and `=`
unfoldable pub part : Token → Part (List ℕ)
part (bare run ∷ []) = word run
part (quoted _ text ∷ []) = argument text
part (bare before ∷ quoted _ text ∷ bare after ∷ []) =
    if bytes_eq before (codes "&") && bytes_eq after (codes "=") then key text else unknown
part _ = unknown

-- the state of the reader in a table: between two rows, after `cand`, or after the word of a row
pub data RowState : Type 0 where
  between_rows : RowState
  after_cand : RowState
  after_word : List ℕ → RowState

-- the effect of a part at a state
unfoldable pub step : RowState → Part (List ℕ) → Step RowState Row
step between_rows (word run) =
    if bytes_eq run (codes "cand") then goes_on after_cand
    else (if bytes_eq run (codes "}") then ends_table else fails)
step after_cand (word run) = goes_on (after_word run)
step (after_word run) (argument text) = ends_row (record { word = run; text = text })
step _ _ = fails

unfoldable pub spelling : Spelling (List ℕ) RowState Row
spelling = record { part = part; between_rows = between_rows; step = step; last_word = codes "]" }

-- the bare words before the tables
unfoldable pub tables_begin : List (List ℕ)
tables_begin = codes "completions" ∷ codes "=" ∷ codes "[" ∷ []

-- the tables of a script; `None` if it is malformed
unfoldable pub elvish_tables : List ℕ → Option (List (Table Row))
elvish_tables script =
    read spelling (between_tables []) (after_words tables_begin (elvish_tokens script))

-- the row of an offer as it is read, with a space for each line feed of its text
abbrev pub offer_read : Offer → Row
offer_read offer = record (offer_row offer) { text = line_feeds_as_spaces (offer_row offer).text }

-- the script of a tree reads back to the tree's tables
abbrev pub ElvishReads : Tree → Type 0
ElvishReads tree =
    ReadsTables (elvish_tables (elvish_script tree)) (tree_tables offer_read tree) tree

-- the specification of the scripts
abbrev pub elvish_spec : ShellSpec
elvish_spec = record {
  script = λ tree. elvish_script tree;
  Reads = λ tree. ElvishReads tree;
  clash = λ tree. None;
  file = λ name. name ++ codes ".elv";
}
