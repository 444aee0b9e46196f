-- The tables in a PowerShell script. They come after the bare words `@(switch`, `($command)` and
-- `{`, and end before `})`. A table is a quoted key, `{`, rows, `break` and `}`. A row is a call
-- `[CompletionResult]::new(` with four arguments and `)`. Every quote is a `'`. The rest of the
-- script is not read.
use Rattle.std.specs.Prelude.{ℕ, Bool, IsTrue, List, [], ◌∷◌, ◌++◌, ◌&&◌, if◌then◌else◌, drop, encode_utf8, Option, Some, None, option_map, unwrap_or, bytes_eq, codes}
use Rattle.cc_command.specs.Escaped.{is_escaped_tree, quote_at}
use Rattle.cc_command.specs.Tree.{Tree}
use Rattle.cc_generator.specs.Generators.{ShellSpec}
use Rattle.cc_quote.specs.PowershellQuote.{begins_right_quote, sign_before}
use Rattle.cc_quote.specs.PowershellTokens.{powershell_tokens}
use Rattle.cc_quote.specs.QuotedWord.{line_feeds_as_spaces}
use Rattle.cc_quote.specs.Signs.{Sign, quote}
use Rattle.cc_quote.specs.Tokens.{Token, after_words, cut}
use Rattle.cc_quote.specs.Tokens.Piece.{bare, quoted}
use Rattle.cc_quote.specs.Tokens.QuoteState.{between}
use Rattle.cc_tables.specs.PowershellScript.{ResultKind, parameter_name, parameter_value, Row, offer_row, powershell_script}
use Rattle.cc_tables.specs.TableReader.{Part, ReadsTables, Spelling, Step, read}
use Rattle.cc_tables.specs.TableReader.Part.{word, argument, key, unknown}
use Rattle.cc_tables.specs.TableReader.State.{between_tables}
use Rattle.cc_tables.specs.TableReader.Step.{goes_on, ends_row, ends_table, fails}
use Rattle.cc_tables.specs.Tables.{Table, tree_tables}
use Rattle.cc_tables.specs.declared.offers.Offer.{Offer}

-- a quoted argument of the call: the first one, one before others, or the last one
pub data Argument : Type 0 where
  first : List ℕ → Argument
  further : List ℕ → Argument
  last : List ℕ → Argument

-- a part, if its quotes are `'`
unfoldable pub if_quoted : List ℕ → Part Argument → Part Argument
if_quoted opening part = if bytes_eq opening (codes "'") then part else unknown

-- the meaning of a token: a key is alone; the first argument is between the name of the call and
-- `,`, a further one before `,`, and the last one before `)`
unfoldable pub part : Token → Part Argument
part (bare run ∷ []) = word run
part (quoted opening text ∷ []) = if_quoted opening (key text)
part (bare before ∷ quoted opening text ∷ bare after ∷ []) =
    if bytes_eq before (codes "[CompletionResult]::new(") && bytes_eq after (codes ",")
    then if_quoted opening (argument (first text))
    else unknown
part (quoted opening text ∷ bare after ∷ []) =
    if bytes_eq after (codes ",") then if_quoted opening (argument (further text))
    else (if bytes_eq after (codes ")") then if_quoted opening (argument (last text)) else unknown)
part _ = unknown

-- the kind that an argument names
unfoldable pub kind_of : List ℕ → Option ResultKind
kind_of run =
    if bytes_eq run (codes "[CompletionResultType]::ParameterName,") then Some parameter_name
    else (if bytes_eq run (codes "[CompletionResultType]::ParameterValue,")
    then Some parameter_value else None)

-- the state of the reader in a table: between two rows, after the word, the list text or the kind
-- of a row, or after `break`
pub data RowState : Type 0 where
  between_rows : RowState
  after_word : List ℕ → RowState
  after_list : List ℕ → List ℕ → RowState
  after_kind : List ℕ → List ℕ → ResultKind → RowState
  after_break : RowState

-- the effect of a part at a state
unfoldable pub step : RowState → Part Argument → Step RowState Row
step between_rows (argument (first run)) = goes_on (after_word run)
step between_rows (word run) = if bytes_eq run (codes "break") then goes_on after_break else fails
step (after_word run) (argument (further list)) = goes_on (after_list run list)
step (after_list run list) (word name) =
    unwrap_or (option_map (λ kind. goes_on (after_kind run list kind)) (kind_of name)) fails
step (after_kind run list kind) (argument (last text)) =
    ends_row (record { word = run; list = list; kind = kind; text = text })
step after_break (word run) = if bytes_eq run (codes "}") then ends_table else fails
step _ _ = fails

unfoldable pub spelling : Spelling Argument RowState Row
spelling = record { part = part; between_rows = between_rows; step = step; last_word = codes "})" }

-- the bare words before the tables
unfoldable pub tables_begin : List (List ℕ)
tables_begin = codes "@(switch" ∷ codes "($command)" ∷ codes "{" ∷ []

-- the tables of a script; `None` if it is malformed
unfoldable pub powershell_tables : List ℕ → Option (List (Table Row))
powershell_tables script =
    read spelling (between_tables []) (after_words tables_begin (powershell_tokens script))

-- the row of an offer as it is read, with a space for each line feed of its text
abbrev pub offer_read : Offer → Row
offer_read offer = record (offer_row offer) { text = line_feeds_as_spaces (offer_row offer).text }

-- ---- with all quotes of PowerShell

-- In addition to `'` and U+2019, PowerShell takes U+2018, U+201A and U+201B as quotes. Each of them
-- closes what any other opened.

-- the signs of a byte and of the text after it; if the byte begins one of the three further quotes,
-- the next two bytes belong to it
abbrev pub sign_with : Option ℕ → Bool → ℕ → List Sign → List Sign
sign_with (Some character) right byte signs = quote (encode_utf8 character) ∷ drop 2 signs
sign_with None right byte signs = sign_before right byte signs

-- the signs of a text
abbrev pub all_signs : List ℕ → List Sign
all_signs [] = []
all_signs (byte ∷ rest) =
    sign_with (quote_at byte rest) (begins_right_quote byte rest) byte (all_signs rest)

-- the tokens of a script
abbrev pub all_tokens : List ℕ → List Token
all_tokens script = cut between (all_signs script)

-- the tables of a script; `None` if it is malformed
abbrev pub all_tables : List ℕ → Option (List (Table Row))
all_tables script =
    read spelling (between_tables []) (after_words tables_begin (all_tokens script))

-- the script of a tree reads back to the tree's tables, for a reader that knows all quotes
unfoldable pub ReadsByAllQuotes : Tree → Type 0
ReadsByAllQuotes tree =
    ReadsTables (all_tables (powershell_script tree)) (tree_tables offer_read tree) tree

-- The script of a tree reads back to the tree's tables. If no text has one of the three further
-- quotes, it also reads back for a reader that takes them as quotes.
pub record PowershellReads (tree : Tree) : Type 0 where
  pub reads : ReadsTables (powershell_tables (powershell_script tree))
      (tree_tables offer_read tree) tree
  pub all_quotes : IsTrue (is_escaped_tree tree) → ReadsByAllQuotes tree

-- the specification of the scripts
abbrev pub powershell_spec : ShellSpec
powershell_spec = record {
  script = λ tree. powershell_script tree;
  Reads = λ tree. PowershellReads tree;
  clash = λ tree. None;
  file = λ name. codes "_" ++ name ++ codes ".ps1";
}
