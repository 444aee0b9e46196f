-- The blocks in a Nushell script, which is read line by line. A line `  export extern "key" [`
-- opens a block. The lines after it, up to a line `  ]`, are the records of the block. Other lines
-- between blocks are not read.
use Rattle.std.specs.Prelude.{ℕ, List, [], ◌∷◌, ◌++◌, ◌==◌, ◌||◌, Bool, Option, Some, None, if◌then◌else◌, bytes_eq, codes, is_some, map, option_map}
use Rattle.cc_command.specs.Tree.{Tree}
use Rattle.cc_base.specs.Bytes.{line_feed, space, colon}
use Rattle.cc_base.specs.Found.{after, after_mark, before_ending, pieces_from}
use Rattle.cc_generator.specs.Generators.{ShellSpec}
use Rattle.cc_quote.specs.QuotedWord.{line_feeds_as_spaces}
use Rattle.cc_tables.specs.NushellScript.{Line, node_lines, nushell_script}
use Rattle.cc_tables.specs.TableReader.{ReadsTables}
use Rattle.cc_tables.specs.Tables.{Table, path_tables}

-- ---- a line

-- a colon or a space ends a name
abbrev pub ends_name : ℕ → Bool
ends_name byte = byte == colon || byte == space

-- the name with which a text begins, and the text after it
unfoldable pub name_of : List ℕ → List ℕ
name_of [] = []
name_of (byte ∷ bytes) = if ends_name byte then [] else byte ∷ name_of bytes

unfoldable pub after_name : List ℕ → List ℕ
after_name [] = []
after_name (byte ∷ bytes) = if ends_name byte then byte ∷ bytes else after_name bytes

-- the record of a line without the spaces at its start: its name, whether `: string` follows, and
-- the text after the first ` # `
unfoldable pub record_of : List ℕ → Line
record_of text = record {
  name = name_of text;
  takes_value = is_some (after (codes ": string") (after_name text));
  help = after_mark (codes " # ") text;
}

-- the meaning of a line: it opens the block of a key, closes a block, is a record, or has no
-- meaning
pub data Sign : Type 0 where
  opens : List ℕ → Sign
  closes : Sign
  holds : Line → Sign
  other : Sign

-- a line that does not end a block is a record if it begins with four spaces
unfoldable pub in_block_sign : List ℕ → Sign
in_block_sign text = elim (after (codes "    ") text) [
  | Some content ↦ holds (record_of content)
  | None ↦ other
]

unfoldable pub key_sign : List ℕ → Sign
key_sign text = elim (before_ending (codes "\" [") text) [ Some key ↦ opens key | None ↦ other ]

unfoldable pub sign : List ℕ → Sign
sign text = elim (after (codes "  export extern \"") text) [
  | Some rest ↦ key_sign rest
  | None ↦ if bytes_eq text (codes "  ]") then closes else in_block_sign text
]

-- ---- a script

-- the state of the reader, with the blocks that it has read; in a block, with the part of it that
-- has been read
pub data State : Type 0 where
  between : List (Table Line) → State
  in_block : List (Table Line) → Table Line → State
  malformed : State

-- the state after a line; in a block each line is a record or closes it
unfoldable pub next : State → Sign → State
next (between blocks) (opens key) = in_block blocks (record { key = key; rows = [] })
next (between blocks) _ = between blocks
next (in_block blocks block) (holds line) =
    in_block blocks (record block { rows = block.rows ++ line ∷ [] })
next (in_block blocks block) closes = between (blocks ++ block ∷ [])
next _ _ = malformed

-- the blocks, if each is closed
unfoldable pub closed : State → Option (List (Table Line))
closed (between blocks) = Some blocks
closed _ = None

-- the blocks that are read from a state on
unfoldable pub read : State → List (List ℕ) → Option (List (Table Line))
read state [] = closed state
read state (line ∷ lines) = read (next state (sign line)) lines

-- the blocks of a script; `None` if it is malformed
unfoldable pub nushell_blocks : List ℕ → Option (List (Table Line))
nushell_blocks script = read (between []) (pieces_from line_feed [] script)

-- a line as it is read, with a space for each line feed of its help text
abbrev pub line_read : Line → Line
line_read line = record line { help = option_map line_feeds_as_spaces line.help }

-- the script of a tree reads back to the tree's blocks
abbrev pub NushellReads : Tree → Type 0
NushellReads tree =
    ReadsTables (nushell_blocks (nushell_script tree))
    (path_tables (codes " ") (λ tree. map line_read (node_lines tree)) tree) tree

-- the specification of the scripts
abbrev pub nushell_spec : ShellSpec
nushell_spec = record {
  script = λ tree. nushell_script tree;
  Reads = λ tree. NushellReads tree;
  clash = λ tree. None;
  file = λ name. name ++ codes ".nu";
}
