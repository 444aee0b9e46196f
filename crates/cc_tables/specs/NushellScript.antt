-- The text of a Nushell script.
use Rattle.std.specs.Prelude.{ℕ, List, ◌++◌, Bool, true, false, Option, Some, None, if◌then◌else◌, codes, flat_map, map, []}
use Rattle.cc_arg.specs.declared.parts.ArgParts.{ArgParts as Arg}
use Rattle.cc_command.specs.ArgumentLists.{options, flags}
use Rattle.cc_command.specs.Tree.{Tree}
use Rattle.cc_quote.specs.QuotedWord.{line_feeds_as_spaces}
use Rattle.cc_tables.specs.Offers.{argument_offers, word}
use Rattle.cc_tables.specs.Script.{tree_script}
use Rattle.cc_tables.specs.declared.offers.Offer.{Offer}
use Rattle.cc_tables.specs.declared.tables.Frame.{Frame}

-- a name of an option or a flag as a user types it, whether it takes a value, and its help text
pub record Line : Type 0 where
  pub name : List ℕ
  pub takes_value : Bool
  pub help : Option (List ℕ)

-- the line of an offer, for an option or for a flag
abbrev pub offer_line : Bool → Offer → Line
offer_line takes_value offer =
    record { name = word offer; takes_value = takes_value; help = offer.description }

-- the lines of arguments, one for each shown name
abbrev pub argument_lines : Bool → List Arg → List Line
argument_lines takes_value arguments =
    map (offer_line takes_value) (flat_map argument_offers arguments)

-- the lines at a node: of its options, then of its flags
unfoldable pub node_lines : Tree → List Line
node_lines tree = argument_lines true (options tree.node) ++ argument_lines false (flags tree.node)

-- the frame, and the texts around a key and around the lines of a block
unfoldable pub nushell_frame : Frame
nushell_frame = record {
  head = codes "module completions {\n\n";
  named = None;
  key_begin = codes "  export extern \"";
  key_end = codes "\" [\n";
  table_end = codes "  ]\n\n";
  separator = codes " ";
  tail = codes "}\n\nexport use completions *\n";
}

-- the text before the name of a line
unfoldable pub line_begin : List ℕ
line_begin = codes "    "

-- the text after the name of an option
unfoldable pub value_text : List ℕ
value_text = codes ": string"

-- the text before the help text
unfoldable pub help_begin : List ℕ
help_begin = codes " # "

-- the text after a name: only an option takes a value
unfoldable pub type_text : Bool → List ℕ
type_text takes_value = if takes_value then value_text else []

-- the help text, if there is one
unfoldable pub help_text : Option (List ℕ) → List ℕ
help_text (Some help) = help_begin ++ line_feeds_as_spaces help
help_text None = []

-- `name: string # help`, without the line feed at its end
unfoldable pub content : Line → List ℕ
content line = line_begin ++ line.name ++ type_text line.takes_value ++ help_text line.help

-- the text of a line
unfoldable pub line_text : Line → List ℕ
line_text line = content line ++ codes "\n"

-- the text of an offer's line
unfoldable pub offer_text : Bool → Offer → List ℕ
offer_text takes_value offer = line_text (offer_line takes_value offer)

-- the script of a tree
abbrev pub nushell_script : Tree → List ℕ
nushell_script tree = tree_script nushell_frame line_text node_lines tree
