-- The text of an Elvish script.
use Rattle.std.specs.Prelude.{ℕ, List, ◌++◌, Some, codes, unwrap_or}
use Rattle.cc_command.specs.Tree.{Tree}
use Rattle.cc_quote.specs.ElvishQuote.{elvish_escaped}
use Rattle.cc_tables.specs.Offers.{node_offers, word}
use Rattle.cc_tables.specs.Script.{tree_script}
use Rattle.cc_tables.specs.declared.offers.Offer.{Offer}
use Rattle.cc_tables.specs.declared.tables.Frame.{Frame}
use Rattle.cc_tables.specs.declared.tables.Named.{Named}

-- a word that is offered, and its description
pub record Row : Type 0 where
  pub word : List ℕ
  pub text : List ℕ

-- the row of an offer
abbrev pub offer_row : Offer → Row
offer_row offer = record { word = word offer; text = unwrap_or offer.description offer.fallback }

-- the texts around the two occurrences of the program's name
unfoldable pub elvish_named : Named
elvish_named = record {
  between = codes "] = {|@words|\n    fn spaces {|n|\n        builtin:repeat $n ' ' | str:join ''\n    }\n    fn cand {|text desc|\n        edit:complex-candidate $text &display=$text' '(spaces (- 14 (wcswidth $text)))$desc\n    }\n    var command = '";
  completions = codes "'\n    for word $words[1..-1] {\n        if (str:has-prefix $word '-') {\n            break\n        }\n        set command = $command';'$word\n    }\n    var completions = [";
}

-- the frame, and the texts around a key and around the rows of a table
unfoldable pub elvish_frame : Frame
elvish_frame = record {
  head = codes "\nuse builtin;\nuse str;\n\nset edit:completion:arg-completer[";
  named = Some elvish_named;
  key_begin = codes "\n        &'";
  key_end = codes "'= {";
  table_end = codes "\n        }";
  separator = codes ";";
  tail = codes "\n    ]\n    $completions[$command]\n}\n";
}

-- the text before the word of a row
unfoldable pub row_begin : List ℕ
row_begin = codes "\n            cand "

-- the text between the word and the description
unfoldable pub text_begin : List ℕ
text_begin = codes " '"

-- the text after the description
unfoldable pub row_end : List ℕ
row_end = codes "'"

-- `cand word 'text'`, on a line of its own
unfoldable pub row_text : Row → List ℕ
row_text row = row_begin ++ row.word ++ text_begin ++ elvish_escaped row.text ++ row_end

-- the text of an offer's row
unfoldable pub offer_text : Offer → List ℕ
offer_text offer = row_text (offer_row offer)

-- the script of a tree
abbrev pub elvish_script : Tree → List ℕ
elvish_script tree = tree_script elvish_frame offer_text node_offers tree
