-- Examples of rows, tables and scripts, byte by byte.
use Rattle.std.proofs.Common.{◌≡◌, List, [], ◌∷◌, Some, None, codes, map, refl}
use Rattle.std.specs.Char.{encode_utf8}
use Rattle.cc_arg.specs.declared.action.ArgAction.TheVariants.{SetTrue}
use Rattle.cc_arg.specs.Arguments.{new_arg}
use Rattle.cc_command.specs.Made.{new_node}
use Rattle.cc_command.specs.Tree.{Tree, none, more}
use Rattle.cc_quote.specs.Signs.{sign}
use Rattle.cc_quote.specs.Tokens.{cut, is_word, strip_words, after_words}
use Rattle.cc_quote.specs.ElvishTokens.{elvish_tokens}
use Rattle.cc_generator.specs.Visits.{tables_below}
use Rattle.cc_tables.specs.ElvishReader.{part, step, spelling, tables_begin, elvish_tables}
use Rattle.cc_tables.specs.ElvishScript.{Row, elvish_frame, elvish_named, offer_row, row_begin, row_end, row_text, text_begin}
use Rattle.cc_tables.specs.Offers.{node_offers}
use Rattle.cc_tables.specs.Script.{head_text, named_text, script_text, table_text}
use Rattle.cc_tables.specs.TableReader.{after_step, next, tables_of, read}
use Rattle.cc_tables.specs.Tables.{Table, path_tables, tree_tables}

texts :
    -- a row
    (row_text (record { word = codes "c"; text = codes "it's\n[x]:\\" }) ≡ codes "\n            cand c 'it''s [x]:\\'")
    -- a table without rows
    × (table_text elvish_frame row_text (record { key = codes "app"; rows = [] }) ≡ codes "\n        &'app'= {\n        }")
    -- a script without tables
    × (script_text elvish_frame row_text (codes "app") []
    ≡ codes "\nuse builtin;\nuse str;\n\nset edit:completion:arg-completer[app] = {|@words|\n    fn spaces {|n|\n        builtin:repeat $n ' ' | str:join ''\n    }\n    fn cand {|text desc|\n        edit:complex-candidate $text &display=$text' '(spaces (- 14 (wcswidth $text)))$desc\n    }\n    var command = 'app'\n    for word $words[1..-1] {\n        if (str:has-prefix $word '-') {\n            break\n        }\n        set command = $command';'$word\n    }\n    var completions = [\n    ]\n    $completions[$command]\n}\n")
unfolding row_begin text_begin row_end row_text elvish_frame table_text elvish_named named_text head_text script_text
texts = (refl, refl, refl)

-- a node with a flag, a positional, an option with an empty help text, and a child, each with an
-- alias, and some with a hidden alias
abbrev app : Tree
app = record {
  node = record (new_node (codes "app")) {
    arguments = record (new_arg (codes "quiet")) { short = Some 113; visible_short_aliases = 115 ∷ []; short_aliases = 120 ∷ []; action = Some SetTrue }
        ∷ new_arg (codes "file")
        ∷ record (new_arg (codes "level")) { long = Some (codes "level"); visible_aliases = codes "depth" ∷ []; help = Some [] }
        ∷ [];
  };
  children = more (record (new_node (codes "run")) { visible_aliases = codes "r" ∷ []; aliases = codes "go" ∷ []; about = Some (codes "Run it") }) none none;
}

-- its rows: those of the option, of the flag and of the child
app_rows : map offer_row (node_offers app)
    ≡ record { word = codes "--level"; text = [] }
    ∷ record { word = codes "--depth"; text = [] }
    ∷ record { word = codes "-q"; text = codes "q" }
    ∷ record { word = codes "-s"; text = codes "q" }
    ∷ record { word = codes "run"; text = codes "Run it" }
    ∷ record { word = codes "r"; text = codes "Run it" }
    ∷ []
unfolding encode_utf8 node_offers
app_rows = refl

-- `app` with a child `run`, whose visible alias is `r` and whose hidden alias is `go`, and which
-- has a child `job`
abbrev nested : Tree
nested = record {
  node = new_node (codes "app");
  children = more (record (new_node (codes "run")) { visible_aliases = codes "r" ∷ []; aliases = codes "go" ∷ [] })
      (more (new_node (codes "job")) none none) none;
}

-- the tables of that tree are under its visible paths
nested_keys : map (λ table. table.key) (tree_tables offer_row nested)
    ≡ codes "app" ∷ codes "app;run" ∷ codes "app;r" ∷ codes "app;run;job" ∷ codes "app;r;job" ∷ []
unfolding tables_below path_tables
nested_keys = refl

-- two tables as a program's help texts give them
abbrev given : List (Table Row)
given =
    record {
      key = codes "app";
      rows = record { word = codes "--out"; text = codes "out" } ∷ record { word = codes "-v"; text = codes "Be loud" } ∷ record { word = codes "run"; text = codes "It's\nfine" } ∷ [];
    }
    ∷ record { key = codes "app;run"; rows = record { word = codes "cand"; text = codes "'}" } ∷ [] }
    ∷ []

-- the same tables as they are read
abbrev read_back : List (Table Row)
read_back =
    record {
      key = codes "app";
      rows = record { word = codes "--out"; text = codes "out" } ∷ record { word = codes "-v"; text = codes "Be loud" } ∷ record { word = codes "run"; text = codes "It's fine" } ∷ [];
    }
    ∷ record { key = codes "app;run"; rows = record { word = codes "cand"; text = codes "'}" } ∷ [] }
    ∷ []

reads :
    -- a script with these tables reads back to them
    (elvish_tables (script_text elvish_frame row_text (codes "app") given) ≡ Some read_back)
    -- a program whose name is the word before the tables
    × (elvish_tables (script_text elvish_frame row_text (codes "completions") []) ≡ Some [])
unfolding is_word strip_words after_words sign cut elvish_tokens part step spelling after_step next tables_of read tables_begin elvish_tables elvish_named elvish_frame named_text head_text row_begin text_begin row_end row_text table_text script_text
reads = (refl, refl)

-- tables that are not closed, a description that is not quoted, and no tables at all
malformed : (elvish_tables (codes "completions = [ &'app'= { }") ≡ None)
    × (elvish_tables (codes "completions = [ &'app'= { cand -v loud } ]") ≡ None)
    × (elvish_tables (codes "completions = &'app'= { } ]") ≡ None)
unfolding is_word strip_words after_words sign cut elvish_tokens part step spelling after_step next tables_of read tables_begin elvish_tables
malformed = (refl, refl, refl)
