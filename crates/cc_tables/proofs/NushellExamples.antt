-- Examples of a block and of a script, byte by byte.
use Rattle.std.proofs.Common.{◌≡◌, List, [], ◌∷◌, Some, None, true, false, codes, refl}
use Rattle.std.specs.Char.{encode_utf8}
use Rattle.cc_arg.specs.declared.action.ArgAction.TheVariants.{SetTrue}
use Rattle.cc_arg.specs.Arguments.{new_arg}
use Rattle.cc_command.specs.Made.{new_node}
use Rattle.cc_command.specs.Tree.{Tree, none, more}
use Rattle.cc_generator.specs.Visits.{tables_below}
use Rattle.cc_base.specs.Found.{after, before_ending, after_mark, cut_at, with_front}
use Rattle.cc_tables.specs.NushellReader.{after_name, closed, in_block_sign, key_sign, name_of, next, nushell_blocks, read, record_of, sign}
use Rattle.cc_tables.specs.NushellScript.{Line, content, help_begin, help_text, line_begin, line_text, node_lines, nushell_frame, type_text, value_text}
use Rattle.cc_tables.specs.Script.{head_text, named_text, script_text, table_text}
use Rattle.cc_tables.specs.Tables.{Table, path_tables}

-- a help text with a number sign, a bracket and a line feed, and an empty help text
abbrev given : List (Table Line)
given =
    record {
      key = codes "app";
      rows = record { name = codes "--out"; takes_value = true; help = None } ∷ record { name = codes "--x"; takes_value = false; help = Some (codes "a # b\n  ]") } ∷ [];
    }
    ∷ record { key = codes "app run"; rows = record { name = codes "-o"; takes_value = true; help = Some [] } ∷ [] }
    ∷ []

script : script_text nushell_frame line_text (codes "app") given
    ≡ codes "module completions {\n\n  export extern \"app\" [\n    --out: string\n    --x # a # b   ]\n  ]\n\n  export extern \"app run\" [\n    -o: string # \n  ]\n\n}\n\nexport use completions *\n"
unfolding nushell_frame named_text head_text line_begin value_text help_begin type_text help_text content line_text table_text script_text
script = refl

-- the same blocks as they are read
abbrev read_back : List (Table Line)
read_back =
    record {
      key = codes "app";
      rows = record { name = codes "--out"; takes_value = true; help = None } ∷ record { name = codes "--x"; takes_value = false; help = Some (codes "a # b   ]") } ∷ [];
    }
    ∷ record { key = codes "app run"; rows = record { name = codes "-o"; takes_value = true; help = Some [] } ∷ [] }
    ∷ []

-- the script reads back to them
two_blocks : nushell_blocks (script_text nushell_frame line_text (codes "app") given) ≡ Some read_back
unfolding nushell_frame named_text head_text line_begin value_text help_begin type_text help_text content line_text table_text script_text after before_ending after_mark cut_at with_front name_of after_name record_of in_block_sign key_sign sign next closed read nushell_blocks
two_blocks = refl

-- a block that is not closed, and one with a line that is not a record
malformed : (nushell_blocks (codes "  export extern \"app\" [\n    --x\n") ≡ None)
    × (nushell_blocks (codes "  export extern \"app\" [\n  --x\n  ]\n") ≡ None)
unfolding after before_ending after_mark cut_at with_front name_of after_name record_of in_block_sign key_sign sign next closed read nushell_blocks
malformed = (refl, refl)

-- `app` with a flag that has a help text, and a child `run`, whose visible alias is `r` and which
-- has an option
abbrev app : Tree
app = record {
  node = record (new_node (codes "app")) {
    arguments = record (new_arg (codes "verbose")) { short = Some 118; long = Some (codes "verbose"); action = Some SetTrue; help = Some (codes "Be loud") } ∷ [];
  };
  children = more (record (new_node (codes "run")) {
    visible_aliases = codes "r" ∷ [];
    arguments = record (new_arg (codes "out")) { long = Some (codes "out") } ∷ [];
  }) none none;
}

-- the blocks of that tree are under its visible paths
app_blocks : path_tables (codes " ") node_lines app
    ≡ record {
      key = codes "app";
      rows = record { name = codes "-v"; takes_value = false; help = Some (codes "Be loud") } ∷ record { name = codes "--verbose"; takes_value = false; help = Some (codes "Be loud") } ∷ [];
    }
    ∷ record { key = codes "app run"; rows = record { name = codes "--out"; takes_value = true; help = None } ∷ [] }
    ∷ record { key = codes "app r"; rows = record { name = codes "--out"; takes_value = true; help = None } ∷ [] }
    ∷ []
unfolding encode_utf8 tables_below path_tables node_lines
app_blocks = refl
