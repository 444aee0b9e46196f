-- Examples of tables, walks and scripts of small trees.
use Rattle.std.proofs.Common.{◌≡◌, Bool, true, List, [], ◌∷◌, map, Some, None, codes, refl}
use Rattle.std.specs.Option.{option_map}
use Rattle.std.specs.Char.{encode_utf8}
use Rattle.std.specs.Fmt.{digits}
use Rattle.cc_arg.specs.Arguments.{new_arg}
use Rattle.cc_arg.specs.PossibleValues.{new_possible_value}
use Rattle.cc_arg.specs.declared.parts.ArgParts.{ArgParts as Arg}
use Rattle.cc_base.specs.Sorting.{insert, in_order}
use Rattle.cc_command.specs.Built.{built_under}
use Rattle.cc_command.specs.Generated.{help_argument, version_argument}
use Rattle.cc_command.specs.Made.{new_tree, with_argument, with_child}
use Rattle.cc_command.specs.Texts.{help_name, version_name}
use Rattle.cc_command.specs.Tree.{Tree, none, more}
use Rattle.cc_command.specs.declared.node.Node.{Node}
use Rattle.cc_quote.specs.PosixSigns.{sign, byte_of}
use Rattle.cc_quote.specs.PosixTokens.{cut, posix_tokens}
use Rattle.cc_quote.specs.Tokens.{is_word}
use Rattle.cc_bash.specs.Arms.{Arm, details_at, tree_arms, words_at, values, files, typed, nothing, filenames, plusdirs, nospace}
use Rattle.cc_bash.specs.CaseTable.{Case, run, tree_cases}
use Rattle.cc_bash.specs.Labels.{shared_label}
use Rattle.cc_command.specs.Quiet.{is_quiet_value}
use Rattle.cc_bash.specs.Reads.{arm_after, path_node_label}
use Rattle.cc_bash.specs.Walk.{all_path_nodes}
use Rattle.cc_bash.specs.Reader.{pattern_of, assigned, bare_text, double_text, is_root, is_empty_reply, is_typed_reply, is_compgen_reply, mode_named, case_by, next, closed_table, read, bash_table}
use Rattle.cc_bash.specs.Script.{case_text, offered_text, reply_text, mode_word, mode_text, moded_text, detail_text, arm_text, head_text, tail_text, script_text}
use Rattle.cc_bash.specs.Texts.{function_begins, function_head, cases_begin, arms_begin, arms_end, unsorted_options, otherwise, sorted_options, script_ends, case_begins, case_comma, case_sets, case_ends, arm_begins, arm_words, arm_level, arm_details, arm_ends, detail_begins, detail_word_ends, keep_separator, separator_back, reply_begins, reply_ends, values_begin, values_end, offer_files, offer_word, mode_begins, mode_ends, detail_ends}

-- `my-app` with the child `test`, and everything that building adds
abbrev my_app : Tree
my_app = built_under (Some (codes "my-app"))
    (with_child (new_tree (codes "my-app")) (new_tree (codes "test")))

of_my_app :
    (tree_cases my_app
    ≡ record { from = codes "my__app"; word = codes "help"; to = codes "my__app__subcmd__help" }
    ∷ record { from = codes "my__app"; word = codes "test"; to = codes "my__app__subcmd__test" }
    ∷ record {
      from = codes "my__app__subcmd__help";
      word = codes "help";
      to =
          codes "my__app__subcmd__help__subcmd__help";
    }
    ∷ record {
      from = codes "my__app__subcmd__help";
      word = codes "test";
      to =
          codes "my__app__subcmd__help__subcmd__test";
    }
    ∷ [])
    × (tree_arms my_app
    ≡ record {
      label = codes "my__app";
      level = codes "1";
      words =
          codes "-h" ∷ codes "--help" ∷ codes "test" ∷ codes "help" ∷ [];
      details = [];
    }
    ∷ record {
      label = codes "my__app__subcmd__help";
      level = codes "2";
      words =
          codes "test" ∷ codes "help" ∷ [];
      details = [];
    }
    ∷ record {
      label = codes "my__app__subcmd__help__subcmd__help";
      level = codes "3";
      words =
          [];
      details = [];
    }
    ∷ record {
      label = codes "my__app__subcmd__help__subcmd__test";
      level = codes "3";
      words =
          [];
      details = [];
    }
    ∷ record {
      label = codes "my__app__subcmd__test";
      level = codes "2";
      words =
          codes "-h" ∷ codes "--help" ∷ [];
      details = [];
    }
    ∷ [])
    -- words that are not names stay at the node
    × (run (tree_cases my_app) (codes "my__app")
    (codes "--flag" ∷ codes "test" ∷ codes "--" ∷ [])
    ≡ codes "my__app" ∷ codes "my__app" ∷ codes "my__app__subcmd__test"
    ∷ codes "my__app__subcmd__test" ∷ [])
    -- the labels of the nodes of `my-app`
    × (map (path_node_label my_app) (all_path_nodes my_app)
    ≡ codes "my__app" ∷ codes "my__app__subcmd__test" ∷ codes "my__app__subcmd__help"
    ∷ codes "my__app__subcmd__help__subcmd__test" ∷ codes "my__app__subcmd__help__subcmd__help"
    ∷ [])
    -- the arm at the label to which words lead has the third level
    × (option_map (λ arm. arm.level) (arm_after
    (Some (record { root = codes "my__app"; cases = tree_cases my_app; arms = tree_arms my_app }))
    (codes "--flag" ∷ codes "help" ∷ codes "test" ∷ []))
    ≡ Some (codes "3"))
    × (shared_label my_app ≡ None)
    -- `p` with `a-b`, and with `a`, which has the child `b`
    × (shared_label (built_under (Some (codes "p"))
    (with_child (with_child (new_tree (codes "p")) (new_tree (codes "a-b")))
    (with_child (new_tree (codes "a")) (new_tree (codes "b")))))
    ≡ Some (codes "p__subcmd__a__subcmd__b"))
unfolding insert in_order tree_cases help_argument version_argument help_name version_name tree_arms words_at details_at digits encode_utf8
of_my_app = (refl, refl, refl, refl, refl, refl, refl)

-- an option with a visible and a hidden value, and a positional with the same values
abbrev color : Arg
color = record (new_arg (codes "color")) {
  short = Some 99;
  long = Some (codes "color");
  possible_values = Some (new_possible_value (codes "auto")
      ∷ record (new_possible_value (codes "never")) { hide = true } ∷ []);
}

abbrev level : Arg
level = record (new_arg (codes "level")) {
  possible_values = Some (new_possible_value (codes "low")
      ∷ record (new_possible_value (codes "high")) { hide = true } ∷ []);
}

abbrev offering : Tree
offering =
    let node : Node = with_argument (with_argument (new_tree (codes "app")).node color) level in
    let tree : Tree = record { node = node; children = more (new_tree (codes "run")).node none none } in
    built_under (Some (codes "app")) tree

of_offering :
    -- hidden values of positionals are offered, but not those of options
    (words_at offering
    ≡ codes "-c" ∷ codes "-h" ∷ codes "--color" ∷ codes "--help" ∷ codes "low" ∷ codes "high"
    ∷ codes "run" ∷ codes "help" ∷ [])
    × (details_at offering.node
    ≡ record { word = codes "--color"; offered = values (codes "auto" ∷ []); mode = None }
    ∷ record { word = codes "-c"; offered = values (codes "auto" ∷ []); mode = None }
    ∷ [])
    -- a value with a space is not quiet
    × (is_quiet_value (codes "a b") ≡ Bool.false)
unfolding words_at encode_utf8 help_argument version_argument help_name version_name details_at
of_offering = (refl, refl, refl)

-- a script with details of every kind is read back
abbrev given_cases : List Case
given_cases =
    record { from = codes "app"; word = codes "run"; to = codes "app__subcmd__run" }
    ∷ record { from = codes "app"; word = codes "r"; to = codes "app__subcmd__run" } ∷ []

abbrev given_arms : List Arm
given_arms =
    record {
      label = codes "app";
      level = codes "1";
      words =
          codes "-c" ∷ codes "--color" ∷ codes "run" ∷ [];
      details = record {
        word = codes "--color";
        offered =
            values (codes "auto" ∷ codes "never" ∷ []);
        mode = None;
      }
          ∷ record { word = codes "-c"; offered = values []; mode = Some nospace }
          ∷ record { word = codes "--file"; offered = files; mode = Some filenames }
          ∷ record { word = codes "--dir"; offered = nothing; mode = Some plusdirs }
          ∷ record { word = codes "-o"; offered = typed; mode = Some nospace }
          ∷ record { word = codes "-x"; offered = files; mode = None } ∷ [];
    }
    ∷ record { label = codes "app__subcmd__run"; level = codes "2"; words = []; details = [] } ∷ []

script_reads : bash_table (script_text (codes "app") (codes "app") given_cases given_arms)
    ≡ Some (record { root = codes "app"; cases = given_cases; arms = given_arms })
unfolding sign byte_of cut posix_tokens is_word pattern_of assigned bare_text double_text is_root is_empty_reply is_typed_reply is_compgen_reply mode_named case_by next closed_table read bash_table case_text offered_text reply_text mode_word mode_text moded_text detail_text arm_text head_text tail_text script_text function_begins function_head cases_begin arms_begin arms_end unsorted_options otherwise sorted_options script_ends case_begins case_comma case_sets case_ends arm_begins arm_words arm_level arm_details arm_ends detail_begins detail_word_ends keep_separator separator_back reply_begins reply_ends values_begin values_end offer_files offer_word mode_begins mode_ends detail_ends
script_reads = refl
