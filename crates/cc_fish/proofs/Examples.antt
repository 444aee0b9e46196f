-- Examples of how small scripts are read, and of tables and texts of small trees.
use Rattle.std.proofs.Common.{◌≡◌, ℕ, List, [], ◌∷◌, ◌++◌, Option, Some, None, Bool, true, false, codes, refl, is_some}
use Rattle.std.specs.Char.{encode_utf8}
use Rattle.std.specs.List.{list_any}
use Rattle.cc_arg.specs.declared.action.ArgAction.TheVariants.{SetTrue}
use Rattle.cc_arg.specs.declared.parts.ArgParts.{ArgParts as Arg}
use Rattle.cc_arg.specs.Arguments.{new_arg}
use Rattle.cc_arg.specs.PossibleValues.{new_possible_value}
use Rattle.cc_base.specs.Found.{after, before_ending}
use Rattle.cc_command.specs.Built.{built_under}
use Rattle.cc_command.specs.Generated.{help_argument, version_argument}
use Rattle.cc_command.specs.Made.{new_tree, with_argument, with_child}
use Rattle.cc_command.specs.Texts.{help_name, help_help, version_name}
use Rattle.cc_command.specs.Tree.{Tree, none}
use Rattle.cc_quote.specs.FishQuote.{fish_sign, is_fish_safe, fish_quoted, fish_quoted_for_eval, fish_help_for_eval_of, fish_escaped}
use Rattle.cc_quote.specs.FishTokens.{fish_commands}
use Rattle.cc_generator.specs.Visits.{paths_below}
use Rattle.cc_fish.specs.Script.{value_text, value_lines, list_begin, listed_text, values_text, names_text, short_text, long_text, argument_text, child_text, options_text, flags_text, below_text, node_text, visit_text, front_text, key_condition, not_seen, spec_text, head_text, body_text, script_text, fish_script}
use Rattle.cc_fish.specs.Table.{tables}
use Rattle.cc_fish.specs.Reader.{no_record, records}
use Rattle.cc_fish.specs.Records.{Condition, Record}

-- a line
abbrev line : List ℕ → List ℕ
line text = text ++ 10 ∷ []

-- the condition of `app` at a path
abbrev at : List (List ℕ) → List (List ℕ) → Option Condition
at path excluded = Some (record { function = codes "__fish_app"; path = path; excluded = excluded })

-- a record of `app` with nothing but its condition
abbrev only_at : Option Condition → Record
only_at when = record no_record { command = Some (codes "app"); when = when }

-- the record of a child's name
abbrev child_at : Option Condition → List ℕ → Record
child_at when name = record (only_at when) { marks = record no_record.marks { no_files = true }; offered = Some (name ∷ []) }

-- ---- scripts that are read

records_read :
    -- children called `and` and `not`, one below the other
    (records
    (line (codes "complete -c app -n \"__fish_app_needs_command\" -f -a \"and\"")
    ++ line (codes "complete -c app -n \"__fish_app_needs_command\" -f -a \"not\"")
    ++ line (codes "complete -c app -n \"__fish_app_using_subcommand and; and not __fish_seen_subcommand_from not and\" -f -a \"not\"")
    ++ line (codes "complete -c app -n \"__fish_app_using_subcommand and; and __fish_seen_subcommand_from not\" -s v")
    ++ line (codes "complete -c app -n \"__fish_app_using_subcommand not; and __fish_seen_subcommand_from and; and not __fish_seen_subcommand_from and\" -l not"))
    ≡ Some
    (child_at (at [] []) (codes "and")
    ∷ child_at (at [] []) (codes "not")
    ∷ child_at (at (codes "and" ∷ []) (codes "not" ∷ codes "and" ∷ [])) (codes "not")
    ∷ record (only_at (at (codes "and" ∷ codes "not" ∷ []) [])) { shorts = codes "v" ∷ [] }
    ∷ record (only_at (at (codes "not" ∷ codes "and" ∷ []) (codes "and" ∷ []))) { longs = codes "not" ∷ [] }
    ∷ []))
    -- a comment, a command of another name, and a record three levels deep, with names, a help text
    -- and marks
    × (records
    (line (codes "# complete -c app -s x")
    ++ line (codes "    set -l complete (commandline -opc)")
    ++ line (codes "complete -c app -n \"__fish_app_using_subcommand a; and __fish_seen_subcommand_from b; and __fish_seen_subcommand_from c\" -s h -s ? -l help -l usage -d 'Print help' -r -F"))
    ≡ Some
    (record (only_at (at (codes "a" ∷ codes "b" ∷ codes "c" ∷ []) [])) {
      shorts = codes "h" ∷ codes "?" ∷ [];
      longs = codes "help" ∷ codes "usage" ∷ [];
      description = Some (codes "Print help");
      marks = record { required = true; no_files = Bool.false; files = true };
    }
    ∷ []))
    -- values that hold quotes, `$`, backslashes and a line feed, and a help text that holds them
    -- too
    × (records
    (codes "complete -c app -l o -d 'it\\'s \\\\ \"$x\"' -r -f -a \""
    ++ line (codes "'it\\\\'s \\\\\\\\ \\$x \\\"q\\\"")
    ++ line (codes "two lines'\\t'\\$HOME \\\"x\\\" \\\\'y\\\\\\\\'")
    ++ line (codes "plain\\t''\""))
    ≡ Some
    (record (only_at None) {
      longs = codes "o" ∷ [];
      description = Some (codes "it's \\ \"$x\"");
      marks = record { required = true; no_files = true; files = Bool.false };
      offered = Some
          ((codes "it's \\ $x \"q\"" ++ 10 ∷ codes "two lines" ++ 9 ∷ codes "$HOME \"x\" 'y\\")
          ∷ (codes "plain" ++ 9 ∷ []) ∷ []);
    }
    ∷ []))
    -- an empty help text, and a list that offers nothing
    × (records (line (codes "complete -c app -s e -d '' -r -f -a \"\""))
    ≡ Some
    (record (only_at None) {
      shorts = codes "e" ∷ [];
      description = Some [];
      marks = record { required = true; no_files = true; files = Bool.false };
      offered = Some [];
    }
    ∷ []))
unfolding fish_sign fish_commands after before_ending
records_read = (refl, refl, refl, refl)

-- ---- malformed scripts

unread : list_any (λ script. is_some (records script))
    -- a name after the function of the root
    (line (codes "complete -c app -n \"__fish_app_needs_command a\" -s v")
    -- no name after the function of a path
    ∷ line (codes "complete -c app -n \"__fish_app_using_subcommand\" -s v")
    -- a function that is not one of the two
    ∷ line (codes "complete -c app -n \"__fish_app_subcommand a\" -s v")
    -- an unknown option
    ∷ line (codes "complete -c app -x -s v")
    -- an option without its operand
    ∷ line (codes "complete -c app -s")
    -- two conditions
    ∷ line (codes "complete -c app -n \"__fish_app_needs_command\" -n \"__fish_app_using_subcommand a\" -s v")
    -- a quote that is open at the end
    ∷ (line (codes "complete -c app -s v") ++ codes "complete -c app -s w -d 'open")
    -- a quote that is open in a text that is read a second time
    ∷ line (codes "complete -c app -l o -r -f -a \"'open\"")
    ∷ [])
    ≡ false
unfolding fish_sign fish_commands after before_ending
unread = refl

-- ---- texts and tables of trees

abbrev flag : List ℕ → ℕ → Arg
flag id short = record (new_arg id) { short = Some short; action = Some SetTrue }

-- `app` with a child `a`, which has a child `b`, which has a child `c` with a flag `-v`
abbrev deep : Tree
deep = with_child (new_tree (codes "app")) (with_child (new_tree (codes "a")) (with_child (new_tree (codes "b"))
    (record { node = with_argument (new_tree (codes "c")).node (flag (codes "v") 118); children = none })))

deep_texts :
    (body_text (codes "app") (codes "app") deep
    ≡ line (codes "complete -c app -n \"__fish_app_needs_command\" -f -a \"a\"")
    ++ line (codes "complete -c app -n \"__fish_app_using_subcommand a; and not __fish_seen_subcommand_from b\" -f -a \"b\"")
    ++ line (codes "complete -c app -n \"__fish_app_using_subcommand a; and __fish_seen_subcommand_from b; and not __fish_seen_subcommand_from c\" -f -a \"c\"")
    ++ line (codes "complete -c app -n \"__fish_app_using_subcommand a; and __fish_seen_subcommand_from b; and __fish_seen_subcommand_from c\" -s v"))
    × (tables deep
    ≡ child_at (at [] []) (codes "a")
    ∷ child_at (at (codes "a" ∷ []) (codes "b" ∷ [])) (codes "b")
    ∷ child_at (at (codes "a" ∷ codes "b" ∷ []) (codes "c" ∷ [])) (codes "c")
    ∷ record (only_at (at (codes "a" ∷ codes "b" ∷ codes "c" ∷ []) [])) { shorts = codes "v" ∷ [] }
    ∷ [])
    -- `app` without children, with everything that building adds
    × (fish_script (built_under (Some (codes "app")) (new_tree (codes "app"))) ≡ line (codes "complete -c app -s h -l help -d 'Print help'"))
unfolding encode_utf8 paths_below body_text visit_text node_text options_text flags_text below_text argument_text values_text child_text names_text short_text long_text front_text key_condition not_seen help_argument version_argument help_name help_help version_name fish_escaped script_text head_text
deep_texts = (refl, refl, refl)

-- an option with a visible and a hidden value
abbrev color : Arg
color = record (new_arg (codes "color")) {
  short = Some 99;
  long = Some (codes "color");
  help = Some (codes "Colour");
  possible_values = Some (new_possible_value (codes "auto") ∷ record (new_possible_value (codes "never")) { hide = true } ∷ []);
}

color_texts :
    (argument_text (front_text (codes "app") (Some (codes "__fish_app_needs_command"))) true color
    ≡ line (codes "complete -c app -n \"__fish_app_needs_command\" -s c -l color -d 'Colour' -r -f -a \"auto\\t''\""))
    × (spec_text color ≡ codes " c/color=")
unfolding encode_utf8 fish_escaped is_fish_safe fish_quoted fish_quoted_for_eval fish_help_for_eval_of value_text value_lines list_begin listed_text values_text names_text short_text long_text argument_text front_text spec_text
color_texts = (refl, refl)

-- a flag with a quote in its long
abbrev quoted : Arg
quoted = record (new_arg (codes "a")) { long = Some (codes "it's"); action = Some SetTrue }

quoted_texts :
    (argument_text (front_text (codes "app") None) false quoted ≡ line (codes "complete -c app -l it\\'s"))
    × (spec_text quoted ≡ codes " it\\'s")
    -- a value with a help text that fish would expand
    × (listed_text (record (new_possible_value (codes "v")) { help = Some (codes "$HOME \"x\"") } ∷ []) ≡ codes " -r -f -a \"v\\t'\\$HOME \\\"x\\\"'\"")
unfolding fish_escaped values_text names_text short_text long_text argument_text front_text spec_text is_fish_safe fish_quoted fish_quoted_for_eval fish_help_for_eval_of value_text value_lines list_begin listed_text
quoted_texts = (refl, refl, refl)
