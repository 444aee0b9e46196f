-- Files and the commands that they describe.
use Rattle.std.proofs.Common.{◌≡◌, ℕ, List, [], ◌∷◌, None, Option, Some, codes, if◌then◌else◌, refl, true}
use Rattle.std.specs.Str.{chars}
use Rattle.serde_json.specs.Data.{Data, null, array, boolean, number, unsigned, object, string, item, no_items}
use Rattle.serde_json.specs.Data.{member, no_members}
use Rattle.serde_json.specs.Read.{read}
use Rattle.serde_json.proofs.OnLiterals.{serde_json_on_literals}
use Rattle.cc_arg.specs.Arguments.{new_arg}
use Rattle.cc_arg.specs.declared.parts.ArgParts.{ArgParts as Arg}
use Rattle.cc_arg.specs.declared.action.ArgAction.TheVariants.{SetTrue}
use Rattle.cc_arg.specs.PossibleValues.{new_possible_value}
use Rattle.cc_arg.specs.declared.value_hint.ValueHint.TheVariants.{Other}
use Rattle.cc_arg.specs.declared.values_protocol.ValuesProtocol.TheVariants.{Cobra}
use Rattle.cc_command.specs.Made.{new_node, new_tree}
use Rattle.cc_command.specs.Tree.{more, none}
use Rattle.complgen_tree_file.specs.ArgumentForm.{argument_fits, argument_in, argument_keys}
use Rattle.complgen_tree_file.specs.CommandForm.{command_keys, command_of, own_fits, own_in}
use Rattle.complgen_tree_file.specs.PossibleValueForm.{possible_value_of, value_keys}
use Rattle.complgen_tree_file.specs.TreeForm.{field_from, fits_at, given, list_of}

-- the argument that a value describes
abbrev argument_of : Data → Option Arg
argument_of d = if argument_fits d true then Some (argument_in d) else None

-- `{"id":"v","short":"v","long":"verbose","action":"SetTrue","help":"Be loud"}`, by its keys in order
abbrev verbose : Data
verbose = object (member (codes "action") (string (codes "SetTrue"))
    (member (codes "help") (string (codes "Be loud")) (member (codes "id") (string (codes "v"))
    (member (codes "long") (string (codes "verbose"))
    (member (codes "short") (string (codes "v")) no_members)))))

-- `{"name":"app","args":[..]}`, likewise
abbrev app : Data
app = object (member (codes "args") (array (item verbose no_items))
    (member (codes "name") (string (codes "app")) no_members))

-- it is read from this text
app_read : read (codes "{\"name\":\"app\",\"args\":[{\"id\":\"v\",\"short\":\"v\",\"long\":\"verbose\",\"action\":\"SetTrue\",\"help\":\"Be loud\"}]}")
    ≡ Some app
unfolding serde_json_on_literals
app_read = refl

-- each key sets its field, and the argument takes the first display order
with_an_argument : command_of app ≡ Some (record (new_tree (codes "app")) {
  node = record (new_node (codes "app")) {
    arguments = record (new_arg (codes "v")) {
      short = Some 118;
      long = Some (codes "verbose");
      action = Some SetTrue;
      help = Some (codes "Be loud");
      display_order = Some 0;
    } ∷ [];
    next_order = 1;
  };
})
unfolding argument_keys argument_fits argument_in chars command_keys command_of field_from fits_at given list_of own_fits own_in
with_an_argument = refl

-- `{"name":"run","visible_aliases":["r","go"]}`
abbrev run : Data
run = object (member (codes "name") (string (codes "run"))
    (member (codes "visible_aliases")
    (array (item (string (codes "r")) (item (string (codes "go")) no_items))) no_members))

-- `{"name":"app","hide":true,"subcommands":[..,{"name":"stop"}]}`
abbrev parent : Data
parent = object (member (codes "hide") (boolean true) (member (codes "name") (string (codes "app"))
    (member (codes "subcommands") (array (item run (item
    (object (member (codes "name") (string (codes "stop")) no_members)) no_items))) no_members)))

-- it is read from this text
parent_read : read (codes "{\"subcommands\":[{\"visible_aliases\":[\"r\",\"go\"],\"name\":\"run\"},{\"name\":\"stop\"}],\"name\":\"app\",\"hide\":true}")
    ≡ Some parent
unfolding serde_json_on_literals
parent_read = refl

-- the children are in their order, each with the next display order
with_children : command_of parent ≡ Some (record {
  node = record (new_node (codes "app")) { hide = true; next_order = 2 };
  children = more (record (new_node (codes "run")) {
    visible_aliases = codes "r" ∷ codes "go" ∷ [];
    display_order = Some 0;
  }) none (more (record (new_node (codes "stop")) { display_order = Some 1 }) none none);
})
unfolding argument_keys command_keys command_of field_from fits_at given list_of own_fits own_in
with_children = refl

-- `{"name":"app","nickname":"a"}`: no key of a command
unknown_key : command_of (object (member (codes "name") (string (codes "app"))
    (member (codes "nickname") (string (codes "a")) no_members))) ≡ None
unfolding argument_keys command_keys command_of field_from fits_at given list_of own_fits own_in
unknown_key = refl

-- the same of a child: there is no command then, not one without the child
unknown_key_below : command_of (object (member (codes "name") (string (codes "app"))
    (member (codes "subcommands") (array (item (object (member (codes "name") (string (codes "run"))
    (member (codes "nickname") (string (codes "r")) no_members))) no_items)) no_members))) ≡ None
unfolding argument_keys command_keys command_of field_from fits_at given list_of own_fits own_in
unknown_key_below = refl

-- `{"id":"c","possible_values":[{"name":"on"},{"hide":true,"name":"off"}],"value_hint":"Other"}`:
-- values in their order, each with what its keys set
with_values : argument_of (object (member (codes "id") (string (codes "c"))
    (member (codes "possible_values") (array (item
    (object (member (codes "name") (string (codes "on")) no_members)) (item
    (object (member (codes "hide") (boolean true)
    (member (codes "name") (string (codes "off")) no_members))) no_items)))
    (member (codes "value_hint") (string (codes "Other")) no_members))))
    ≡ Some (record (new_arg (codes "c")) {
      possible_values = Some (new_possible_value (codes "on")
          ∷ record (new_possible_value (codes "off")) { hide = true } ∷ []);
      value_hint = Other;
    })
unfolding argument_keys argument_fits argument_in field_from fits_at given list_of value_keys
with_values = refl

-- a possible value is an object, and has a name
no_object : possible_value_of (string (codes "on")) ≡ None
no_object = refl

no_name : possible_value_of (object (member (codes "hide") (boolean true) no_members)) ≡ None
unfolding fits_at value_keys
no_name = refl

-- `{"id":"v","help":null}`: another kind
other_kind : argument_of (object (member (codes "help") null
    (member (codes "id") (string (codes "v")) no_members))) ≡ None
unfolding argument_keys argument_fits argument_in field_from fits_at given list_of
other_kind = refl

-- `{"conflicts_with":["c","b"],"global":true,"id":"a","index":2,"last":true,"required":true,
-- "value_terminator":";"}`: the ids of conflicts in their order
with_surroundings : argument_of (object (member (codes "conflicts_with")
    (array (item (string (codes "c")) (item (string (codes "b")) no_items)))
    (member (codes "global") (boolean true) (member (codes "id") (string (codes "a"))
    (member (codes "index") (number (unsigned 2)) (member (codes "last") (boolean true)
    (member (codes "required") (boolean true)
    (member (codes "value_terminator") (string (codes ";")) no_members))))))))
    ≡ Some (record (new_arg (codes "a")) {
      value_terminator = Some (codes ";");
      index = Some 2;
      conflicts = codes "c" ∷ codes "b" ∷ [];
      required = true;
      last = true;
      global = true;
    })
unfolding argument_keys argument_fits argument_in field_from fits_at given list_of
with_surroundings = refl

-- `{"conflicts_with":"b","id":"a"}`: another kind
no_list : argument_of (object (member (codes "conflicts_with") (string (codes "b"))
    (member (codes "id") (string (codes "a")) no_members))) ≡ None
unfolding argument_keys argument_fits argument_in field_from fits_at given list_of
no_list = refl

-- `{"allow_external_subcommands":true,"name":"app"}`
with_external_subcommands : command_of (object
    (member (codes "allow_external_subcommands") (boolean true)
    (member (codes "name") (string (codes "app")) no_members)))
    ≡ Some (record (new_tree (codes "app")) {
      node = record (new_node (codes "app")) { allow_external_subcommands = true };
    })
unfolding command_keys command_of field_from fits_at given list_of own_fits own_in
with_external_subcommands = refl

-- `{"id":"b","long":"branch","values_from":["git","branch"],"values_split":":"}`: a command, and what
-- ends the value of a line
with_command : argument_of (object (member (codes "id") (string (codes "b"))
    (member (codes "long") (string (codes "branch"))
    (member (codes "values_from")
    (array (item (string (codes "git")) (item (string (codes "branch")) no_items)))
    (member (codes "values_split") (string (codes ":")) no_members)))))
    ≡ Some (record (new_arg (codes "b")) {
      long = Some (codes "branch");
      values_from = Some (codes "git" ∷ codes "branch" ∷ []);
      values_split = Some (codes ":");
    })
unfolding argument_keys argument_fits argument_in field_from fits_at given list_of
with_command = refl

-- `{"id":"b","values_from":["app","__complete"],"values_protocol":"cobra","values_words":true}`: a
-- command that gets the typed words, and whose lines are read as those of Cobra
with_typed_words : argument_of (object (member (codes "id") (string (codes "b"))
    (member (codes "values_from")
    (array (item (string (codes "app")) (item (string (codes "__complete")) no_items)))
    (member (codes "values_protocol") (string (codes "cobra"))
    (member (codes "values_words") (boolean true) no_members)))))
    ≡ Some (record (new_arg (codes "b")) {
      values_from = Some (codes "app" ∷ codes "__complete" ∷ []);
      values_words = true;
      values_protocol = Cobra;
    })
unfolding argument_keys argument_fits argument_in field_from fits_at given list_of
with_typed_words = refl

-- `{"id":"b","values_protocol":"Cobra"}`: no protocol has this name
no_protocol : argument_of (object (member (codes "id") (string (codes "b"))
    (member (codes "values_protocol") (string (codes "Cobra")) no_members))) ≡ None
unfolding argument_keys argument_fits argument_in field_from fits_at given list_of
no_protocol = refl
