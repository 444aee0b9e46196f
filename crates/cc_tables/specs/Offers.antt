-- The names that a table offers at a node.
use Rattle.std.specs.Prelude.{ℕ, List, ◌++◌, map, codes, encode_utf8, unwrap_or, []}
use Rattle.std.specs.List.{flat_map}
use Rattle.cc_arg.specs.declared.parts.ArgParts.{ArgParts as Arg}
use Rattle.cc_arg.specs.declared.names.ShownName.{ShownName}
use Rattle.cc_arg.specs.declared.names.ShownName.TheVariants.{Short as ShownShort, Long as ShownLong}
use Rattle.cc_arg.specs.ShownNames.{shown_names}
use Rattle.cc_command.specs.declared.node.Node.{Node}
use Rattle.cc_command.specs.Tree.{Forest, none, more, Tree}
use Rattle.cc_command.specs.ArgumentLists.{options, flags}
use Rattle.cc_command.specs.Names.{visible_names}
use Rattle.cc_tables.specs.declared.offers.Kind.{Kind}
use Rattle.cc_tables.specs.declared.offers.Kind.TheVariants.{Short, Long, Subcommand}
use Rattle.cc_tables.specs.declared.offers.Offer.{Offer}

-- the dashes before a name
abbrev pub dashes : Kind → List ℕ
dashes Short = codes "-"
dashes Long = codes "--"
dashes Subcommand = []

-- a name as a user types it
abbrev pub word : Offer → List ℕ
word offer = dashes offer.kind ++ offer.name

-- the offer of a short, with the argument's own short as the fallback
abbrev pub short_offer : Arg → ℕ → Offer
short_offer argument character = record {
  kind = Short;
  name = encode_utf8 character;
  description = argument.help;
  fallback = encode_utf8 (unwrap_or argument.short character);
}

-- the offer of a long, with the argument's own long as the fallback
abbrev pub long_offer : Arg → List ℕ → Offer
long_offer argument name =
    record {
      kind = Long;
      name = name;
      description = argument.help;
      fallback = unwrap_or argument.long name;
    }

-- the offer of a name of an argument
abbrev pub argument_offer : Arg → ShownName → Offer
argument_offer argument (ShownShort character) = short_offer argument character
argument_offer argument (ShownLong name) = long_offer argument name

-- the offers of an argument: of its shorts, then of its longs
abbrev pub argument_offers : Arg → List Offer
argument_offers argument = map (argument_offer argument) (shown_names argument)

-- the offer of a name of a child, with the name as the fallback
abbrev pub child_offer : Node → List ℕ → Offer
child_offer child name =
    record { kind = Subcommand; name = name; description = child.about; fallback = name }

-- the offers of a child: of its visible names
abbrev pub child_offers : Node → List Offer
child_offers child = map (child_offer child) (visible_names child)

-- the offers of siblings
abbrev pub children_offers : Forest → List Offer
children_offers none = []
children_offers (more child below rest) = child_offers child ++ children_offers rest

-- the offers at a node: of its options, of its flags, and of its children
unfoldable pub node_offers : Tree → List Offer
node_offers tree =
    flat_map argument_offers (options tree.node) ++ flat_map argument_offers (flags tree.node)
    ++ children_offers tree.children
