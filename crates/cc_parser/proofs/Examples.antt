-- A built tree with a flag and an option that has possible values, and its parser.
use Rattle.std.proofs.Common.{◌≡◌, refl, true, false, [], ◌∷◌, Some, None, codes, map, option_map}
use Rattle.cc_arg.specs.declared.parts.ArgParts.{ArgParts as Arg}
use Rattle.cc_arg.specs.declared.action.ArgAction.TheVariants.{SetTrue}
use Rattle.cc_arg.specs.Arguments.{filled, new_arg}
use Rattle.cc_command.specs.declared.node.Node.{Node}
use Rattle.cc_command.specs.Made.{new_node}
use Rattle.cc_command.specs.Tree.{none, Tree}
use Rattle.clap.specs.Walk.{arg_by_long}
use Rattle.clap.specs.Simple.{App, built}
use Rattle.clap.specs.Words.{takes}
use Rattle.clap.proofs.OnLiterals.{clap_on_literals}
use Rattle.cc_parser.specs.Arguments.{rule_of_argument}
use Rattle.cc_parser.specs.Parsers.{IsAppOf, shape_of_node}
use Rattle.cc_parser.specs.Taken.{id_of_long}

abbrev out : Arg
out = filled (record (new_arg (codes "out")) { long = Some (codes "out"); visible_aliases = codes "to" ∷ [] })

abbrev loud : Arg
loud = filled (record (new_arg (codes "loud")) { short = Some 118; long = Some (codes "verbose"); action = Some SetTrue })

abbrev node : Node
node = record (new_node (codes "app")) { arguments = out ∷ loud ∷ []; built = true }

abbrev tree : Tree
tree = record { node = node; children = none }

abbrev app : App
app = record { top = shape_of_node false node none (map (rule_of_argument None) (out ∷ loud ∷ [])); subs = [] }

is_its_app : IsAppOf tree app
is_its_app = ((refl, ((refl, refl), ((refl, refl), tt))), tt)

taken : takes app (codes "app" ∷ codes "--to" ∷ codes "x" ∷ codes "-v" ∷ []) ≡ true
unfolding clap_on_literals
taken = refl

not_taken : takes app (codes "app" ∷ codes "--too" ∷ codes "x" ∷ []) ≡ false
unfolding clap_on_literals
not_taken = refl

named : id_of_long (codes "to") (out ∷ loud ∷ []) ≡ Some (codes "out")
named = refl

named_by_the_parser : option_map (λ r. r.id) (arg_by_long (built app).top.rules (codes "to")) ≡ Some (codes "out")
unfolding clap_on_literals
named_by_the_parser = refl
