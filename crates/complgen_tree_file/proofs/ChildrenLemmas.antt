-- The children of a command are found at their key.
use Rattle.std.proofs.Common.{◌≡◌, ◌∙◌, Bool, [], Option, Some, Ordering, Less}
use Rattle.std.proofs.Common.{ap, codes, fold, if◌then◌else◌, nat_cmp, refl, sym}
use Rattle.std.specs.Option.{option_map_or}
use Rattle.std.specs.Ordering.{is_eq, match_ordering}
use Rattle.std.specs.Cmp.Lexicographic.{slice_cmp}
use Rattle.std.specs.Str.{bytes_eq}
use Rattle.std.proofs.lemmas.Map.Text.{is_eq-slice_cmp}
use Rattle.serde_json.specs.Data.{Data, object, Members, member, no_members}
use Rattle.serde_json.specs.Find.{get, get_member}
use Rattle.cc_command.specs.Made.{of_node, with_child}
use Rattle.complgen_tree_file.specs.CommandForm.{children_fit, children_in, command_fits, command_in}
use Rattle.complgen_tree_file.specs.CommandForm.{commands_fit, commands_in, own_fits, own_in}

either : {X : Type 0} (f : Data → X) (none : X) (o : Ordering) (found : Option Data) (d : Data)
    → (if is_eq o then f d else option_map_or f found none)
    ≡ option_map_or f (match_ordering o found (Some d) found) none
either f none Less found d = refl
either f none o found d = refl

-- the value at the key of the children is at the first member with that key, or in the others
here_or_there : {X : Type 0} (f : Data → X) (none : X) (key : _) (d : Data) (ms : Members)
    → (if bytes_eq (codes "subcommands") key then f d
    else option_map_or f (get_member (codes "subcommands") ms) none)
    ≡ option_map_or f (get_member (codes "subcommands") (member key d ms)) none
here_or_there f none key d ms =
    ap (λ here. if here then f d else option_map_or f (get_member (codes "subcommands") ms) none)
    (sym (is_eq-slice_cmp (codes "subcommands") key))
    ∙ either f none (slice_cmp nat_cmp (codes "subcommands") key)
    (get_member (codes "subcommands") ms) d

children_found : (ms : Members)
    → children_in ms ≡ option_map_or commands_in (get_member (codes "subcommands") ms) []
children_found no_members = refl
children_found (member key d ms) =
    ap (λ rest. if bytes_eq (codes "subcommands") key then commands_in d else rest)
    (children_found ms)
    ∙ here_or_there commands_in [] key d ms

children_fitting : (ms : Members) (before : Bool) → children_fit ms before
    ≡ option_map_or (λ list. commands_fit list before) (get_member (codes "subcommands") ms) before
children_fitting no_members before = refl
children_fitting (member key d ms) before =
    ap (λ rest. if bytes_eq (codes "subcommands") key then commands_fit d before else rest)
    (children_fitting ms before)
    ∙ here_or_there (λ list. commands_fit list before) before key d ms

-- a command is its own, with the children at their key
pub command_with_children : (d : Data) → command_in d
    ≡ fold with_child (of_node (own_in d))
    (option_map_or commands_in (get (codes "subcommands") d) [])
command_with_children (object ms) =
    ap (fold with_child (of_node (own_in (object ms)))) (children_found ms)
command_with_children d = refl

-- it fits if it does by itself, and the children do
pub command_fits_with_children : (d : Data) (before : Bool) → command_fits d before
    ≡ option_map_or (λ list. commands_fit list (own_fits d before)) (get (codes "subcommands") d)
    (own_fits d before)
command_fits_with_children (object ms) before =
    children_fitting ms (own_fits (object ms) before)
command_fits_with_children d before = refl
