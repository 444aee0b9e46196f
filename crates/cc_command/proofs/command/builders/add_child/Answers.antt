use Rattle.std.proofs.Common.{◌≡◌, ◌∷◌, [], ◌++◌, rules}
use Rattle.cc_command.proofs.Forests.{forest_of-append}
use Rattle.cc_command.proofs.command.builders.add_child.Goals as goal

pub returns : goal.returns
returns c =
    let pushed : c.push_child.new.children.items ≡ c.command.inside.children.items ++ c.fill_display_order.new.self ∷ [] = search rules in
    rw (pushed, forest_of-append c.command.inside.children.items (c.fill_display_order.new.self ∷ []), c.fill_display_order.ensures, c.saturating_add-command-inside.ensures, ← c.command.view_is) (search rules)
