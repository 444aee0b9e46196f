use Rattle.std.proofs.Common.{◌≡◌, ◌+◌, ◌≤◌, [], ◌∷◌, length, arith, rules}
use Rattle.std.specs.Vec.{vec_capacity}
use Rattle.cc_command.proofs.PutIn.{sibling_count-forest_of}
use Rattle.cc_command.proofs.command.build.additions.missing_children.Goals as goal

pub returns-clause-room : goal.returns-clause-room
returns-clause-room c =
    let items : c.push.new.self.items ≡ c.in_ok-help_command.field-0 ∷ [] = search rules in
    let capacity : length c.args.children.now + 1 ≤ vec_capacity c.push.new.self = omega (arith, c.in_ok-added.ensures.capacity, c.in_ok-push.ensures.capacity) in
    rw (sibling_count-forest_of c.args.children.now, items) (λ _. capacity)
