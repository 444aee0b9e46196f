use Rattle.std.proofs.Common.{ℕ, List, ◌∷◌, ◌++◌, ap, refl, reverse, sym, ◌∙◌, rules}
use Rattle.cc_generator.specs.Flat.{Entry, tree_at}
use Rattle.cc_generator.specs.Stack.{from_stack}
use Rattle.cc_generator.specs.TableStack.{tables_of}
use Rattle.cc_generator.specs.Visits.{Keyed, under_each}
use Rattle.cc_generator.proofs.TableStack.{table_next}
use Rattle.cc_generator.proofs.table_visits.TableVisits.next.Goals as goal

pub returns-in-Some-pop-2-clause-first : goal.returns-in-Some-pop-2-clause-first
returns-in-Some-pop-2-clause-first g c =
    let flat : List Entry = c.self.inside.flat.now in
    let child_key : List ℕ → List ℕ → List ℕ = g.K.KeyScheme.child_key c.self.inside.keys.now in
    let number : ℕ = c.in-Some-pop.field-0.number in
    let above : ℕ = c.in-Some-pop.field-0.above in
    let later : List (Keyed (List ℕ)) =
    under_each (reverse c.pop-3.new.self.items) (tree_at flat above).node (tree_at flat number) ++ from_stack (tables_of flat child_key) c.push_below.new.stack.items in
    let first_of : Keyed (List ℕ) → List (Keyed (List ℕ)) = λ visit. visit ∷ later in
    sym c.self.view_is ∙
    table_next flat child_key c.self.inside.number c.self.inside.above number above c.in-Some-pop.field-0.key c.in-Some-pop-2.key c.self.inside.ready.items c.pop.new.self.items
    c.push_keys_below.new.made.items c.pop-3.new.self.items c.self.inside.stack.items c.pop-2.new.self.items _ c.push_below.new.stack.items
    (search rules) (search rules) (search rules) (search rules) (search rules) refl (search rules) (search rules) ∙
    ap first_of (sym c.visit_at-in-Some-pop-2.ensures)
