use Rattle.std.proofs.Common.{rules, map, true, OnOk, Result, Ok, Err}
use Rattle.cc_candidates.specs.Beginning.{begins}
use Rattle.cc_engine.specs.Children.{child_candidate}
use Rattle.cc_engine.proofs.Filters.{added}
use Rattle.cc_engine.proofs.gathering.subcommands.push_child.Goals as goal

on_ok : {A E : Type 0} (r : Result A E) (P Q : Type 0) → (P → Q) → OnOk r P → OnOk r Q
on_ok (Ok x) P Q f p = f p
on_ok (Err e) P Q f p = tt

pub returns : goal.returns
returns c =
    let parent = c.args.parent.now.node in
    let child = c.args.child.now.node in
    on_ok c.push_names-2.result _ _
    (λ last. added (begins c.args.word.now) c.args.found.now.items c.push_name.new.found.items c.push_names.new.found.items c.push_names-2.new.found.items
    (child_candidate parent child child.hide child.name) (map (child_candidate parent child child.hide) child.visible_aliases)
    (map (child_candidate parent child true) child.aliases)
    (search rules) (search rules) (search (rules, last)))
    c.push_names-2.ensures
