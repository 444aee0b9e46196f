use Rattle.std.proofs.Common.{◌+◌, drop, flat_map, map}
use Rattle.std.proofs.lemmas.List.Concat.{flat_map-append}
use Rattle.cc_command.specs.Names.{visible_names}
use Rattle.cc_command.specs.Tree.{forest_of}
use Rattle.cc_base.proofs.Stopped.{put_stopped, stops_at}
use Rattle.cc_zsh.specs.Functions.{entries_of, entry, entry_text}
use Rattle.cc_zsh.proofs.functions.write_children.Goals as goal

pub returns-in_err-write_child : goal.returns-in_err-write_child
returns-in_err-write_child g c =
    let items = c.args.children.now in
    let i = c.loop-child.child-index in
    let item = c.child-item.result in
    put_stopped _ c.from_residual.ensures.1 (stops_at (λ commands. flat_map entry_text (entries_of (forest_of commands))) items i item _ c.loop-child-test.true c.child-item.is (flat_map-append entry_text (map (entry item.node) (visible_names item.node)) (entries_of (forest_of (drop (i + 1) items)))) c.loop-child.invariant c.in_err-write_child.ensures)
