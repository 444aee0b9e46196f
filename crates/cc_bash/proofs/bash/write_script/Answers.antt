use Rattle.std.proofs.Common.{◌≡◌, List, map, refl, rules}
use Rattle.cc_base.proofs.WrittenTexts.{writes_same, writes_then}
use Rattle.cc_base.proofs.Stopped.{as_stopped, stops_before}
use Rattle.cc_bash.specs.Labels.{Labelled}
use Rattle.cc_bash.specs.Nodes.{labelled_of}
use Rattle.cc_bash.proofs.WholeScript.{script_pieces}
use Rattle.cc_bash.proofs.bash.write_script.Goals as goal

pub returns-in_err-write_before_arms : goal.returns-in_err-write_before_arms
returns-in_err-write_before_arms g c =
    let lent : List Labelled = map labelled_of c.deref.result.now in
    let nodes : List Labelled = map labelled_of c.args.nodes.items in
    let same : lent ≡ nodes = search rules in
    as_stopped _ c.from_residual.ensures.1 (writes_same _ _
    (script_pieces c.args.root.now _ c.args.command.now lent nodes refl same)
    (stops_before _ _ (stops_before _ _ (stops_before _ _ c.in_err-write_before_arms.ensures))))

pub returns-in_err-write_arm : goal.returns-in_err-write_arm
returns-in_err-write_arm g c =
    let lent : List Labelled = map labelled_of c.deref.result.now in
    let nodes : List Labelled = map labelled_of c.args.nodes.items in
    let same : lent ≡ nodes = search rules in
    as_stopped _ c.from_residual-in_err-write_arm.ensures.1 (writes_same _ _
    (script_pieces c.args.root.now _ c.args.command.now lent nodes refl same)
    (stops_before _ _ (stops_before _ _ (writes_then _ _ c.in_ok-write_before_arms.ensures c.in_err-write_arm.ensures))))

pub returns-in_err-write_sorted_arms : goal.returns-in_err-write_sorted_arms
returns-in_err-write_sorted_arms g c =
    let lent : List Labelled = map labelled_of c.deref.result.now in
    let nodes : List Labelled = map labelled_of c.args.nodes.items in
    let same : lent ≡ nodes = search rules in
    as_stopped _ c.from_residual-in_err-write_sorted_arms.ensures.1 (writes_same _ _
    (script_pieces c.args.root.now _ c.args.command.now lent nodes refl same)
    (stops_before _ _ (writes_then _ _ (writes_then _ _ c.in_ok-write_before_arms.ensures c.in_ok-write_arm.ensures) c.in_err-write_sorted_arms.ensures)))

pub returns : goal.returns
returns g c =
    let lent : List Labelled = map labelled_of c.deref.result.now in
    let nodes : List Labelled = map labelled_of c.args.nodes.items in
    let same : lent ≡ nodes = search rules in
    writes_same _ _
    (script_pieces c.args.root.now c.full_name.result.now c.args.command.now lent nodes c.full_name.ensures same)
    (writes_then _ _ (writes_then _ _ (writes_then _ _
    c.in_ok-write_before_arms.ensures c.in_ok-write_arm.ensures)
    c.in_ok-write_sorted_arms.ensures) c.write_tail.ensures)
