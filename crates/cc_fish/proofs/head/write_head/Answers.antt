use Rattle.std.proofs.Common.{◌≡◌, ◌++◌, ℕ, List, refl, true, rules}
use Rattle.cc_base.proofs.WrittenTexts.{writes_same, writes_then}
use Rattle.cc_command.specs.Tree.{has_nodes}
use Rattle.cc_base.proofs.Stopped.{put_stopped, stops_before}
use Rattle.cc_fish.specs.declared.texts.TheConstants.{OPTSPECS_BEGIN, OPTSPECS_JOIN}
use Rattle.cc_fish.specs.Script.{optspecs_begin, optspecs_join}
use Rattle.cc_fish.proofs.HeadRead.{head_parts}
use Rattle.cc_fish.proofs.head.write_head.Goals as goal

begin_is : (function : List ℕ) → OPTSPECS_BEGIN.now ++ function ++ OPTSPECS_JOIN.now
    ≡ optspecs_begin ++ function ++ optspecs_join
unfolding optspecs_begin optspecs_join
begin_is function = refl

pub returns-in_err-put_around : goal.returns-in_err-put_around
returns-in_err-put_around g c =
    let inhabited : has_nodes c.args.command.now.children ≡ true = search rules in
    put_stopped _ c.from_residual.ensures.1 (writes_same _ _ (head_parts c.args.function.now c.args.command.now _ refl inhabited) (stops_before _ _ (stops_before _ _ (writes_same _ _ (begin_is c.args.function.now) c.in_err-put_around.ensures))))

pub returns-in_err-write_specs : goal.returns-in_err-write_specs
returns-in_err-write_specs g c =
    let inhabited : has_nodes c.args.command.now.children ≡ true = search rules in
    put_stopped _ c.from_residual-in_err-write_specs.ensures.1 (writes_same _ _ (head_parts c.args.function.now c.args.command.now _ c.get_arguments.ensures inhabited) (stops_before _ _ (writes_then _ _ (writes_same _ _ (begin_is c.args.function.now) c.in_ok-put_around.ensures) c.in_err-write_specs.ensures)))

pub returns : goal.returns
unfolding optspecs_begin optspecs_join
returns g c =
    let inhabited : has_nodes c.args.command.now.children ≡ true = search rules in
    writes_same _ _ (head_parts c.args.function.now c.args.command.now _ c.get_arguments.ensures inhabited) (writes_then _ _ (writes_then _ _ c.in_ok-put_around.ensures c.in_ok-write_specs.ensures) c.write_functions.ensures)
