use Rattle.std.proofs.Common.{◌≡◌, ℕ, List, ◌++◌, refl}
use Rattle.cc_base.proofs.WrittenTexts.{writes_same, writes_then}
use Rattle.cc_base.proofs.Stopped.{put_stopped, stops_before, writes_three}
use Rattle.cc_registrations.specs.BashRegistration.{call_ends, fixed_texts, sorted_call}
use Rattle.cc_registrations.specs.Names.{underscored}
use Rattle.cc_registrations.specs.declared.bash.TheConstants.{NAME_ENDS, OTHERWISE}
use Rattle.cc_registrations.proofs.bash.write_sorted_call.Goals as goal

parts : (name bin : List ℕ) →
    call_ends ++ underscored name ++ NAME_ENDS.now ++ bin ++ OTHERWISE.now
    ≡ sorted_call name bin
unfolding fixed_texts sorted_call
parts name bin = refl

pub returns-in_err-put_piece : goal.returns-in_err-put_piece
returns-in_err-put_piece g c =
    put_stopped _ c.from_residual.ensures.1
    (writes_same _ _ (parts c.args.name.now c.args.bin.now)
    (stops_before _ _ (stops_before _ _ (stops_before _ _ (stops_before _ _ (writes_same _ _ c.call_ends.ensures c.in_err-put_piece.ensures.written))))))

pub returns-in_err-put_underscored : goal.returns-in_err-put_underscored
returns-in_err-put_underscored g c =
    put_stopped _ c.from_residual-in_err-put_underscored.ensures.1
    (writes_same _ _ (parts c.args.name.now c.args.bin.now)
    (stops_before _ _ (stops_before _ _ (stops_before _ _ (writes_then _ _ (writes_same _ _ c.call_ends.ensures c.in_ok-put_piece.ensures.written) c.in_err-put_underscored.ensures)))))

pub returns : goal.returns
returns g c =
    writes_same _ _ (parts c.args.name.now c.args.bin.now)
    (writes_three _ _ _ _ (writes_then _ _ (writes_same _ _ c.call_ends.ensures c.in_ok-put_piece.ensures.written) c.in_ok-put_underscored.ensures) c.put_pieces.ensures)
