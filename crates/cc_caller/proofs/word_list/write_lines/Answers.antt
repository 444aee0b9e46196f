use Rattle.std.proofs.Common.{◌≡◌, ◌+◌, drop, flat_map, map, refl, string_bytes}
use Rattle.cc_base.proofs.WrittenTexts.{writes_same}
use Rattle.cc_base.proofs.Stopped.{as_stopped, stops_at}
use Rattle.cc_caller.specs.WordList.{line}
use Rattle.cc_caller.proofs.word_list.write_lines.Goals as goal

pub returns-in_err-write_line : goal.returns-in_err-write_line
returns-in_err-write_line g c =
    let longs = c.args.longs.now in
    let item = c.long-item.result in
    let same : line c.as_str.result.now ≡ line (string_bytes item) = cc (c.as_str.ensures.value) in
    as_stopped c.from_residual.result c.from_residual.ensures.1
    (stops_at (λ all. flat_map line (map string_bytes all)) longs c.loop-long.long-index item _ c.loop-long-test.true
    c.long-item.is refl c.loop-long.invariant (writes_same _ _ same c.in_err-write_line.ensures))
