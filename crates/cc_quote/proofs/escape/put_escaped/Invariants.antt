use Rattle.std.proofs.Common.{◌≡◌, ◌≤◌, ◌++◌, length}
use denote.Text.{Utf8}
use denote.Shadow.{shadow}
use Rattle.cc_quote.proofs.escape.put_escaped.Given as goal

-- the bytes taken and the escape of the remaining text make up the whole; no put failed
abbrev pub invariant-loop-run : goal.invariant-loop-run
invariant-loop-run g l = record {
  is_text : shadow (Utf8 l.rest);
  whole : g.S.Sink.taken l.sink ++ g.E.Escape.escaped l.escape l.rest ≡ g.S.Sink.taken l.initial.sink ++ g.E.Escape.escaped l.escape l.text;
  least : length (g.S.Sink.taken l.initial.sink) ≤ length (g.S.Sink.taken l.sink);
  failures : g.S.Sink.failed l.sink ≡ g.S.Sink.failed l.initial.sink;
}

abbrev pub decreases-loop-run : goal.decreases-loop-run
decreases-loop-run g l = length l.rest
