use Rattle.std.proofs.Common.{◌≡◌, ◌++◌, length, string_bytes}
use denote.Text.{Utf8}
use denote.Shadow.{shadow}
use Rattle.cc_quote.proofs.escape.push_escaped.Given as goal

-- the text so far and the escape of the remaining text make up the whole
abbrev pub invariant-loop-run : goal.invariant-loop-run
invariant-loop-run g l = record {
  is_text : shadow (Utf8 l.rest);
  whole : string_bytes l.made ++ g.E.Escape.escaped l.escape l.rest ≡ string_bytes l.initial.made ++ g.E.Escape.escaped l.escape l.text;
}

abbrev pub decreases-loop-run : goal.decreases-loop-run
decreases-loop-run g l = length l.rest
