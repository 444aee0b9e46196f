use Rattle.std.proofs.Common.{◌≡◌, drop}
use Rattle.std.specs.List.{list_all}
use Rattle.cc_quote.specs.FishQuote.{is_fish_safe}
use Rattle.cc_quote.proofs.fish.are_safe.Given as goal

abbrev pub invariant-loop-byte : goal.invariant-loop-byte
invariant-loop-byte l =
    list_all is_fish_safe (drop l.byte-index l.bytes) ≡ list_all is_fish_safe l.bytes
