use Rattle.std.proofs.Common.{◌≡◌, ◌++◌, drop, map}
use Rattle.std.specs.String.{string_bytes}
use Rattle.complgen_c.specs.Listings.{handed}
use Rattle.complgen_c.proofs.requests.texts.Given as goal

abbrev pub invariant-loop-slice : goal.invariant-loop-slice
invariant-loop-slice l =
    map string_bytes l.texts.items ++ handed (drop l.slice-index l.slices) ≡ handed l.slices
