use Rattle.std.proofs.Common.{◌≡◌, drop, find}
use Rattle.std.specs.Str.{bytes_eq}
use Rattle.std.specs.String.{string_bytes}
use Rattle.cc_replies.proofs.environment.EnvValues.find.Given as goal

abbrev pub invariant-loop-variable : goal.invariant-loop-variable
invariant-loop-variable l =
    find (λ v. bytes_eq (string_bytes v.0) l.name) (drop l.variable-index l.variable-items)
    ≡ find (λ v. bytes_eq (string_bytes v.0) l.name) l.variable-items
