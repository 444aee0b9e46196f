use Rattle.std.proofs.Common.{◌≡◌, drop}
use Rattle.std.specs.List.{list_any}
use Rattle.std.specs.Str.{bytes_eq}
use Rattle.complgen_tree_file.proofs.objects.is_among.Given as goal

abbrev pub invariant-loop-known : goal.invariant-loop-known
invariant-loop-known l =
    list_any (λ known. bytes_eq known.now l.key) (drop l.known-index l.keys) ≡ list_any (λ known. bytes_eq known.now l.key) l.keys
