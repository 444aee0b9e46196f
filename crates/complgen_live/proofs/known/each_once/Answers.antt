use Rattle.std.proofs.Common.{◌∙◌, ap, map}
use Rattle.std.specs.Cmp.Lexicographic.{nat_list_cmp_total}
use Rattle.std.specs.List.{dedup}
use Rattle.std.specs.Str.{bytes_eq}
use Rattle.std.specs.String.{string_bytes}
use Rattle.std.proofs.lemmas.List.Filters.{dedup_is}
use Rattle.std.proofs.lemmas.List.Sorted.{ranks_by}
use Rattle.cc_base.proofs.Sorted.{map-in_order, sorted_is}
use Rattle.complgen_live.specs.KnownNames.{comes_before}
use Rattle.complgen_live.proofs.Names.{map-dedup}
use Rattle.complgen_live.proofs.known.each_once.Goals as goal

pub returns : goal.returns
returns c =
    ap (map string_bytes) (dedup_is _ _ _ c.dedup.ensures.filtered)
    ∙ map-dedup string_bytes bytes_eq c.sort.new.self.items
    ∙ ap (dedup bytes_eq)
    (ap (map string_bytes) (sorted_is (λ a b. comes_before (string_bytes a) (string_bytes b))
    (ranks_by nat_list_cmp_total string_bytes) c.args.names.now.items c.sort.new.self.items
    c.in_ok-sort.ensures.sorted c.in_ok-sort.ensures.stable)
    ∙ map-in_order string_bytes comes_before c.args.names.now.items)
