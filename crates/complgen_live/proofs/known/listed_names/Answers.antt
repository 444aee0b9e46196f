use Rattle.std.proofs.Common.{refl, subst, sym, map, [], arith}
use Rattle.std.proofs.lemmas.List.{append-nil}
use Rattle.std.proofs.Math.ListN.{drop_of_length-le}
use Rattle.std.specs.String.{string_bytes}
use Rattle.complgen_live.specs.KnownNames.{AreListed}
use Rattle.complgen_live.proofs.Names.{one_more_folder}
use Rattle.complgen_live.proofs.known.listed_names.Goals as goal

pub loop-path-preserved : goal.loop-path-preserved
loop-path-preserved g c =
    one_more_folder string_bytes string_bytes (g.D.Folder.facts c.args.folder.now).names
    c.args.folders.now c.path-item.result c.as_str.result.now c.loop-path.path-index
    c.loop-path.names.items c.in_ok-here.here.items c.append.new.self.items
    (omega arith) c.path-item.is c.as_str.ensures.value c.in_ok-here.ensures
    c.in_ok-append.ensures.items c.loop-path.invariant

pub returns : goal.returns
returns g c =
    let lists = (g.D.Folder.facts c.args.folder.now).names in
    let folders = c.args.folders.now in
    subst (AreListed lists (map string_bytes folders))
    (append-nil (map string_bytes c.loop-path.names.items))
    (c.loop-path.invariant []
    (subst (λ left. AreListed lists (map string_bytes left) [])
    (sym (drop_of_length-le folders c.loop-path-test.false)) refl))
