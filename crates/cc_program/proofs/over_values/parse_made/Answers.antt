use Rattle.std.proofs.Common.{Ok, map, refl, string_bytes, subst}
use Rattle.std.proofs.lemmas.Result.{err_from_is_err_and}
use Rattle.cc_command.specs.Tree.{Tree}
use Rattle.cc_program.specs.Statuses.{not_made, out_of_memory}
use Rattle.cc_program.proofs.Ends.{parsed_by}
use Rattle.cc_program.proofs.over_values.parse_made.Goals as goal

pub returns-in_err-tree : goal.returns-in_err-tree
returns-in_err-tree g c =
    let p = err_from_is_err_and c.from_residual.result c.from_residual.ensures.1 in
    rw (p.1, p.2) (not_made _ c.in_err-tree.ensures refl)

pub returns-in-Err : goal.returns-in-Err
returns-in-Err g c = rw c.in-Err.ensures.memory (out_of_memory refl)

pub returns-in-Ok : goal.returns-in-Ok
returns-in-Ok g c =
    parsed_by _ _ _ _ _ _ _ c.in_ok-tree.tree _ _ c.in_ok-tree.ensures c.in-Ok.ensures.ok c.parse_tree-ended.ensures

pub parse_tree-ended-requires-clause-work : goal.parse_tree-ended-requires-clause-work
parse_tree-ended-requires-clause-work g c found parses =
    c.requires.work c.in_ok-tree.tree c.in_ok-tree.ensures found
    (subst (λ (built : Tree). g.P.WordParser.parses c.args.parser.now built (map string_bytes c.args.words.now) (Ok found))
    c.in-Ok.ensures.ok parses)
