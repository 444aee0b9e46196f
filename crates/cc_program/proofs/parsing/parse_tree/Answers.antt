use Rattle.std.proofs.Common.{refl}
use Rattle.cc_program.specs.Statuses.{carried, refused}
use Rattle.cc_program.proofs.parsing.parse_tree.Goals as goal

pub returns-in-Ok : goal.returns-in-Ok
returns-in-Ok g c = carried _ _ c.in-Ok.ensures c.carried.ensures refl

pub returns-in-Err : goal.returns-in-Err
returns-in-Err g c = refused _ _ c.in-Err.ensures c.explained.ensures

pub carried-requires : goal.carried-requires
carried-requires g c = c.requires.work _ c.in-Ok.ensures
