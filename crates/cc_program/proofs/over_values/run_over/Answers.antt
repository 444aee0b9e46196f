use Rattle.std.proofs.Common.{Err, Ok, Some, refl}
use Rattle.cc_program.specs.Statuses.{completed, parsed}
use Rattle.cc_program.proofs.Ends.{parse_untouched}
use Rattle.cc_program.proofs.Requested.{error_requested, none_of, some_of}
use Rattle.cc_program.proofs.over_values.run_over.Goals as goal

pub returns-in-Err : goal.returns-in-Err
returns-in-Err g c =
    completed (Err _) _ (error_requested _ _ _ _ _ _ _ _ _ _ c.in-Err.ensures) c.in-Err.ensures refl refl

pub returns-in-Some : goal.returns-in-Some
returns-in-Some g c =
    let asked = some_of _ _ _ _ _ _ _ _ _ c.in-Ok.ended c.in-Some.status c.in-Some.is c.in-Ok.ensures in
    completed (Ok (Some c.in-Some.status)) _ asked.0 asked.1 c.from.ensures refl

pub returns : goal.returns
returns g c =
    let none = none_of _ _ _ _ _ _ _ _ _ c.in-Ok.ended c.in-None.is c.in-Ok.ensures in
    parsed _ none.0 (parse_untouched _ _ _ _ _ _ _ none.1 _ _ c.parse_made-ended.ensures)

pub parse_made-ended-requires-clause-work : goal.parse_made-ended-requires-clause-work
parse_made-ended-requires-clause-work g c =
    c.requires.work (none_of _ _ _ _ _ _ _ _ _ c.in-Ok.ended c.in-None.is c.in-Ok.ensures).0
