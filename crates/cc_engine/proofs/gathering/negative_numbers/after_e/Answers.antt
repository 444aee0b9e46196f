use Rattle.std.proofs.Common.{Some, None, sym, arith}
use Rattle.std.proofs.lemmas.List.{drop_all}
use Rattle.std.proofs.lemmas.Str.Pattern.{split_once_first}
use Rattle.cc_engine.specs.Numbers.{letter_e}
use Rattle.cc_engine.proofs.gathering.negative_numbers.after_e.Goals as goal

pub returns-in-Some : goal.returns-in-Some
returns-in-Some c =
    (split_once_first letter_e c.args.text.now (Some (c.in-Some.field-0-0, c.in-Some.after)) c.in-Some.ensures.cases (omega arith)).2

pub returns-in-None : goal.returns-in-None
returns-in-None c =
    let none = split_once_first letter_e c.args.text.now None c.in-None.ensures.cases (omega arith) in
    sym (drop_all _ c.args.text.now (omega (arith, none)))
