use Rattle.std.proofs.Common.{subst, refl, rules}
use Rattle.std.specs.Fmt.{HasWritten}
use Rattle.std.proofs.lemmas.Grind.{put_two}
use Rattle.cc_arg.proofs.PrintedNames.{names_more, names_none, names_one}
use Rattle.cc_arg.proofs.printed.write_names.Goals as goal

pub returns-in-None : goal.returns-in-None
returns-in-None g c = λ plain ok.
    subst (λ text. HasWritten g.W.Write.write_str_gives c.args.f.now text c.write_repeated.new.f)
    (names_none c.args.argument.now _ c.may_be_left_out-optional.ensures _ _ _ c.get_value_names.ensures c.in-None.ensures.cases (search rules) c.get_id.ensures)
    (c.write_repeated.ensures plain ok)

pub returns-then-is_empty : goal.returns-then-is_empty
returns-then-is_empty g c = λ plain ok.
    subst (λ text. HasWritten g.W.Write.write_str_gives c.args.f.now text c.write_repeated-then-is_empty.new.f)
    (names_one c.args.argument.now _ c.may_be_left_out-optional.ensures _ c.in-Some.others.now _ c.in-Some.name.now _ c.get_value_names.ensures (search rules) (search rules) c.as_str.ensures.text (search rules))
    (c.write_repeated-then-is_empty.ensures plain ok)

pub returns-in_ok-write_placeholder-in-Some : goal.returns-in_ok-write_placeholder-in-Some
returns-in_ok-write_placeholder-in-Some g c = λ plain ok.
    let first = c.in_ok-write_placeholder-in-Some.ensures plain refl in
    put_two g.W.Write.write_str_gives c.args.f.now _ c.write_others.new.f _ _ _ first (c.write_others.ensures first.plain ok)
    (names_more c.args.argument.now _ c.may_be_left_out-optional.ensures _ c.in-Some.others.now c.in-Some.name.now _ c.get_value_names.ensures (search rules) (λ none. search (rules, none)) c.as_str-in-Some.ensures.text)
