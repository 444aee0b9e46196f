use Rattle.std.proofs.Common.{rules}
use Rattle.std.specs.Str.Iter.{chars_rest}
use Rattle.complgen_tree_file.proofs.TreeFormLemmas.{not_only_one, only_one}
use Rattle.complgen_tree_file.proofs.values.only_character.Goals as goal

pub returns-in-Some : goal.returns-in-Some
returns-in-Some c =
    not_only_one c.args.text.now (chars_rest c.next.new.self) (chars_rest c.next-2.new.self)
    c.in_ok-first.first c.in-Some.field-0 c.utf8.text (search rules) (search rules)

pub returns-in-None : goal.returns-in-None
returns-in-None c =
    only_one c.args.text.now (chars_rest c.next.new.self) c.in_ok-first.first c.utf8.text
    (search rules) (search rules)
