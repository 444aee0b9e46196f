use Rattle.std.proofs.Common.{◌≡◌, ◌∙◌, ◌+◌, arith, false, get_or, rules, sym, take, true}
use Rattle.complgen_check.specs.Places.{column_after, ends_line}
use Rattle.complgen_check.proofs.MarkLemmas.{column_next, line_same}
use Rattle.complgen_check.proofs.errors.line_numbers.next_mark.Goals as goal

pub returns-then-not-begins_character-clause-mark :
    goal.returns-then-not-begins_character-clause-mark
returns-then-not-begins_character-clause-mark c =
    let bytes = c.args.bytes.now in
    let i = c.args.mark.offset in
    let ends : ends_line (get_or bytes i 0) ≡ false = search rules in
    let next : column_after (take (i + 1) bytes) ≡ column_after (take i bytes) + 0 =
    column_next bytes i c.requires.more ends false (search rules) in
    record {
      inside = omega arith;
      line = c.requires.mark.line ∙ sym (line_same bytes i c.requires.more ends);
      column = omega arith;
    }

pub returns-clause-mark : goal.returns-clause-mark
returns-clause-mark c =
    let bytes = c.args.bytes.now in
    let i = c.args.mark.offset in
    let ends : ends_line (get_or bytes i 0) ≡ false = search rules in
    let next : column_after (take (i + 1) bytes) ≡ column_after (take i bytes) + 1 =
    column_next bytes i c.requires.more ends true (search rules) in
    record {
      inside = omega arith;
      line = c.requires.mark.line ∙ sym (line_same bytes i c.requires.more ends);
      column = omega arith;
    }
