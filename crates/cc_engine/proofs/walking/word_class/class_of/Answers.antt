use Rattle.std.proofs.Common.{sym, ◌∙◌, lit<, Some, None, true, false}
use Rattle.std.proofs.lemmas.Str.Pattern.{strip_prefix_char, split_parts}
use Rattle.std.specs.Prelude.{chars}
use Rattle.cc_base.specs.Bytes.{dash, equals}
use Rattle.cc_engine.specs.Words.{TwoHyphens, Long, Short, Other}
use Rattle.cc_engine.proofs.Forms.{form_plain, form_hyphen, form_short, form_two, form_flag, form_equals, class_by}
use Rattle.cc_engine.proofs.walking.word_class.class_of.Goals as goal

pub returns-in_default : goal.returns-in_default
returns-in_default c = sym (class_by c.args.arguments.now c.args.word.now Other (form_plain c.args.word.now (strip_prefix_char dash c.args.word.now None c.in_default.ensures.cases (lit< tt))))

pub returns-then-is_empty : goal.returns-then-is_empty
returns-then-is_empty c =
    let first = strip_prefix_char dash c.args.word.now (Some c.in-Some.after) c.in-Some.ensures.cases (lit< tt) in
    sym (class_by c.args.arguments.now c.args.word.now Other (form_hyphen c.args.word.now c.in-Some.after.now first (sym c.if-is_empty.ensures)))

pub returns-in_default-strip_prefix : goal.returns-in_default-strip_prefix
returns-in_default-strip_prefix c =
    let first = strip_prefix_char dash c.args.word.now (Some c.in-Some.after) c.in-Some.ensures.cases (lit< tt) in
    c.cluster_class.ensures
    ∙ sym (class_by c.args.arguments.now c.args.word.now (Short (chars c.in-Some.after.now)) (form_short c.args.word.now c.in-Some.after.now first (sym c.if-is_empty.ensures) (strip_prefix_char dash c.in-Some.after.now None c.in_default-strip_prefix.ensures.cases (lit< tt))))

pub returns-then-is_empty-2 : goal.returns-then-is_empty-2
returns-then-is_empty-2 c =
    let first = strip_prefix_char dash c.args.word.now (Some c.in-Some.after) c.in-Some.ensures.cases (lit< tt) in
    let second = strip_prefix_char dash c.in-Some.after.now (Some c.in-Some-strip_prefix.long) c.in-Some-strip_prefix.ensures.cases (lit< tt) in
    sym (class_by c.args.arguments.now c.args.word.now TwoHyphens (form_two c.args.word.now c.in-Some.after.now c.in-Some-strip_prefix.long.now first second (sym c.if-is_empty-2.ensures)))

pub returns-in-None : goal.returns-in-None
returns-in-None c =
    let first = strip_prefix_char dash c.args.word.now (Some c.in-Some.after) c.in-Some.ensures.cases (lit< tt) in
    let second = strip_prefix_char dash c.in-Some.after.now (Some c.in-Some-strip_prefix.long) c.in-Some-strip_prefix.ensures.cases (lit< tt) in
    let none = split_parts equals c.in-Some-strip_prefix.long.now None c.in-None.ensures.cases (lit< tt) in
    c.flag_class.ensures
    ∙ sym (class_by c.args.arguments.now c.args.word.now (Long c.in-Some-strip_prefix.long.now false) (form_flag c.args.word.now c.in-Some.after.now c.in-Some-strip_prefix.long.now first second (sym c.if-is_empty-2.ensures) none))

pub returns-in-Some-split_once : goal.returns-in-Some-split_once
returns-in-Some-split_once c =
    let first = strip_prefix_char dash c.args.word.now (Some c.in-Some.after) c.in-Some.ensures.cases (lit< tt) in
    let second = strip_prefix_char dash c.in-Some.after.now (Some c.in-Some-strip_prefix.long) c.in-Some-strip_prefix.ensures.cases (lit< tt) in
    let parts = split_parts equals c.in-Some-strip_prefix.long.now (Some (c.in-Some-split_once.flag, c.in-Some-split_once.field-0-1)) c.in-Some-split_once.ensures.cases (lit< tt) in
    c.flag_class-in-Some-split_once.ensures
    ∙ sym (class_by c.args.arguments.now c.args.word.now (Long c.in-Some-split_once.flag.now true) (form_equals c.args.word.now c.in-Some.after.now c.in-Some-strip_prefix.long.now c.in-Some-split_once.flag.now c.in-Some-split_once.field-0-1.now first second (sym c.if-is_empty-2.ensures) parts.0 parts.1))
