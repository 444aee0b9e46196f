use Rattle.std.proofs.Common.{ℕ, List, sym, ◌∙◌, ap, subst, Some}
use Rattle.std.proofs.lemmas.Str.{IsUtf8-past_char}
use Rattle.cc_arg.specs.declared.parts.ArgParts.{ArgParts as Arg}
use Rattle.cc_engine.specs.Words.{EndsWith}
use Rattle.cc_engine.specs.declared.walking.word_class.ValueCharacter.{ValueCharacter}
use Rattle.cc_engine.proofs.Cluster.{ends_more, past_end, past_found, past_none}
use Rattle.cc_engine.proofs.walking.word_class.value_character.Goals as goal

pub returns-in-Some-value_argument-clause-value : goal.returns-in-Some-value_argument-clause-value
returns-in-Some-value_argument-clause-value c =
    let before = c.loop-character.rest.rest.now in
    let rest = c.next.new.self.rest.now in
    let after = c.new-in-Some-value_argument.ensures ∙ c.as_str.ensures in
    ap (λ (s : List ℕ). let found : ValueCharacter = record { argument = c.new.result; after = s } in Some found) after
    ∙ ap (λ (a : Arg). let found : ValueCharacter = record { argument = a; after = rest } in Some found) c.new.ensures
    ∙ sym (past_found c.args.arguments.now before rest c.in-Some.character c.in-Some-value_argument.argument.now c.loop-character.invariant.utf8
    (IsUtf8-past_char before rest c.in-Some.character c.loop-character.invariant.utf8 c.in-Some.ensures.steps.0) c.in-Some.ensures.steps.0 c.in-Some-value_argument.ensures)
    ∙ c.loop-character.invariant.rest

pub returns-in-Some-value_argument-clause-after : goal.returns-in-Some-value_argument-clause-after
returns-in-Some-value_argument-clause-after c =
    let after = c.new-in-Some-value_argument.ensures ∙ c.as_str.ensures in
    subst (λ s. EndsWith c.args.characters.now s) (sym after)
    (ends_more c.args.characters.now c.loop-character.rest.rest.now c.next.new.self.rest.now c.in-Some.character c.loop-character.invariant.ends c.in-Some.ensures.steps.0)

pub loop-character-preserved : goal.loop-character-preserved
loop-character-preserved c = record {
  next = tt;
  finished = tt;
  utf8 = IsUtf8-past_char c.loop-character.rest.rest.now c.next.new.self.rest.now c.in-Some.character c.loop-character.invariant.utf8 c.in-Some.ensures.steps.0;
  ends = ends_more c.args.characters.now c.loop-character.rest.rest.now c.next.new.self.rest.now c.in-Some.character c.loop-character.invariant.ends c.in-Some.ensures.steps.0;
  rest = sym (past_none c.args.arguments.now c.loop-character.rest.rest.now c.next.new.self.rest.now c.in-Some.character c.loop-character.invariant.utf8 c.in-Some.ensures.steps.0 (sym c.in_default-value_argument.ensures)) ∙ c.loop-character.invariant.rest;
}

pub returns-clause-value : goal.returns-clause-value
returns-clause-value c = sym (past_end c.args.arguments.now c.loop-character.rest.rest.now c.in_default.ensures.steps.0.0) ∙ c.loop-character.invariant.rest
