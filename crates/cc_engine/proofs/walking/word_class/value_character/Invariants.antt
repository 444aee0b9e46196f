use Rattle.std.proofs.Common.{◌≡◌, chars}
use Rattle.std.specs.Prelude.{IsUtf8}
use Rattle.cc_engine.specs.WordClasses.{value_character}
use Rattle.cc_engine.specs.Words.{EndsWith}
use Rattle.cc_engine.proofs.walking.word_class.value_character.Given as goal

abbrev pub invariant-loop-character : goal.invariant-loop-character
invariant-loop-character l = record {
  next : (goal.iterator-loop-character).can_next l.rest;
  finished : (goal.iterator-loop-character).is_finite l.rest;
  utf8 : IsUtf8 l.rest.rest.now;
  ends : EndsWith l.characters l.rest.rest.now;
  rest : value_character l.arguments (chars l.rest.rest.now) ≡ value_character l.arguments (chars l.characters);
}
