use Rattle.cc_engine.proofs.ValuesInTurn.{same}
use Rattle.cc_engine.proofs.questions.asked_values.Goals as goal

pub returns-clause-asked : goal.returns-clause-asked
returns-clause-asked c =
    let place = c.place_at-place.result in record {
      tree = place.command.now;
      state = place.state;
      word = place.word.now;
      place = c.place_at-place.ensures;
      asked = c.in_ok-values_at.ensures;
      same = same place.command.now place.state place.word.now;
    }
