use Rattle.std.proofs.Common.{◌∙◌, ◌+◌, add-one, ap, sym, map, string_bytes}
use Rattle.std.specs.Prelude.{drop, take}
use Rattle.std.proofs.lemmas.List.{take-map}
use Rattle.cc_engine.specs.Completion.{names_before}
use Rattle.cc_env.specs.Asking.{words_for}
use Rattle.cc_env.proofs.asking.asked.wanted_command.Goals as goal

pub returns-clause-wanted : goal.returns-clause-wanted
returns-clause-wanted c = record {
  asked = c.in_ok-asked.asked;
  asks = c.in_ok-asked.ensures.asked;
  is = c.in_ok-found.ensures
      ∙ ap (words_for c.in_ok-asked.asked) (c.behind_name.ensures
      ∙ ap (drop (names_before c.asked_argument.new.command.node))
      (sym (take-map string_bytes (c.args.index + 1) c.args.words.now)
      ∙ ap (λ n. take n (map string_bytes c.args.words.now)) (add-one c.args.index)));
}
