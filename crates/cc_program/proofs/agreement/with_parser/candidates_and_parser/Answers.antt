use Rattle.std.proofs.Common.{◌≡◌, length, subst, true}
use Rattle.clap.specs.Words.{app_of}
use Rattle.cc_command.specs.Tree.{Tree}
use Rattle.cc_engine.specs.Completion.{is_in_range}
use Rattle.cc_program.proofs.Offers.{agrees_built, completes_built, parser_built}
use Rattle.cc_program.proofs.agreement.with_parser.candidates_and_parser.Goals as goal

pub returns : goal.returns
returns g c =
    let same = c.in_ok-found.ensures.built in
    let completes = c.in_ok-found.ensures.candidates in record {
      built = same;
      candidates = completes_built _ _ _ _ _ _ same completes;
      differ = c.in_ok-found.ensures.differ;
      in_range = subst (λ (tree : Tree). is_in_range tree.node (length c.args.words.items) c.args.index ≡ true) same c.in_ok-found.ensures.in_range;
      parser = parser_built _ _ (app_of c.in_ok-parser.parser) _ same c.in_ok-parser.ensures.app c.in_ok-parser.ensures.globals c.in_ok-parser.ensures.taken;
      agree = agrees_built _ _ _ _ _ _ _ same completes c.in_ok-parser.ensures.taken;
      errors = tt;
    }
