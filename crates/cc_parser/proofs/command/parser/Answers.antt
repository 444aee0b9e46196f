use Rattle.std.proofs.Common.{◌≡◌, IfOk, false, subst}
use Rattle.std.proofs.lemmas.Result.{IfOk-weaker}
use Rattle.clap.specs.Words.{app_of}
use Rattle.clap.specs.declared.builder.command.Command.TheViews.{out-Command}
use Rattle.cc_command.specs.Tree.{Tree}
use Rattle.cc_parser.specs.Parsers.{IsAppOf, has_globals}
use Rattle.cc_parser.proofs.Localizing.{same_tree}
use Rattle.cc_parser.proofs.Taking.{takes_tree}
use Rattle.cc_parser.proofs.command.parser.Goals as goal

pub returns : goal.returns
returns c =
    let tree : Tree = c.args.command.now in
    let app = subst (λ (t : Tree). IfOk c.parser_of.result (λ made. has_globals t ≡ false → IsAppOf t (app_of made))) (same_tree tree) c.parser_of.ensures.app in record {
      app = app;
      globals = subst (λ (t : Tree). IfOk c.parser_of.result (λ made. (out-Command made).has_globals ≡ has_globals t)) (same_tree tree) c.parser_of.ensures.globals;
      taken = IfOk-weaker c.parser_of.result _ _ (λ made is local fits. takes_tree tree (app_of made) (is local) fits) app;
    }
