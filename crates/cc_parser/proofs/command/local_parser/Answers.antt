use Rattle.std.proofs.Common.{◌∙◌, true}
use Rattle.std.proofs.lemmas.Result.{IfOk-weaker}
use Rattle.clap.specs.Words.{app_of}
use Rattle.cc_command.specs.Tree.{Tree}
use Rattle.cc_parser.proofs.Localizing.{has_globals-local, takes_local}
use Rattle.cc_parser.proofs.command.local_parser.Goals as goal

pub returns : goal.returns
returns c =
    let tree : Tree = c.args.command.now in
    let local = has_globals-local tree in record {
      app = IfOk-weaker c.parser_of.result _ _ (λ made is. is local) c.parser_of.ensures.app;
      globals = IfOk-weaker c.parser_of.result _ _ (λ made same. same ∙ local) c.parser_of.ensures.globals;
      taken = IfOk-weaker c.parser_of.result _ _ (λ made is fits. takes_local true tree (app_of made) (is local) fits) c.parser_of.ensures.app;
    }
