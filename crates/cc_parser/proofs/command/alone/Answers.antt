use Rattle.std.proofs.Common.{◌≡◌, ◌∙◌, Bool, List, false, subst, sym}
use Rattle.std.proofs.lemmas.Result.{IfOk-weaker}
use Rattle.cc_arg.specs.declared.parts.ArgParts.{ArgParts as Argument}
use Rattle.clap.specs.Simple.{App}
use Rattle.clap.specs.Words.{app_of}
use Rattle.cc_command.specs.Tree.{Tree}
use Rattle.cc_parser.specs.Local.{local_arguments, local_forest, local_node}
use Rattle.cc_parser.specs.Parsers.{AddsArguments, any_global, named_app}
use Rattle.cc_parser.proofs.Localizing.{named_app-local}
use Rattle.cc_parser.proofs.command.alone.Goals as goal

pub returns-clause-app : goal.returns-clause-app
returns-clause-app c =
    let local : Bool = c.args.local in
    let tree : Tree = c.args.command.now in
    IfOk-weaker c.with_arguments.result _ _ (λ made adds.
    subst (λ (args : List Argument). any_global (local_arguments local args) ≡ false → AddsArguments (local_arguments local args)
    (named_app (local_node local tree.node) (local_forest local tree.children)) (app_of made)) c.get_arguments.ensures (λ none.
    subst (λ (a : App). AddsArguments (local_arguments local c.get_arguments.result.now) a (app_of made))
    (c.in_ok-parser.ensures.app ∙ sym (named_app-local local tree.node tree.children)) (adds none))) c.with_arguments.ensures.app
