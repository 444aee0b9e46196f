use Rattle.std.proofs.Common.{◌∙◌, ◌++◌, ◌||◌, ap, Bool, true, not, is_some, Some}
use Rattle.std.proofs.lemmas.Result.{IfOk-weaker}
use Rattle.clap.specs.Simple.{Shape, app_of_fields, new_app, on_top}
use Rattle.clap.specs.declared.builder.command.Command.TheOpen.{Command-F}
use Rattle.clap.specs.declared.builder.command.Command.{Command}
use Rattle.cc_parser.specs.Parsers.{has_generated}
use Rattle.cc_parser.proofs.RuleParts.{is_some-copied}
use Rattle.std.proofs.Math.Bool.{or-false}
use Rattle.cc_parser.proofs.CommandParts.{with_settings}
use Rattle.cc_parser.proofs.command.named.Goals as goal

pub returns-clause-app : goal.returns-clause-app
returns-clause-app c =
    let no_name : Bool = c.is_no_binary_name_set.result in
    let external : Bool = c.is_allow_external_subcommands_set.result in
    let disabled : Bool = not c.has_generated.result in
    let required : Bool = c.is_subcommand_required_set.result in
    let or_help : Bool = c.is_arg_required_else_help_set.result in
    let fields = c.disable_help_subcommand-parser.ensures
    ∙ ap (λ (f : Command-F Command). record f { disable_help_subcommand = disabled })
    (c.disable_version_flag.ensures ∙ ap (λ (f : Command-F Command). record f { disable_version_flag = true })
    (c.disable_help_flag.ensures ∙ ap (λ (f : Command-F Command). record f { disable_help_flag = true })
    (c.arg_required_else_help.ensures ∙ ap (λ (f : Command-F Command). record f { arg_required_else_help = or_help })
    (c.subcommand_required.ensures ∙ ap (λ (f : Command-F Command). record f { subcommand_required = required })
    (c.allow_external_subcommands.ensures ∙ ap (λ (f : Command-F Command). record f { allow_external_subcommands = external })
    (c.no_binary_name.ensures ∙ ap (λ (f : Command-F Command). record f { no_binary_name = no_name })
    (c.display_order.ensures ∙ ap (λ (f : Command-F Command). record f { disp_ord = Some c.get_display_order.result }) c.hide.ensures))))))) in
    let set = ap app_of_fields fields
    ∙ with_settings c.new.result c.get_name.result.now c.new.ensures.app (Some c.get_display_order.result) c.is_hide_set.result no_name external disabled required or_help in
    let version = c.with_version-parser.ensures.app
    ∙ ap (on_top (λ (top : Shape). record top { has_version = is_some c.get_version.result || top.has_version })) (c.with_texts-parser.ensures.app ∙ set) in
    IfOk-weaker c.with_aliases-2.result _ _ (λ parser e.
    e ∙ ap (on_top (λ (top : Shape). record top { aliases = top.aliases ++ c.get_aliases.result.now }))
    (c.in_ok-parser.ensures.app ∙ ap (on_top (λ (top : Shape). record top { aliases = top.aliases ++ c.get_visible_aliases.result.now })) version)
    ∙ (λ i. on_top (λ (top : Shape). record top {
      aliases = c.get_visible_aliases.ensures i ++ c.get_aliases.ensures i;
      is_plain = not (c.is_allow_external_subcommands_set.ensures i);
      no_binary_name = c.is_no_binary_name_set.ensures i;
      disable_help_flag = true;
      disable_version_flag = true;
      disable_help_subcommand = not ((c.has_generated.ensures ∙ ap has_generated c.get_subcommands.ensures) i);
      subcommand_required = c.is_subcommand_required_set.ensures i;
      arg_required_else_help = c.is_arg_required_else_help_set.ensures i;
      has_version = (or-false (is_some c.get_version.result) ∙ is_some-copied _ _ c.get_version.ensures) i;
    }) (new_app (c.get_name.ensures i)))) c.with_aliases-2.ensures.app
