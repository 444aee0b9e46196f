use Rattle.std.proofs.Common.{◌∙◌, ap}
use Rattle.clap.specs.Simple.{app_of_fields}
use Rattle.complgen_command_line.proofs.Lines.{first, has_globals, one_more}
use Rattle.complgen_command_line.proofs.command_line.man.Goals as goal

pub returns : goal.returns
returns c =
    one_more _ _ c.arg-command.result c.with_arg.result _
    (first _ _ _ _ c.arg-command.result (record {
      line_is = ap app_of_fields c.after_help-command.ensures ∙ ap app_of_fields c.about.ensures
          ∙ c.new.ensures.app;
      local = ap has_globals c.after_help-command.ensures ∙ ap has_globals c.about.ensures
          ∙ c.new.ensures.local;
    })
    c.option.ensures c.arg-command.ensures)
    c.tree.ensures c.with_arg.ensures
