use Rattle.std.proofs.Common.{◌≡◌, ◌∙◌, [], ◌∷◌, ◌++◌, ap, rules}
use Rattle.cc_command.specs.Tree.{forest_of}
use Rattle.cc_command.proofs.BuiltAgain.{helped, built_forest-helped}
use Rattle.cc_command.proofs.Forests.{helped-push}
use Rattle.cc_command.specs.Texts.{fixed_texts}
use Rattle.cc_command.proofs.command.build.help.help_command.Goals as goal

pub generated_command-requires-2 : goal.generated_command-requires-2
unfolding fixed_texts
generated_command-requires-2 c =
    let pushed : c.push.new.self.items ≡ c.in_ok-children.children.items ++ c.in_ok-generated_command.field-0 ∷ [] = search rules in
    let whole : forest_of c.push.new.self.items ≡ helped c.in_ok-name.name (forest_of c.args.siblings.now) =
    ap forest_of pushed ∙ helped-push c.in_ok-name.name c.in_ok-children.children.items (forest_of c.args.siblings.now) c.in_ok-generated_command.field-0 (search rules) (search rules) in
    record { stays = rw whole (built_forest-helped [] c.in_ok-name.name (forest_of c.args.siblings.now)) }

pub returns : goal.returns
unfolding fixed_texts
returns c =
    let pushed : c.push.new.self.items ≡ c.in_ok-children.children.items ++ c.in_ok-generated_command.field-0 ∷ [] = search rules in
    let whole : forest_of c.push.new.self.items ≡ helped c.in_ok-name.name (forest_of c.args.siblings.now) =
    ap forest_of pushed ∙ helped-push c.in_ok-name.name c.in_ok-children.children.items (forest_of c.args.siblings.now) c.in_ok-generated_command.field-0 (search rules) (search rules) in
    search rules
