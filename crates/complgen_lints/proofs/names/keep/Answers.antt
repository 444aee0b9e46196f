use Rattle.std.proofs.Common.{Some, cond, ap, ◌∙◌}
use Rattle.std.specs.Str.{bytes_eq}
use Rattle.std.proofs.lemmas.Map.Text.{hash_map_updates_str}
use Rattle.complgen_lints.specs.PlacedNames.{owner_in}
use Rattle.complgen_lints.proofs.names.keep.Goals as goal

pub returns-clause-kept : goal.returns-clause-kept
unfolding owner_in
returns-clause-kept c = λ word.
    hash_map_updates_str c.args.name.now c.args.seen.now c.insert.new.self (Some c.new.result)
    c.in_ok-insert.ensures.updates word
    ∙ ap (λ owner. cond (bytes_eq c.args.name.now word) (Some owner) (owner_in c.args.seen.now word)) c.new.ensures
