use Rattle.std.proofs.Common.{Some, ap, sym, ◌∙◌, ◌||◌}
use Rattle.std.specs.Option.{option_copied}
use Rattle.cc_engine.specs.Finished.{share}
use Rattle.cc_engine.specs.Seen.{is_seen}
use Rattle.cc_engine.proofs.InTurn.{seen_more}
use Rattle.cc_engine.proofs.gathering.finishing.insert_id.Goals as goal

pub returns-clause-kept : goal.returns-clause-kept
returns-clause-kept c = λ other.
    seen_more c.args.seen.now c.insert.new.self c.new.result c.in_ok-insert.ensures.updates.0 other
    ∙ ap (λ id. is_seen c.args.seen.now other || share id other) (ap Some c.new.ensures ∙ sym (ap option_copied c.in-Some.is) ∙ c.get_id.ensures)
