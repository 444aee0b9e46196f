use Rattle.std.proofs.Common.{ap, sym, ◌∙◌, cond, Some, None}
use Rattle.std.specs.BTreeMap.{get}
use Rattle.std.specs.Option.{option_copied, option_eq, option_or}
use Rattle.std.specs.Str.{bytes_eq}
use Rattle.cc_candidates.specs.Candidate.{texts_cmp}
use Rattle.cc_engine.proofs.InTurn.{rank_added}
use Rattle.cc_engine.proofs.gathering.finishing.rank_for.Goals as goal

pub returns-clause-kept : goal.returns-clause-kept
returns-clause-kept c = λ other.
    rank_added c.args.known.now c.insert.new.self c.tag_of-tag.result c.args.next (sym c.get.ensures.value ∙ ap option_copied c.in_default.is) c.in_ok-insert.ensures.updates.0 other
    ∙ ap (λ tag. option_or (get texts_cmp c.args.known.now other) (cond (option_eq bytes_eq tag other) (Some c.args.next) None)) c.tag_of-tag.ensures
