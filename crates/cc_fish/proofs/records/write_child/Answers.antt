use Rattle.std.proofs.Common.{◌≡◌, ◌∷◌, ap, flat_map, refl, rules}
use Rattle.std.specs.Option.{option_copied}
use Rattle.cc_base.proofs.WrittenTexts.{writes_same}
use Rattle.cc_command.specs.Iterators.{names_left}
use Rattle.cc_fish.specs.Script.{child_text}
use Rattle.cc_base.proofs.TextLoops.{goes_next}
use Rattle.cc_fish.proofs.records.write_child.Goals as goal

pub loop-name-preserved : goal.loop-name-preserved
loop-name-preserved g c =
    let front = c.args.front.now in
    let left : names_left c.loop-name.name-iterator ≡ c.in-Some.name.now ∷ names_left c.next.new.self = search rules in
    let about : option_copied c.get_about.result ≡ c.args.child.now.node.about = search rules in
    goes_next (flat_map (child_text front c.args.no_files c.args.child.now.node.about)) _ _ left refl c.loop-name.invariant (writes_same _ _ (ap (λ text. child_text front c.args.no_files text c.in-Some.name.now) about) c.in_ok-write_name.ensures)
