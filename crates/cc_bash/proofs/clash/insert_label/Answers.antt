use Rattle.std.proofs.Common.{Some, ◌≡◌, ℕ, List, Bool, true, false, cond, ◌||◌, Option, None, is_some, refl, ap, ◌∙◌}
use Rattle.std.specs.BTreeMap.{get_by}
use Rattle.std.specs.Ordering.{nat_cmp}
use Rattle.std.specs.Cmp.Lexicographic.{slice_cmp}
use Rattle.std.proofs.lemmas.Map.Text.{btree_map_updates_str}
use Rattle.std.specs.Map.{update}
use Rattle.std.specs.Str.{bytes_eq}
use Rattle.cc_bash.proofs.clash.insert_label.Goals as goal

-- Labels that are seen one after another.
either : (b : Bool) (x : Option (Unit {0})) → is_some (cond b (Some tt) x) ≡ (is_some x || b)
either true None = refl
either true (Some y) = refl
either false None = refl
either false (Some y) = refl

-- a label that was kept has been seen from then on
seen_more : (before after : List ℕ → Option (Unit {0})) (label : List ℕ) →
    ((word : List ℕ) → after word ≡ update bytes_eq before label (Some tt) word) →
    (word : List ℕ) → is_some (after word) ≡ (is_some (before word) || bytes_eq label word)
seen_more before after label updates word = ap is_some (updates word)
    ∙ either (bytes_eq label word) (before word)

pub returns-clause-kept : goal.returns-clause-kept
returns-clause-kept c =
    seen_more (λ word. get_by (λ other. slice_cmp nat_cmp word other.now) c.args.seen.now)
    (λ word. get_by (λ other. slice_cmp nat_cmp word other.now) c.insert.new.self)
    c.args.label.now
    (btree_map_updates_str c.args.label.now c.args.seen.now c.insert.new.self (Some tt)
    c.in_ok-insert.ensures.updates)
