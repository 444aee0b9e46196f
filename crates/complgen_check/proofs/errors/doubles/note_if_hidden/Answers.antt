use Rattle.std.proofs.Common.{◌≡◌, ◌∙◌, ◌++◌, [], ◌∷◌, ap, map, rules, sym, true}
use Rattle.std.proofs.lemmas.List.{map-append}
use Rattle.json.specs.Value.{members_view}
use Rattle.complgen_check.specs.Doubles.{has_key, if_hidden, shown_paths}
use Rattle.complgen_check.specs.Places.{shown_step}
use Rattle.complgen_check.proofs.errors.doubles.note_if_hidden.Goals as goal

pub returns-clause-found : goal.returns-clause-found
returns-clause-found c =
    let before = c.args.walk.now.found.items in
    let path = map shown_step c.args.walk.now.path.items in
    let has : has_key c.args.key.now (members_view c.args.later.now) ≡ true = search rules in
    let copied : map shown_step c.in_ok-path.path.items ≡ path = search rules in
    ap shown_paths c.in_ok-push.ensures.items
    ∙ map-append (λ path. map shown_step path.items) before (c.in_ok-path.path ∷ [])
    ∙ ap (λ last. shown_paths before ++ last ∷ []) copied
    ∙ ap (λ b. shown_paths before ++ if_hidden b path) (sym has)
