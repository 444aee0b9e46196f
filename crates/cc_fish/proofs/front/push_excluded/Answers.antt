use Rattle.std.proofs.Common.{◌≡◌, ◌∙◌, ◌++◌, true, ℕ, List, ap, refl, append_assoc, flat_map, rules, string_bytes}
use Rattle.std.proofs.lemmas.Result.{on_ok_weaker}
use Rattle.cc_command.specs.Tree.{Forest, forest_of, has_nodes}
use Rattle.cc_generator.specs.Subcommands.{sibling_names}
use Rattle.cc_fish.specs.Script.{excluded_text, not_seen, spaced_name}
use Rattle.cc_fish.proofs.front.push_excluded.Goals as goal

pub returns : goal.returns
unfolding not_seen
returns c =
    let children : Forest = c.args.command.now.children in
    let front : List ℕ = string_bytes c.args.front.now in
    let inhabited : has_nodes children ≡ true = search rules in
    let excluded : not_seen ++ flat_map spaced_name (sibling_names children) ≡ excluded_text children =
    rw inhabited refl in
    let begun : string_bytes c.push_str.new.self ≡ front ++ not_seen = c.in_ok-push_str.ensures.bytes in
    let listed : Forest = forest_of c.get_subcommands.result.now in
    let is : listed ≡ children = search rules in
    on_ok_weaker c.push_children.result
    (λ pushed. pushed
    ∙ ap (λ text. text ++ flat_map spaced_name (sibling_names listed)) begun
    ∙ append_assoc front not_seen (flat_map spaced_name (sibling_names listed))
    ∙ ap (λ forest. front ++ (not_seen ++ flat_map spaced_name (sibling_names forest))) is
    ∙ ap (λ text. front ++ text) excluded)
    c.push_children.ensures
