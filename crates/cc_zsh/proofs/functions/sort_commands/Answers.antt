use Rattle.std.proofs.Common.{rules, ◌≡◌, List, map, ◌∙◌, ap}
use Rattle.std.proofs.lemmas.Fn.{always_returns_same}
use Rattle.std.proofs.lemmas.Result.{on_ok_weaker}
use Rattle.std.specs.Cmp.{IsStrictWeakOrder}
use Rattle.std.specs.Cmp.Lexicographic.{nat_list_cmp_total}
use Rattle.std.specs.List.Sorted.{IsSortedBy, IsStableBy}
use Rattle.std.proofs.lemmas.List.Sorted.{ranks_by}
use Rattle.cc_base.specs.Sorting.{in_order}
use Rattle.cc_base.proofs.Sorted.{sorted_is, map-in_order}
use Rattle.cc_zsh.specs.Functions.{function_below}
use Rattle.cc_zsh.specs.Named.{function_named}
use Rattle.cc_zsh.specs.declared.functions.Named.{Named}
use Rattle.cc_zsh.proofs.functions.sort_commands.Goals as goal

-- commands are ordered by their full names
names_order : IsStrictWeakOrder (λ (x y : Named).
    function_below (function_named x) (function_named y))
names_order = ranks_by nat_list_cmp_total (λ x. x.name.now)

-- a stable sort returns the commands in order
functions_in_order : (xs ys : List Named) →
    IsSortedBy (λ x y. function_below (function_named x) (function_named y)) ys →
    IsStableBy (λ x y. function_below (function_named x) (function_named y)) xs ys →
    map function_named ys ≡ in_order function_below (map function_named xs)
functions_in_order xs ys sorted stable =
    ap (map function_named)
    (sorted_is (λ x y. function_below (function_named x) (function_named y)) names_order xs ys
    sorted stable)
    ∙ map-in_order function_named function_below xs

pub returns : goal.returns
returns c =
    on_ok_weaker c.sort_by.result
    (λ h. functions_in_order c.args.commands.now.items c.sort_by.new.self.items
    (h (λ x y. function_below (function_named x) (function_named y)) names_order
    (always_returns_same _ _ _ (λ a r f k. search rules)))
    (c.sort_by.ensures.stable (λ x y. function_below (function_named x) (function_named y))
    names_order (always_returns_same _ _ _ (λ a r f k. search rules))))
    c.sort_by.ensures.sorted
