-- Tests that all arguments of a built tree pass if the given arguments pass them.
use Rattle.std.proofs.Common.{◌≡◌, ℕ, List, [], ◌∷◌, ◌++◌, Bool, true, false, cond, not, ◌&&◌, IsTrue, Some, is_some, map, refl, ap, sym, subst, ◌∙◌}
use Rattle.std.specs.List.{list_all}
use Rattle.std.proofs.lemmas.Bool.{and_parts, and_from}
use Rattle.cc_arg.specs.declared.parts.ArgParts.{ArgParts as Arg}
use Rattle.cc_arg.specs.Arguments.{filled}
use Rattle.cc_command.specs.declared.node.Node.{Node}
use Rattle.cc_command.specs.Names.{has_id}
use Rattle.cc_command.specs.Generated.{help_argument, version_argument, generated_help, generated_version, generated_arguments}
use Rattle.cc_command.specs.Built.{with_missing, lacks_index, with_index, next_index, indexed, inherited_by, given_arguments, globals, propagated, built_arguments}

-- filling in and numbering do not change the test of an argument, and the flags that building adds
-- pass it
pub record IsKept (test : Arg → Bool) : Type 0 where
  pub when_filled : (x : Arg) → test (filled x) ≡ test x
  pub when_indexed : (position : ℕ) (x : Arg) → test (record x { index = Some position }) ≡ test x
  pub of_help : IsTrue (test help_argument)
  pub of_version : IsTrue (test version_argument)

all_filled : (test : Arg → Bool) → IsKept test → (xs : List Arg) → list_all test (map filled xs) ≡ list_all test xs
all_filled test kept [] = refl
all_filled test kept (x ∷ xs) =
    ap (λ b. b && list_all test (map filled xs)) (kept.when_filled x) ∙ ap (λ b. test x && b) (all_filled test kept xs)

one_indexed : (test : Arg → Bool) → IsKept test → (position : ℕ) (x : Arg) → test (with_index position x) ≡ test x
one_indexed test kept position x = elim (lacks_index x) as (λ b. test (cond b (record x { index = Some position }) x) ≡ test x) [
  | true ↦ kept.when_indexed position x
  | false ↦ refl
]

all_indexed : (test : Arg → Bool) → IsKept test → (position : ℕ) (xs : List Arg) → list_all test (indexed position xs) ≡ list_all test xs
all_indexed test kept position [] = refl
all_indexed test kept position (x ∷ xs) =
    ap (λ b. b && list_all test (indexed (next_index position x) xs)) (one_indexed test kept position x) ∙
    ap (λ b. test x && b) (all_indexed test kept (next_index position x) xs)

all_append : (test : Arg → Bool) (xs ys : List Arg) → IsTrue (list_all test xs) → IsTrue (list_all test ys) → IsTrue (list_all test (xs ++ ys))
all_append test [] ys h k = k
all_append test (x ∷ xs) ys h k =
    let a = and_parts (test x) (list_all test xs) h in
    and_from (test x) (list_all test (xs ++ ys)) a.0 (all_append test xs ys a.1 k)

all_with_missing : (test : Arg → Bool) (xs others : List Arg) → IsTrue (list_all test xs) → IsTrue (list_all test others) →
    IsTrue (list_all test (with_missing xs others))
all_with_missing test xs [] h k = h
all_with_missing test xs (other ∷ others) h k =
    let a = and_parts (test other) (list_all test others) k in
    all_with_missing test (cond (has_id xs other.id) xs (xs ++ other ∷ [])) others (stepped (has_id xs other.id) a.0) a.1
  where
    stepped : (b : Bool) → IsTrue (test other) → IsTrue (list_all test (cond b xs (xs ++ other ∷ [])))
    stepped true p = h
    stepped false p = all_append test xs (other ∷ []) h (and_from (test other) true p refl)

all_generated : (test : Arg → Bool) → IsKept test → (node : Node) → IsTrue (list_all test (generated_arguments node))
all_generated test kept node =
    all_append test (generated_help node) (generated_version node) (of_help node.disable_help_flag)
    (of_version (is_some node.version && not node.disable_version_flag))
  where
    of_help : (b : Bool) → IsTrue (list_all test (cond b [] (help_argument ∷ [])))
    of_help true = refl
    of_help false = and_from (test help_argument) true kept.of_help refl

    of_version : (b : Bool) → IsTrue (list_all test (cond b (version_argument ∷ []) []))
    of_version true = and_from (test version_argument) true kept.of_version refl
    of_version false = refl

all_given : (test : Arg → Bool) (inherited : List Arg) (node : Node) → IsTrue (list_all test inherited) → IsTrue (list_all test node.arguments) →
    IsTrue (list_all test (given_arguments inherited node))
all_given test inherited node above own = all_with_missing test node.arguments (inherited_by node inherited) own (inherits node.generated)
  where
    inherits : (b : Bool) → IsTrue (list_all test (cond b [] inherited))
    inherits true = refl
    inherits false = above

all_globals : (test : Arg → Bool) (xs : List Arg) → IsTrue (list_all test xs) → IsTrue (list_all test (globals xs))
all_globals test [] h = h
all_globals test (x ∷ xs) h =
    let a = and_parts (test x) (list_all test xs) h in
    among x.global a.0 (all_globals test xs a.1)
  where
    among : (b : Bool) → IsTrue (test x) → IsTrue (list_all test (globals xs)) →
        IsTrue (list_all test (cond b (x ∷ globals xs) (globals xs)))
    among true p q = and_from (test x) (list_all test (globals xs)) p q
    among false p q = q

-- the arguments that a node propagates pass the test
pub all_propagated : (test : Arg → Bool) (inherited : List Arg) (node : Node) → IsTrue (list_all test inherited) → IsTrue (list_all test node.arguments) →
    IsTrue (list_all test (propagated inherited node))
all_propagated test inherited node above own = all_globals test (given_arguments inherited node) (all_given test inherited node above own)

-- the arguments of a built node pass the test
pub all_built : (test : Arg → Bool) → IsKept test → (inherited : List Arg) (node : Node) → IsTrue (list_all test inherited) → IsTrue (list_all test node.arguments) →
    IsTrue (list_all test (built_arguments inherited node))
all_built test kept inherited node above own =
    let given : List Arg = given_arguments inherited node in
    let all : List Arg = with_missing given (generated_arguments node) in
    subst IsTrue (sym (all_indexed test kept 1 (map filled all) ∙ all_filled test kept all))
    (all_with_missing test given (generated_arguments node) (all_given test inherited node above own) (all_generated test kept node))
