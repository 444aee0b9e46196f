-- Examples of trees with a list for the arguments of one source.
use Rattle.std.proofs.Common.{◌≡◌, ℕ, List, [], ◌∷◌, ◌++◌, Option, Some, None, map, codes, true, refl}
use Rattle.cc_arg.specs.declared.parts.ArgParts.{ArgParts as Arg}
use Rattle.cc_arg.specs.declared.value_hint.ValueHint.{ValueHint}
use Rattle.cc_arg.specs.declared.value_hint.ValueHint.TheVariants.{DirPath, Hostname, Unknown}
use Rattle.cc_arg.specs.declared.value_source.SourceValues.{SourceValues}
use Rattle.cc_arg.specs.declared.value_source.SourceValues.TheVariants.{Listed, Paths}
use Rattle.cc_arg.specs.declared.values_protocol.ValuesProtocol.TheVariants.{Cobra}
use Rattle.cc_arg.specs.Arguments.{new_arg}
use Rattle.cc_base.specs.declared.numbers.ArgValueCandidates.{ArgValueCandidates}
use Rattle.cc_command.specs.Made.{new_tree, with_argument, with_child}
use Rattle.cc_command.specs.Tree.{Forest, none, more, Tree}
use Rattle.cc_command.specs.ValueLists.{listed_tree}

-- the values are what `git branch` prints
abbrev branch : List ℕ → Arg
branch id = record (new_arg id) { values_from = Some (codes "git" ∷ codes "branch" ∷ []) }

-- the values are what `git tag` prints
abbrev tag : Arg
tag = record (new_arg (codes "tag")) { values_from = Some (codes "git" ∷ codes "tag" ∷ []) }

abbrev host : Arg
host = record (new_arg (codes "host")) { value_hint = Hostname }

abbrev with : Tree → Arg → Tree
with tree argument = record tree { node = with_argument tree.node argument }

-- `app` with a branch, a tag and a host, and with a child `push` to a branch, and `push force` to
-- one
abbrev app : Tree
app =
    let force = with (new_tree (codes "force")) (branch (codes "to")) in
    let push = with (with_child (new_tree (codes "push")) force) (branch (codes "upstream")) in
    with (with (with (with_child (new_tree (codes "app")) push) (branch (codes "onto"))) tag) host

-- the lists of the arguments of some siblings and of all nodes below them, a list for each node
lists_below : Forest → List (List (Option ArgValueCandidates))
lists_below none = []
lists_below (more node below rest) =
    map (λ argument. argument.candidates) node.arguments ∷ lists_below below ++ lists_below rest

abbrev lists : Tree → List (List (Option ArgValueCandidates))
lists tree = map (λ argument. argument.candidates) tree.node.arguments ∷ lists_below tree.children

abbrev third : ArgValueCandidates
third = record { number = 3 }

-- each branch gets the list, at each node, and no other argument does
branches_listed : lists (listed_tree (branch (codes "asked")) (Listed third) app)
    ≡ (Some third ∷ None ∷ None ∷ []) ∷ (Some third ∷ []) ∷ (Some third ∷ []) ∷ []
unfolding lists_below
branches_listed = refl

-- the host gets it alone
host_listed : lists (listed_tree host (Listed third) app)
    ≡ (None ∷ None ∷ Some third ∷ []) ∷ (None ∷ []) ∷ (None ∷ []) ∷ []
unfolding lists_below
host_listed = refl

-- ---- paths

-- the hints of the arguments of the tree itself
abbrev hints : Tree → List ValueHint
hints tree = map (λ argument. argument.value_hint) tree.node.arguments

-- each branch gets the hint of paths
paths_listed : hints (listed_tree (branch (codes "asked")) (Paths DirPath) app) ≡ DirPath ∷ Unknown ∷ Hostname ∷ []
paths_listed = refl

-- ---- how lines are read

-- the same command, to which words of the command line are passed, is another source
abbrev typed : List ℕ → Arg
typed id = record (branch id) { values_words = true }

words_differ : hints (listed_tree (typed (codes "asked")) (Paths DirPath) app) ≡ Unknown ∷ Unknown ∷ Hostname ∷ []
words_differ = refl

words_are_same : hints (listed_tree (typed (codes "asked")) (Paths DirPath) (with app (typed (codes "more"))))
    ≡ Unknown ∷ Unknown ∷ Hostname ∷ DirPath ∷ []
words_are_same = refl

-- and so is one whose lines have another form
protocols_differ : hints (listed_tree (record (branch (codes "asked")) { values_protocol = Cobra }) (Paths DirPath) app)
    ≡ Unknown ∷ Unknown ∷ Hostname ∷ []
protocols_differ = refl

-- an argument without a source is the source of none
nothing_listed : lists (listed_tree (new_arg (codes "asked")) (Listed third) app)
    ≡ (None ∷ None ∷ None ∷ []) ∷ (None ∷ []) ∷ (None ∷ []) ∷ []
unfolding lists_below
nothing_listed = refl

-- a built tree stays built
still_built : (listed_tree host (Listed third) (record app { node = record app.node { built = true } })).node.built
    ≡ true
still_built = refl
