-- Names that differ, for lists and for siblings.
use Rattle.std.proofs.Common.{◌≡◌, ℕ, ◌+◌, ◌<◌, ◌≤◌, List, [], ◌∷◌, ◌++◌, length, drop, get_or, Bool, true, false, not, ◌&&◌, ◌||◌, refl, ap, ap₂, sym, ◌∙◌}
use Rattle.std.specs.List.{list_all}
use Rattle.std.specs.Str.{bytes_eq}
use Rattle.std.proofs.Math.Bool.{and_assoc, or_assoc}
use Rattle.std.proofs.lemmas.List.{at_drop_more, at_drop_all}
use Rattle.std.proofs.lemmas.List.Folds.{list_any-append}
use Rattle.cc_command.specs.declared.node.Node.{Node}
use Rattle.cc_command.specs.Names.{has_name, contains_name, has_child}
use Rattle.cc_command.specs.Plain.{all_differ, names_of, names_of_all, siblings_differ}
use Rattle.cc_command.specs.Tree.{Forest, none, more, Tree, forest_of}

pub contains_name_append : (names others : List (List ℕ)) (word : List ℕ) →
    contains_name (names ++ others) word ≡ (contains_name names word || contains_name others word)
contains_name_append names others word = list_any-append (λ name. bytes_eq name word) names others

regroup : (a b c d e : Bool) → (not (a || b) && (c && (d && e))) ≡ ((not a && c) && ((not b && d) && e))
regroup true b c d e = refl
regroup false true true d e = refl
regroup false true false d e = refl
regroup false false c d e = refl

-- two lists, one after the other
pub all_differ_append : (names others : List (List ℕ)) →
    all_differ (names ++ others) ≡ (all_differ names && (list_all (λ name. not (contains_name others name)) names && all_differ others))
all_differ_append [] others = refl
all_differ_append (name ∷ names) others =
    ap (λ b. not b && all_differ (names ++ others)) (contains_name_append names others name) ∙
    ap (λ b. not (contains_name names name || contains_name others name) && b) (all_differ_append names others) ∙
    regroup (contains_name names name) (contains_name others name) (all_differ names)
    (list_all (λ name. not (contains_name others name)) names) (all_differ others)

-- a command has exactly its names
contains_name-names_of : (node : Node) (word : List ℕ) → contains_name (names_of node) word ≡ has_name node word
contains_name-names_of node word =
    ap (λ b. bytes_eq node.name word || b) (contains_name_append node.visible_aliases node.aliases word) ∙
    sym (or_assoc (bytes_eq node.name word) (contains_name node.visible_aliases word) (contains_name node.aliases word))

-- a word is among the names of some siblings if one of them has it, and only then
pub contains_name-names_of_all : (siblings : Forest) (word : List ℕ) → contains_name (names_of_all siblings) word ≡ has_child siblings word
contains_name-names_of_all none word = refl
contains_name-names_of_all (more node below rest) word =
    contains_name_append (names_of node) (names_of_all rest) word ∙
    ap₂ (λ a b. a || b) (contains_name-names_of node word) (contains_name-names_of_all rest word)

-- no sibling has one of the names
abbrev pub are_apart_from : Forest → List (List ℕ) → Bool
are_apart_from siblings names = list_all (λ name. not (has_child siblings name)) names

-- then the names differ from all names of the siblings
none_contained : (siblings : Forest) (names : List (List ℕ)) →
    list_all (λ name. not (contains_name (names_of_all siblings) name)) names ≡ are_apart_from siblings names
none_contained siblings [] = refl
none_contained siblings (name ∷ names) =
    ap₂ (λ a b. not a && b) (contains_name-names_of_all siblings name) (none_contained siblings names)

siblings_differ-none : siblings_differ none ≡ true
unfolding siblings_differ
siblings_differ-none = refl

-- the names of siblings differ if those of the first one do, no later sibling has one of them, and
-- those of the later ones differ
pub siblings_differ-more : (node : Node) (below rest : Forest) →
    siblings_differ (more node below rest) ≡
    (all_differ (names_of node) && (are_apart_from rest (names_of node) && siblings_differ rest))
unfolding siblings_differ
siblings_differ-more node below rest =
    all_differ_append (names_of node) (names_of_all rest) ∙
    ap (λ b. all_differ (names_of node) && (b && all_differ (names_of_all rest))) (none_contained rest (names_of node))

-- ---- siblings, one position after another

-- the names of one sibling differ from each other and from all names after it
abbrev pub differs_from : Tree → List Tree → Bool
differs_from sibling later = all_differ (names_of sibling.node) && are_apart_from (forest_of later) (names_of sibling.node)

siblings_differ-at : (siblings : List Tree) (position : ℕ) (sibling : Tree) → position < length siblings → get_or siblings position sibling ≡ sibling →
    siblings_differ (forest_of (drop position siblings)) ≡ (differs_from sibling (drop (position + 1) siblings) && siblings_differ (forest_of (drop (position + 1) siblings)))
siblings_differ-at siblings position sibling below is =
    at_drop_more (λ trees. siblings_differ (forest_of trees)) siblings position sibling below ∙
    ap (λ first. siblings_differ (forest_of (first ∷ drop (position + 1) siblings))) is ∙
    siblings_differ-more sibling.node sibling.children (forest_of (drop (position + 1) siblings)) ∙
    sym (and_assoc (all_differ (names_of sibling.node))
    (are_apart_from (forest_of (drop (position + 1) siblings)) (names_of sibling.node))
    (siblings_differ (forest_of (drop (position + 1) siblings))))

-- a sibling whose own names do not differ
pub siblings_differ-failed : (siblings : List Tree) (position : ℕ) (sibling : Tree) (whole : Bool) → position < length siblings → get_or siblings position sibling ≡ sibling →
    siblings_differ (forest_of (drop position siblings)) ≡ whole → differs_from sibling (drop (position + 1) siblings) ≡ false → false ≡ whole
siblings_differ-failed siblings position sibling whole below at is failed =
    sym (ap (λ b. b && siblings_differ (forest_of (drop (position + 1) siblings))) failed) ∙ sym (siblings_differ-at siblings position sibling below at) ∙ is

-- a sibling whose own names differ
pub siblings_differ-passed : (siblings : List Tree) (position : ℕ) (sibling : Tree) (whole : Bool) → position < length siblings → get_or siblings position sibling ≡ sibling →
    siblings_differ (forest_of (drop position siblings)) ≡ whole → differs_from sibling (drop (position + 1) siblings) ≡ true →
    siblings_differ (forest_of (drop (position + 1) siblings)) ≡ whole
siblings_differ-passed siblings position sibling whole below at is passed =
    sym (ap (λ b. b && siblings_differ (forest_of (drop (position + 1) siblings))) passed) ∙ sym (siblings_differ-at siblings position sibling below at) ∙ is

-- after the last sibling
pub siblings_differ-done : (siblings : List Tree) (position : ℕ) (whole : Bool) → length siblings ≤ position →
    siblings_differ (forest_of (drop position siblings)) ≡ whole → true ≡ whole
siblings_differ-done siblings position whole past is =
    sym siblings_differ-none ∙ sym (at_drop_all (λ trees. siblings_differ (forest_of trees)) siblings position past) ∙ is
