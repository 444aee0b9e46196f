-- The walk by visible names.
use Rattle.std.specs.Prelude.{ℕ, List, [], ◌∷◌, ◌≡◌, ◌&&◌, Bool, true, Option, Some, None, unwrap_or}
use Rattle.cc_command.specs.Tree.{Tree}
use Rattle.cc_command.specs.Names.{contains_name, find_child, visible_child, visible_names}

-- the node that is reached if each word that names a visible child leads to it, and all other words
-- are ignored
abbrev pub visible_end : Tree → List (List ℕ) → Tree
visible_end tree [] = tree
visible_end tree (word ∷ words) =
    visible_end (unwrap_or (visible_child tree.children word) tree) words

-- the child that the word names, if there is one, shows that name; otherwise the word is a hidden
-- alias
abbrev pub shows : Option Tree → List ℕ → Bool
shows None word = true
shows (Some child) word = contains_name (visible_names child.node) word

-- No word is a hidden alias at the command that reads it. Each word that names a child leads to
-- it by a name that the child shows.
abbrev pub has_no_hidden_alias : Tree → List (List ℕ) → Bool
has_no_hidden_alias tree [] = true
has_no_hidden_alias tree (word ∷ words) =
    shows (find_child tree.children word) word
    && has_no_hidden_alias (unwrap_or (find_child tree.children word) tree) words

abbrev pub HasNoHiddenAlias : Tree → List (List ℕ) → Type 0
HasNoHiddenAlias tree words = has_no_hidden_alias tree words ≡ true
