-- Requests, origins of trees, directories and names of tree files, for some values.
use Rattle.std.proofs.Common.{◌≡◌, ℕ, true, false, List, [], ◌∷◌, Some, None, codes, filter, refl}
use Rattle.std.specs.Path.{path_file_name, path_join, rsplit_once, split_last_component, trim_trailing}
use Rattle.cc_base.specs.Sorting.{in_order, insert}
use Rattle.cc_base.specs.PlainName.{is_joined, is_plain_name, name_byte}
use Rattle.complgen_live.specs.Folders.{tree_folders}
use Rattle.complgen_live.specs.KnownNames.{each_once, is_other_name}
use Rattle.complgen_live.specs.Origins.{is_trusted}
use Rattle.complgen_live.specs.Requests.{request_words}
use Rattle.complgen_live.specs.TreeFiles.{is_file_name, stems, tree_paths, tree_stem}
use Rattle.complgen_live.specs.declared.requests.Origin.{Origin}
use Rattle.complgen_live.specs.declared.requests.Origin.TheVariants.{File, Program}

-- ---- requests

after_row : request_words (codes "complgen" ∷ codes "--" ∷ codes "git" ∷ codes "--" ∷ [])
    ≡ Some (codes "git" ∷ codes "--" ∷ [])
after_row = refl

no_dashes_row : request_words (codes "complgen" ∷ []) ≡ None
no_dashes_row = refl

-- ---- origins

-- a file that was found by this path
abbrev found_at : List ℕ → Origin
found_at path = File (record { ref_ptr = (0, 0); now = path })

program_row : is_trusted Program ≡ true
program_row = refl

absolute_row : is_trusted (found_at (codes "/t/git.json")) ≡ true
absolute_row = refl

relative_row : is_trusted (found_at (codes "t/git.json")) ≡ false
relative_row = refl

tilde_row : is_trusted (found_at (codes "~/git.json")) ≡ false
tilde_row = refl

no_path_row : is_trusted (found_at []) ≡ false
no_path_row = refl

-- ---- directories

named_row : tree_folders (Some (codes "/a::b:")) (Some (codes "/x")) (Some (codes "/h")) None
    ≡ codes "/a" ∷ codes "b" ∷ []
named_row = refl

none_named_row : tree_folders (Some []) None (Some (codes "/h")) None ≡ []
none_named_row = refl

home_row : tree_folders None (Some []) (Some (codes "/h")) None
    ≡ codes "/h/.local/share/complgen" ∷ codes "/usr/local/share/complgen"
    ∷ codes "/usr/share/complgen" ∷ []
unfolding path_join
home_row = refl

data_row : tree_folders None (Some (codes "/x")) (Some (codes "/h")) (Some (codes "y:/z/"))
    ≡ codes "/x/complgen" ∷ codes "/z/complgen" ∷ []
unfolding path_join
data_row = refl

nothing_row : tree_folders None None None (Some (codes "y")) ≡ []
unfolding path_join
nothing_row = refl

-- ---- names

stem_row : tree_stem (codes "git.json") ≡ Some (codes "git")
stem_row = refl

other_file_row : tree_stem (codes "json") ≡ None
other_file_row = refl

stems_row : stems (codes "a.json" ∷ codes "b" ∷ codes ".json" ∷ []) ≡ codes "a" ∷ [] ∷ []
stems_row = refl

-- a word leads to no other directory
outside_row : tree_paths (codes "../../x") (codes "/f" ∷ codes "g" ∷ [])
    ≡ codes "/f/x.json" ∷ codes "g/x.json" ∷ []
unfolding path_file_name rsplit_once split_last_component trim_trailing path_join
outside_row = refl

dots_row : tree_paths (codes "..") (codes "/f" ∷ []) ≡ []
unfolding path_file_name rsplit_once split_last_component trim_trailing path_join
dots_row = refl

file_name_row :
    (is_file_name (codes "python3.11") ≡ true)
    × (is_file_name (codes "...") ≡ true)
    × (is_file_name (codes "..") ≡ false)
    × (is_file_name (codes ".") ≡ false)
    × (is_file_name (codes "../x") ≡ false)
    × (is_file_name (codes "a/") ≡ false)
file_name_row = (refl, refl, refl, refl, refl, refl)

-- the whole base name counts
version_row : tree_paths (codes "/usr/bin/python3.11") (codes "/f" ∷ []) ≡ codes "/f/python3.11.json" ∷ []
unfolding path_file_name rsplit_once split_last_component trim_trailing path_join
version_row = refl

order_row : each_once (filter is_other_name (codes "b" ∷ codes "complgen" ∷ codes "a" ∷ codes "b" ∷ []))
    ≡ codes "a" ∷ codes "b" ∷ []
unfolding in_order insert
order_row = refl

plain_row : filter is_plain_name (codes "a" ∷ codes "-a" ∷ codes "a b" ∷ codes "a.b" ∷ codes "a-b" ∷ [])
    ≡ codes "a" ∷ codes "a-b" ∷ []
unfolding is_plain_name is_joined name_byte
plain_row = refl
