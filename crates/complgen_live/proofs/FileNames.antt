-- The last component of a word is the name of a file, so no path leads out of its directory.
use Rattle.std.proofs.Common.{◌≡◌, ◌≢◌, ◌==◌, ◌&&◌, ◌||◌, ℕ, zero, suc, ◌+◌, ◌<◌, true, cond, not, List, [], ◌∷◌, ◌++◌, map, drop, take, length, get_or, Option, Some, None, IfSome, ⊎_elim, inl, inr, refl, sym, ◌∙◌, ap, ap₂, arith}
use Rattle.std.proofs.lemmas.Bool.{and_parts, cases_eq, cond_both, eqb-false, ne_eqb, or_parts}
use Rattle.std.proofs.lemmas.List.{get_or-drop, length-drop}
use Rattle.std.specs.Prelude.{Bool, IsTrue, MatchOption, bytes_eq, false, option_map}
use Rattle.std.specs.Option.{option_flatten}
use Rattle.std.specs.Path.{cur_dir, has_no_slash, normal_name, parent_and_last, parent_dir, path_file_name, path_join, rfind_below, root_dir, rsplit_once, slash, split_last_component, trim_trailing, with_separator}
use Rattle.complgen_live.specs.TreeFiles.{AreInFolders, ending, is_file_name, paths_of, tree_path, tree_paths}

-- ---- the text after the last slash

by_index : (text : List ℕ) → ((i : ℕ) → i < length text → get_or text i 0 ≢ slash) → has_no_slash text ≡ true
by_index [] h = refl
by_index (byte ∷ text) h =
    ap (λ b. not b && has_no_slash text) (ne_eqb byte slash (h 0 (omega arith)))
    ∙ by_index text (λ i l. h (suc i) (omega arith))

module _ (text : List ℕ) where
  -- of the first bytes, none after the index is a slash; without an index, none is
  abbrev IsLast : ℕ → Option ℕ → Type 0
  IsLast n found =
      MatchOption found ((i : ℕ) → i < n → get_or text i 0 ≢ slash)
      (λ k. (i : ℕ) → k < i → i < n → get_or text i 0 ≢ slash)

  wider : (n : ℕ) (found : Option ℕ) → get_or text n 0 ≢ slash → IsLast n found → IsLast (suc n) found
  wider n None other h = λ i l e.
      ⊎_elim (λ here. other (ap (λ j. get_or text j 0) (sym here) ∙ e)) (λ below. h i (omega arith) e) (cases_eq i n)
  wider n (Some k) other h = λ i a l e.
      ⊎_elim (λ here. other (ap (λ j. get_or text j 0) (sym here) ∙ e)) (λ below. h i a (omega arith) e) (cases_eq i n)

  last_slash : (n : ℕ) → IsLast n (rfind_below slash text n)
  last_slash zero = λ i l. absurd (omega arith)
  last_slash (suc n) =
      cond_both (get_or text n 0 == slash) (Some n) (rfind_below slash text n) (IsLast (suc n))
      (λ _ i a l. absurd (omega arith)) (λ e. wider n _ (eqb-false _ slash e) (last_slash n))

  after_last : (found : Option ℕ) → IsLast (length text) found
      → has_no_slash (parent_and_last text (option_map (λ i. (take i text, drop (i + 1) text)) found)).1 ≡ true
  after_last None last = by_index text last
  after_last (Some k) last =
      by_index (drop (k + 1) text)
      (λ i l e. last ((k + 1) + i) (omega arith) (omega (arith, length-drop (k + 1) text)) (sym (get_or-drop (k + 1) text i 0) ∙ e))

  last_component : has_no_slash (parent_and_last text (rsplit_once slash text)).1 ≡ true
  unfolding rsplit_once
  last_component = after_last (rfind_below slash text (length text)) (last_slash (length text))

-- ---- the name

plain_name : (last : List ℕ) → has_no_slash last ≡ true → IfSome (normal_name last) (λ name. IsTrue (is_file_name name))
plain_name last h =
    cond_both (bytes_eq last cur_dir || bytes_eq last parent_dir) None (Some last) (λ named. IfSome named (λ name. IsTrue (is_file_name name)))
    (λ _. tt)
    (λ e.
    let others = or_parts (bytes_eq last cur_dir) (bytes_eq last parent_dir) e in
    ap (λ b. b && not (bytes_eq last cur_dir) && not (bytes_eq last parent_dir)) h
    ∙ ap (λ b. not b && not (bytes_eq last parent_dir)) others.0
    ∙ ap not others.1)

pub file_name : (word : List ℕ) → IfSome (path_file_name word) (λ name. IsTrue (is_file_name name))
unfolding path_file_name split_last_component
file_name word =
    let trimmed : List ℕ = trim_trailing word in
    let split : List ℕ × List ℕ = parent_and_last trimmed (rsplit_once slash trimmed) in
    cond_both (length trimmed == 0 || bytes_eq trimmed root_dir) None (Some split)
    (λ split. IfSome (option_flatten (option_map (λ split. normal_name split.1) split)) (λ name. IsTrue (is_file_name name)))
    (λ _. tt)
    (λ _. plain_name split.1 (last_component trimmed))

-- ---- the paths

not_true : (test : Bool) → not test ≡ true → test ≡ false
not_true true e = cc
not_true false e = refl

one_inside : (folder name : List ℕ) → is_file_name name ≡ true → tree_path folder name ≡ with_separator folder ++ name ++ ending
unfolding path_join
one_inside folder [] h = refl
one_inside folder (byte ∷ name) h =
    let whole : List ℕ = byte ∷ name in
    let parts = and_parts (has_no_slash whole && not (bytes_eq whole cur_dir)) (not (bytes_eq whole parent_dir)) h in
    let no_slash = (and_parts (has_no_slash whole) (not (bytes_eq whole cur_dir)) parts.0).0 in
    let first = not_true (byte == slash) (and_parts (not (byte == slash)) (has_no_slash name) no_slash).0 in
    ap (λ b. cond b whole (with_separator folder ++ whole) ++ ending) first

pub inside : (word : List ℕ) (folders : List (List ℕ)) → AreInFolders folders (tree_paths word folders)
inside word folders = by_name (path_file_name word) (file_name word)
  where
    each : (name : List ℕ) → is_file_name name ≡ true → (folders : List (List ℕ))
        → map (λ folder. tree_path folder name) folders ≡ map (λ folder. with_separator folder ++ name ++ ending) folders
    each name h [] = refl
    each name h (folder ∷ folders) = ap₂ (λ path paths. path ∷ paths) (one_inside folder name h) (each name h folders)

    by_name : (name : Option (List ℕ)) → IfSome name (λ name. IsTrue (is_file_name name)) → AreInFolders folders (paths_of name folders)
    by_name None h = inl refl
    by_name (Some name) h = inr (name, h, each name h folders)
