-- The reading of the arms of the nodes below the root.
use Rattle.std.proofs.Common.{◌≡◌, ℕ, suc, true, false, cond, List, [], ◌∷◌, ◌++◌, map, flat_map, fold, length, Some, None, codes, refl, sym, ◌∙◌, ap, append_assoc, append-nil}
use Rattle.std.specs.List.{AllByRecursion}
use Rattle.std.proofs.lemmas.List.{map-append}
use Rattle.cc_base.specs.Bytes.{line_feed}
use Rattle.cc_base.proofs.Lines.{IsLine}
use Rattle.cc_base.proofs.Lines.IsLine.{line}
use Rattle.cc_base.specs.Found.{after as text_after}
use Rattle.cc_command.specs.declared.node.Node.{Node}
use Rattle.cc_command.specs.ArgumentLists.{positionals}
use Rattle.cc_command.specs.Names.{full_name, visible_names}
use Rattle.cc_command.specs.Tree.{Forest, none, more, Tree, has_nodes}
use Rattle.cc_command.proofs.PlainParts.{IsPlainName}
use Rattle.cc_quote.specs.PosixSigns.{sign, byte_of}
use Rattle.cc_quote.specs.PosixTokens.{cut, between}
use Rattle.cc_quote.specs.Tokens.{is_word}
use Rattle.cc_quote.specs.Tokens.Piece.{bare}
use Rattle.cc_quote.proofs.PosixCutting.{IsOther, IsKept-IsOther, tokens_from, bare_run, double_run}
use Rattle.cc_generator.specs.Visits.{Keyed, keyed, keys_below, longer_path, paths_below}
use Rattle.cc_generator.proofs.ReadInTurn.{in_parts}
use Rattle.cc_zsh.specs.Nested.{block_text, case_text, case_state, set_words, set_context, context_command, case_line, case_line_in, nested_ends, index_text, context_text, nested_begins, nested_text, nested_line, arm_ends, arm_text, arms_text}
use Rattle.cc_zsh.specs.Reader.{Block, Path, State, arm_word, is_line, next, next_arm, read}
use Rattle.cc_zsh.specs.Reader.State.{after_block, after_nested, at_arms, at_block, between_arms, after_arms, malformed}
use Rattle.cc_zsh.proofs.LastBytes.{before-last}
use Rattle.cc_zsh.proofs.LinesRead.{reading}
use Rattle.cc_zsh.proofs.PlainNames.{name_other, plain_name_bytes}
use Rattle.cc_zsh.proofs.BlockRead.{context_bytes, IsReadable, block_with, arm_block_read}
use Rattle.cc_quote.proofs.Digits.{decimal_other}

-- what is read at a visit
abbrev pub block_at : Keyed Path → Block
block_at visit = block_with visit.key visit.above visit.tree

-- ---- the frame of the arms

frame_read : (node : Node) (outer : List Path) (blocks : List Block) (path : Path)
    (rest : List ℕ) → IsOther node.name → IsOther (context_text node) →
    reading (after_block outer blocks path) between (nested_begins node ++ rest)
    ≡ reading (between_arms outer blocks path) between rest
unfolding case_text case_state set_words set_context context_command case_line case_line_in sign byte_of cut is_word is_line text_after next read
frame_read node outer blocks path rest name context =
    let index : List ℕ = index_text node in
    let other : IsOther index = decimal_other (suc (length (positionals node))) in
    let r5 : List ℕ = index ++ (case_line_in ++ rest) in
    let r4 : List ℕ = index ++ (case_line ++ r5) in
    let r3 : List ℕ = context_text node ++ (context_command ++ r4) in
    let r2 : List ℕ = index ++ (set_context ++ r3) in
    ap (reading (after_block outer blocks path) between)
    (in_parts case_state (node.name ∷ set_words ∷ index ∷ set_context ∷ context_text node
    ∷ context_command ∷ index ∷ case_line ∷ index ∷ case_line_in ∷ []) rest)
    ∙ ap (read (at_arms outer blocks path))
    (bare_run node.name (set_words ++ r2) [] (codes "(") name)
    ∙ ap (read (at_arms outer blocks path))
    (bare_run index (set_context ++ r3) [] (codes "words=($line[") other)
    ∙ ap (read (at_arms outer blocks path))
    (double_run (context_text node) (context_command ++ r4) (bare (codes "curcontext=") ∷ [])
    (codes "${curcontext%:*:*}:") (IsKept-IsOther (context_text node) context))
    ∙ ap (read (at_arms outer blocks path))
    (double_run index (case_line ++ r5) (bare (codes "curcontext=") ∷ [])
    (fold (λ t b. t ++ b ∷ []) (codes "${curcontext%:*:*}:" ++ context_text node)
    (codes "-command-$line["))
    (IsKept-IsOther index other))
    ∙ ap (read (at_arms outer blocks path))
    (bare_run index (case_line_in ++ rest) [] (codes "$line[") other)

frame_ends : (outer : List Path) (blocks : List Block) (path : Path) (rest : List ℕ) →
    IsLine rest → reading (between_arms outer blocks path) between (nested_ends ++ rest)
    ≡ reading (after_nested outer blocks) between rest
unfolding nested_ends sign byte_of cut is_word arm_word text_after next read
frame_ends outer blocks path rest (line tail) = refl

-- ---- one arm

word_found : (word : List ℕ) →
    arm_word (bare ((codes "(" ++ word) ++ codes ")") ∷ []) ≡ Some word
unfolding arm_word text_after
word_found word = before-last 41 word refl

arm_opens : (outer : List Path) (blocks : List Block) (path : Path) (word : List ℕ) →
    next (between_arms outer blocks path) (bare ((codes "(" ++ word) ++ codes ")") ∷ [])
    ≡ at_block (path ∷ outer) blocks (longer_path path word)
unfolding next
arm_opens outer blocks path word =
    ap (λ found. elim found as (λ x. State) [
      | Some name ↦ at_block (path ∷ outer) blocks (path ++ name ∷ [])
      | None ↦ cond (is_word (codes "esac") (bare ((codes "(" ++ word) ++ codes ")") ∷ []))
          (after_arms outer blocks) malformed
    ]) (word_found word)

word_read : (outer : List Path) (blocks : List Block) (path : Path) (word rest : List ℕ) →
    IsOther word →
    reading (between_arms outer blocks path) between (codes "(" ++ (word ++ (codes ")\n" ++ rest)))
    ≡ reading (at_block (path ∷ outer) blocks (longer_path path word)) between rest
unfolding sign byte_of cut read
word_read outer blocks path word rest h =
    ap (read (between_arms outer blocks path)) (bare_run word (codes ")\n" ++ rest) [] (codes "(") h)
    ∙ ap (λ s. read s (tokens_from between rest)) (arm_opens outer blocks path word)

block_ends_arm : (up : Path) (outer : List Path) (blocks : List Block) (path : Path)
    (rest : List ℕ) → reading (after_block (up ∷ outer) blocks path) between (arm_ends ++ rest)
    ≡ reading (between_arms outer blocks up) between rest
unfolding arm_ends sign byte_of cut is_word next next_arm read
block_ends_arm up outer blocks path rest = refl

nested_ends_arm : (up : Path) (outer : List Path) (blocks : List Block) (rest : List ℕ) →
    reading (after_nested (up ∷ outer) blocks) between (arm_ends ++ rest)
    ≡ reading (between_arms outer blocks up) between rest
unfolding arm_ends sign byte_of cut is_word next next_arm read
nested_ends_arm up outer blocks rest = refl

ends_line : (rest : List ℕ) → IsLine (arm_ends ++ rest)
unfolding arm_ends
ends_line rest = line _

line_feed_first : (outer : List Path) (blocks : List Block) (path : Path) (rest : List ℕ) →
    reading (after_block outer blocks path) between (line_feed ∷ rest)
    ≡ reading (after_block outer blocks path) between rest
unfolding sign cut
line_feed_first outer blocks path rest = refl

-- ---- all arms

-- every node of the forest is readable, given the node above it
abbrev pub AreReadable : Node → Forest → Type 0
AreReadable above none = Unit {0}
AreReadable above (more node below rest) =
    IsReadable above (record { node = node; children = below })
    × (AreReadable node below × AreReadable above rest)

-- the arms of a forest read back to the blocks of its visits
abbrev Reads : Node → Forest → Type 0
Reads above forest = (outer : List Path) (blocks : List Block) (path : Path) (rest : List ℕ) →
    reading (between_arms outer blocks path) between (arms_text above forest ++ rest)
    ≡ reading (between_arms outer (blocks ++ map block_at (paths_below longer_path path above forest)) path)
    between rest

-- the text in an arm after its block
nested_read : (node : Node) (below : Forest) → IsOther node.name → IsOther (context_text node) →
    Reads node below → (up : Path) (outer : List Path) (blocks : List Block) (path : Path)
    (rest : List ℕ) →
    reading (after_block (up ∷ outer) blocks path) between
    (nested_line node below (arms_text node below) ++ (arm_ends ++ rest))
    ≡ reading (between_arms outer (blocks ++ map block_at (paths_below longer_path path node below)) up)
    between rest
unfolding paths_below
nested_read node none name context reads up outer blocks path rest =
    block_ends_arm up outer blocks path rest
    ∙ ap (λ bs. reading (between_arms outer bs up) between rest) (sym (append-nil blocks))
nested_read node (more child under later) name context reads up outer blocks path rest =
    let arms : List ℕ = arms_text node (more child under later) in
    let more_blocks : List Block = blocks ++ map block_at
    (paths_below longer_path path node (more child under later)) in
    line_feed_first (up ∷ outer) blocks path (((nested_begins node ++ arms) ++ nested_ends) ++ (arm_ends ++ rest))
    ∙ ap (reading (after_block (up ∷ outer) blocks path) between)
    (in_parts (nested_begins node) (arms ∷ nested_ends ∷ []) (arm_ends ++ rest))
    ∙ frame_read node (up ∷ outer) blocks path (arms ++ (nested_ends ++ (arm_ends ++ rest))) name context
    ∙ reads (up ∷ outer) blocks path (nested_ends ++ (arm_ends ++ rest))
    ∙ frame_ends (up ∷ outer) more_blocks path (arm_ends ++ rest) (ends_line rest)
    ∙ nested_ends_arm up outer more_blocks rest

nested_is_line : (node : Node) (below : Forest) (arms rest : List ℕ) →
    IsLine (nested_line node below arms ++ (arm_ends ++ rest))
nested_is_line node none arms rest = ends_line rest
nested_is_line node (more child under later) arms rest = line _

module _ (above node : Node) (below : Forest)
    (is : IsReadable above (record { node = node; children = below })) (reads : Reads node below) where
  abbrev tree : Tree
  tree = record { node = node; children = below }

  abbrev nested : List ℕ
  nested = nested_line node below (arms_text node below)

  abbrev visits : Path → List (Keyed Path)
  visits path = keyed path above tree ∷ paths_below longer_path path node below

  name_is : IsOther node.name
  name_is = name_other node.name (plain_name_bytes node.name is.plain.names.0)

  context_is : IsOther (context_text node)
  context_is = name_other (context_text node) (context_bytes (full_name node) is.full)

  arm_read : (word : List ℕ) → IsPlainName word → (outer : List Path) (blocks : List Block)
      (path : Path) (rest : List ℕ) →
      reading (between_arms outer blocks path) between
      (arm_text (block_text above tree) nested word ++ rest)
      ≡ reading (between_arms outer (blocks ++ map block_at (visits (longer_path path word))) path)
      between rest
  arm_read word plain outer blocks path rest =
      let inside : Path = longer_path path word in
      let after : List ℕ = nested ++ (arm_ends ++ rest) in
      ap (reading (between_arms outer blocks path) between)
      (in_parts (codes "(") (word ∷ codes ")\n" ∷ block_text above tree ∷ nested ∷ arm_ends ∷ []) rest)
      ∙ word_read outer blocks path word (block_text above tree ++ after)
      (name_other word (plain_name_bytes word plain))
      ∙ arm_block_read inside above tree (path ∷ outer) blocks after is
      (nested_is_line node below (arms_text node below) rest)
      ∙ nested_read node below name_is context_is reads path outer
      (blocks ++ block_with inside above tree ∷ []) inside rest
      ∙ ap (λ bs. reading (between_arms outer bs path) between rest)
      (append_assoc blocks (block_with inside above tree ∷ [])
      (map block_at (paths_below longer_path inside node below)))

  names_read : (words : List (List ℕ)) → AllByRecursion IsPlainName words → (outer : List Path)
      (blocks : List Block) (path : Path) (rest : List ℕ) →
      reading (between_arms outer blocks path) between
      (flat_map (arm_text (block_text above tree) nested) words ++ rest)
      ≡ reading (between_arms outer
      (blocks ++ map block_at (flat_map visits (map (longer_path path) words))) path) between rest
  names_read [] h outer blocks path rest =
      ap (λ bs. reading (between_arms outer bs path) between rest) (sym (append-nil blocks))
  names_read (word ∷ words) (h, hs) outer blocks path rest =
      let here : List (Keyed Path) = visits (longer_path path word) in
      let later : List (Keyed Path) = flat_map visits (map (longer_path path) words) in
      ap (reading (between_arms outer blocks path) between)
      (append_assoc (arm_text (block_text above tree) nested word)
      (flat_map (arm_text (block_text above tree) nested) words) rest)
      ∙ arm_read word h outer blocks path
      (flat_map (arm_text (block_text above tree) nested) words ++ rest)
      ∙ names_read words hs outer (blocks ++ map block_at here) path rest
      ∙ ap (λ bs. reading (between_arms outer bs path) between rest)
      (append_assoc blocks (map block_at here) (map block_at later)
      ∙ ap (λ bs. blocks ++ bs) (sym (map-append block_at here later)))

pub arms_read : (above : Node) (forest : Forest) → AreReadable above forest → Reads above forest
unfolding arms_text paths_below
arms_read above none h outer blocks path rest =
    ap (λ bs. reading (between_arms outer bs path) between rest) (sym (append-nil blocks))
arms_read above (more node below rest) (h, (hs, ks)) outer blocks path after =
    let tree : Tree = record { node = node; children = below } in
    let text : List ℕ = flat_map (arm_text (block_text above tree)
    (nested_line node below (arms_text node below))) (visible_names node) in
    let here : List (Keyed Path) = flat_map (λ child. keyed child above tree
    ∷ paths_below longer_path child node below) (keys_below longer_path path node) in
    ap (reading (between_arms outer blocks path) between)
    (append_assoc text (arms_text above rest) after)
    ∙ names_read above node below h (arms_read node below hs) (visible_names node) h.plain.names
    outer blocks path (arms_text above rest ++ after)
    ∙ arms_read above rest ks outer (blocks ++ map block_at here) path after
    ∙ ap (λ bs. reading (between_arms outer bs path) between after)
    (append_assoc blocks (map block_at here) (map block_at (paths_below longer_path path above rest))
    ∙ ap (λ bs. blocks ++ bs) (sym (map-append block_at here (paths_below longer_path path above rest))))

-- the text of the root after its block, up to a line that begins after everything
pub root_nested_read : (node : Node) (children : Forest) → IsOther node.name →
    IsOther (context_text node) → AreReadable node children → (blocks : List Block) (path : Path)
    (rest : List ℕ) → IsLine rest → has_nodes children ≡ true →
    reading (after_block [] blocks path) between
    (nested_text node children (arms_text node children) ++ rest)
    ≡ reading (after_nested [] (blocks ++ map block_at (paths_below longer_path path node children)))
    between rest
root_nested_read node none name context h blocks path rest l e = absurd (let k : false ≡ true = e in cc)
root_nested_read node (more child under later) name context h blocks path rest l e =
    let arms : List ℕ = arms_text node (more child under later) in
    ap (reading (after_block [] blocks path) between)
    (in_parts (nested_begins node) (arms ∷ nested_ends ∷ []) rest)
    ∙ frame_read node [] blocks path (arms ++ (nested_ends ++ rest)) name context
    ∙ arms_read node (more child under later) h [] blocks path (nested_ends ++ rest)
    ∙ frame_ends [] (blocks ++ map block_at (paths_below longer_path path node (more child under later)))
    path rest l
