-- The reading of the block of a node.
use Rattle.std.proofs.Common.{◌≡◌, ◌==◌, ℕ, Bool, true, false, cond, List, [], ◌∷◌, ◌++◌, Option, Some, None, codes, refl, ◌∙◌, ap, inl, inr, ◌⊎◌, append_assoc, append-nil}
use Rattle.std.specs.List.{AllByRecursion}
use Rattle.std.specs.Option.{option_to_list}
use Rattle.cc_base.specs.Bytes.{space, underscore}
use Rattle.cc_base.proofs.Lines.{IsLine}
use Rattle.cc_base.proofs.Lines.IsLine.{line}
use Rattle.cc_base.proofs.Members.{AllByRecursion-append}
use Rattle.cc_base.specs.Found.{after as text_after}
use Rattle.cc_command.specs.declared.node.Node.{Node}
use Rattle.cc_command.specs.Names.{full_name}
use Rattle.cc_command.specs.Tree.{Forest, Tree, has_nodes}
use Rattle.cc_command.proofs.PlainParts.{IsPlainArgument, IsPlainNode}
use Rattle.cc_quote.specs.PosixSigns.{sign, byte_of}
use Rattle.cc_quote.specs.PosixTokens.{cut, double, between, in_double}
use Rattle.cc_quote.specs.Tokens.{Token, is_word}
use Rattle.cc_quote.proofs.PosixCutting.{IsKept-IsOther, tokens_from, double_run}
use Rattle.cc_quote.specs.Escapes.{replace_byte}
use Rattle.cc_generator.proofs.ReadInTurn.{in_parts}
use Rattle.cc_zsh.specs.Nested.{function_label, block_begins, block_ends, external_text, command_begins, state_begins, state_ends, children_text, below_text, block_text}
use Rattle.cc_zsh.specs.Options.{options_text, flags_text}
use Rattle.cc_zsh.specs.Positionals.{positionals_text}
use Rattle.cc_zsh.specs.Reader.{Block, Path, ZshOption, first_named, is_name_byte, named_function, new_block, next, next_state, option_of, state_after, read, read_option, with_word, word_of}
use Rattle.cc_zsh.specs.Reader.State.{after_block, at_block, at_ret, before_blocks, in_block}
use Rattle.cc_zsh.specs.Table.{node_rows}
use Rattle.cc_zsh.proofs.OptionWords.{AreNameBytes, colon_none, name_byte-differs, star_none}
use Rattle.cc_zsh.proofs.LinesRead.{reading, with_options, first_named-none}
use Rattle.cc_zsh.proofs.PlainNames.{name_other, plain_name_bytes}
use Rattle.cc_zsh.proofs.OptionLines.{node_adds}
use Rattle.cc_zsh.proofs.PositionalsRead.{positionals_add}

-- ---- full names

-- a full name consists of bytes of names and of spaces
abbrev pub AreFullBytes : List ℕ → Type 0
AreFullBytes text = AllByRecursion (λ byte. (is_name_byte byte ≡ true) ⊎ (byte ≡ 32)) text

pub replace_byte_bytes : (by text : List ℕ) → AreNameBytes by → AreFullBytes text →
    AreNameBytes (replace_byte 32 by text)
replace_byte_bytes by [] h k = tt
replace_byte_bytes by (byte ∷ text) h (inl k, ks) =
    AllByRecursion-append (λ b. is_name_byte b ≡ true) (cond (byte == space) by (byte ∷ [])) (replace_byte 32 by text)
    (let e : byte == space ≡ false = name_byte-differs space byte refl k in rw e (k, tt))
    (replace_byte_bytes by text h ks)
replace_byte_bytes by (byte ∷ text) h (inr e, ks) =
    AllByRecursion-append (λ b. is_name_byte b ≡ true) (cond (byte == space) by (byte ∷ [])) (replace_byte 32 by text)
    (rw e h) (replace_byte_bytes by text h ks)

subcmd_bytes : AreNameBytes (codes "__subcmd__")
unfolding is_name_byte
subcmd_bytes = (refl, (refl, (refl, (refl, (refl, (refl, (refl, (refl, (refl, (refl, tt))))))))))

commands_bytes : AreNameBytes (codes "_commands")
unfolding is_name_byte
commands_bytes = (refl, (refl, (refl, (refl, (refl, (refl, (refl, (refl, (refl, tt)))))))))

dash_bytes : AreNameBytes (codes "-")
unfolding is_name_byte
dash_bytes = (refl, tt)

pub label_bytes : (name : List ℕ) → AreFullBytes name → AreNameBytes (function_label name)
label_bytes name h =
    AllByRecursion-append (λ b. is_name_byte b ≡ true) (replace_byte 32 (codes "__subcmd__") name)
    (codes "_commands") (replace_byte_bytes (codes "__subcmd__") name subcmd_bytes h) commands_bytes

pub context_bytes : (name : List ℕ) → AreFullBytes name → AreNameBytes (replace_byte 32 (codes "-") name)
context_bytes name h = replace_byte_bytes (codes "-") name dash_bytes h

-- ---- words that describe no option

abbrev pub with_function : Block → Option (List ℕ) → Block
with_function block function = record block { function = function }

word_step : (token : Token) (named : Option (List ℕ)) (outer : List Path) (blocks : List Block)
    (block : Block) → is_word (codes "&&") token ≡ false → option_of (word_of token) ≡ None →
    named_function token ≡ named → next (in_block outer blocks block) token
    ≡ in_block outer blocks (with_function block (first_named block.function named))
unfolding next with_word
word_step token named outer blocks block not_and none names =
    ap (λ b. cond b (at_ret outer blocks block) (in_block outer blocks (with_word block token))) not_and
    ∙ ap (λ o. in_block outer blocks (record {
      path = block.path;
      options = block.options ++ option_to_list o;
      function = first_named block.function (named_function token);
    })) none
    ∙ ap (λ os. in_block outer blocks (record {
      path = block.path;
      options = os;
      function = first_named block.function (named_function token);
    })) (append-nil block.options)
    ∙ ap (λ n. in_block outer blocks (with_function block (first_named block.function n))) names

first_word : (function : List ℕ) (outer : List Path) (blocks : List Block) (block : Block) →
    next (in_block outer blocks block) (double (codes ":: :_" ++ function) ∷ [])
    ≡ in_block outer blocks (with_function block
    (first_named block.function (Some (underscore ∷ function))))
unfolding is_word word_of named_function text_after
first_word function outer blocks block =
    word_step (double (codes ":: :_" ++ function) ∷ []) (Some (underscore ∷ function)) outer blocks block
    refl (colon_none ((codes ": :_" ++ function) ++ [])) refl

-- a word that begins with a star and a colon changes nothing
star_word : (text : List ℕ) (outer : List Path) (blocks : List Block) (block : Block) →
    next (in_block outer blocks block) (double (codes "*:" ++ text) ∷ [])
    ≡ in_block outer blocks block
unfolding is_word word_of named_function text_after
star_word text outer blocks block =
    word_step (double (codes "*:" ++ text) ∷ []) None outer blocks block
    refl (star_none [] (text ++ [])) refl
    ∙ ap (λ f. in_block outer blocks (with_function block f)) (first_named-none block.function)

-- the words of the children name their function
children_read : (node : Node) (outer : List Path) (blocks : List Block) (block : Block)
    (rest : List ℕ) → AreNameBytes (function_label (full_name node)) → AreNameBytes node.name →
    reading (in_block outer blocks block) between (children_text node ++ rest)
    ≡ reading (in_block outer blocks (with_function block
    (first_named block.function (Some (underscore ∷ function_label (full_name node)))))) between rest
unfolding children_text command_begins state_begins state_ends sign byte_of cut read
children_read node outer blocks block rest label name =
    let function : List ℕ = function_label (full_name node) in
    let named : Block = with_function block (first_named block.function (Some (underscore ∷ function))) in
    let after : List ℕ = node.name ++ (state_ends ++ rest) in
    ap (reading (in_block outer blocks block) between)
    (in_parts command_begins (function ∷ state_begins ∷ node.name ∷ state_ends ∷ []) rest)
    ∙ ap (read (in_block outer blocks block))
    (double_run function (state_begins ++ after) [] (codes ":: :_")
    (IsKept-IsOther function (name_other function label)))
    ∙ ap (λ s. read s (tokens_from (in_double [] (codes "*::: :->")) after))
    (first_word function outer blocks block)
    ∙ ap (read (in_block outer blocks named))
    (double_run node.name (state_ends ++ rest) [] (codes "*::: :->")
    (IsKept-IsOther node.name (name_other node.name name)))
    ∙ ap (λ s. read s (tokens_from between rest))
    (star_word (codes ":: :->" ++ node.name) outer blocks named)

external_read : (outer : List Path) (blocks : List Block) (block : Block) (rest : List ℕ) →
    reading (in_block outer blocks block) between (external_text ++ rest)
    ≡ reading (in_block outer blocks block) between rest
unfolding external_text sign byte_of cut read
external_read outer blocks block rest =
    ap (λ s. read s (tokens_from between rest))
    (star_word (codes ":external_command:_default") outer blocks block)

-- ---- the block

-- the function that a node's block names
abbrev pub children_label : Node → Forest → Option (List ℕ)
children_label node children =
    cond (has_nodes children) (Some (underscore ∷ function_label (full_name node))) None

-- the requirements on a node, given the node above it
pub record IsReadable (above : Node) (tree : Tree) : Type 0 where
  pub above_plain : AllByRecursion IsPlainArgument above.arguments
  pub plain : IsPlainNode tree.node
  pub full : AreFullBytes (full_name tree.node)

abbrev pub block_with : Path → Node → Tree → Block
block_with path above tree = record {
  path = path;
  options = node_rows above tree.node;
  function = children_label tree.node tree.children;
}

regroup_block : (a o f p b e rest : List ℕ) →
    (((((a ++ o) ++ f) ++ p) ++ b) ++ e) ++ rest ≡ a ++ ((o ++ f) ++ (p ++ (b ++ (e ++ rest))))
regroup_block a o f p b e rest = simp append_assoc

-- the text after the beginning of a block
abbrev body : Node → Tree → List ℕ → List ℕ
body above tree rest =
    (options_text above tree.node ++ flags_text above tree.node)
    ++ (positionals_text tree ++ (below_text tree ++ (block_ends ++ rest)))

block_parts : (above : Node) (tree : Tree) (rest : List ℕ) →
    block_text above tree ++ rest ≡ block_begins ++ body above tree rest
unfolding block_text
block_parts above tree rest =
    regroup_block block_begins (options_text above tree.node) (flags_text above tree.node)
    (positionals_text tree) (below_text tree) block_ends rest

ends_read : (outer : List Path) (blocks : List Block) (block : Block) (rest : List ℕ) →
    IsLine rest → reading (in_block outer blocks block) between (block_ends ++ rest)
    ≡ reading (after_block outer (blocks ++ block ∷ []) block.path) between rest
unfolding block_ends sign byte_of cut is_word next read
ends_read outer blocks block rest (line tail) = refl

below_read : (path : Path) (above : Node) (tree : Tree) (outer : List Path) (blocks : List Block)
    (rest : List ℕ) → IsReadable above tree →
    reading (in_block outer blocks (with_options (new_block path) (node_rows above tree.node)))
    between (below_text tree ++ rest)
    ≡ reading (in_block outer blocks (block_with path above tree)) between rest
unfolding below_text
below_read path above tree outer blocks rest is =
    by_tests (has_nodes tree.children) tree.node.allow_external_subcommands
  where
    block : Block
    block = with_options (new_block path) (node_rows above tree.node)

    by_tests : (has external : Bool) → reading (in_block outer blocks block) between
        (cond has (children_text tree.node) (cond external external_text []) ++ rest)
        ≡ reading (in_block outer blocks (with_function block
        (cond has (Some (underscore ∷ function_label (full_name tree.node))) None))) between rest
    by_tests true external = children_read tree.node outer blocks block rest
        (label_bytes (full_name tree.node) is.full) (plain_name_bytes tree.node.name is.plain.names.0)
    by_tests false true = external_read outer blocks block rest
    by_tests false false = refl

-- from the first option on
body_read : (path : Path) (above : Node) (tree : Tree) (outer : List Path) (blocks : List Block)
    (rest : List ℕ) → IsReadable above tree → IsLine rest →
    reading (in_block outer blocks (new_block path)) between (body above tree rest)
    ≡ reading (after_block outer (blocks ++ block_with path above tree ∷ []) path) between rest
body_read path above tree outer blocks rest is l =
    let rows : List ZshOption = node_rows above tree.node in
    let end : List ℕ = block_ends ++ rest in
    let below : List ℕ = below_text tree ++ end in
    node_adds above tree.node is.above_plain is.plain outer blocks (new_block path)
    (positionals_text tree ++ below)
    ∙ positionals_add tree is.plain.arguments outer blocks (with_options (new_block path) rows) below
    ∙ ap (λ os. reading (in_block outer blocks (record (new_block path) { options = os })) between below)
    (append-nil rows)
    ∙ below_read path above tree outer blocks end is
    ∙ ends_read outer blocks (block_with path above tree) rest l

begins_arm : (outer : List Path) (blocks : List Block) (path : Path) (rest : List ℕ) →
    reading (at_block outer blocks path) between (block_begins ++ rest)
    ≡ reading (in_block outer blocks (new_block path)) between rest
unfolding block_begins sign byte_of cut is_word next read with_word word_of named_function text_after option_of state_after next_state read_option
begins_arm outer blocks path rest = refl

begins_root : (rest : List ℕ) → reading before_blocks between (block_begins ++ rest)
    ≡ reading (in_block [] [] (new_block [])) between rest
unfolding block_begins sign byte_of cut is_word next read with_word word_of named_function text_after option_of state_after next_state read_option
begins_root rest = refl

-- the block in an arm, and the root's
pub arm_block_read : (path : Path) (above : Node) (tree : Tree) (outer : List Path)
    (blocks : List Block) (rest : List ℕ) → IsReadable above tree → IsLine rest →
    reading (at_block outer blocks path) between (block_text above tree ++ rest)
    ≡ reading (after_block outer (blocks ++ block_with path above tree ∷ []) path) between rest
arm_block_read path above tree outer blocks rest is l =
    ap (reading (at_block outer blocks path) between) (block_parts above tree rest)
    ∙ begins_arm outer blocks path (body above tree rest)
    ∙ body_read path above tree outer blocks rest is l

pub root_block_read : (above : Node) (tree : Tree) (rest : List ℕ) → IsReadable above tree →
    IsLine rest → reading before_blocks between (block_text above tree ++ rest)
    ≡ reading (after_block [] (block_with [] above tree ∷ []) []) between rest
root_block_read above tree rest is l =
    ap (reading before_blocks between) (block_parts above tree rest)
    ∙ begins_root (body above tree rest)
    ∙ body_read [] above tree [] [] rest is l
