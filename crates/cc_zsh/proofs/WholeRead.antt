-- A whole script reads back to the blocks and the functions of its tree.
use Rattle.std.proofs.Common.{◌≡◌, ◌==◌, ◌&&◌, ℕ, Bool, true, false, cond, not, List, [], ◌∷◌, ◌++◌, map, flat_map, Some, None, option_map, codes, bytes_eq, refl, sym, ◌∙◌, ap, append_assoc, append-nil, arith}
use Rattle.std.specs.List.{AllByRecursion, list_all}
use Rattle.std.proofs.lemmas.Bool.Decides.{nat_tests}
use Rattle.cc_base.specs.Bytes as ascii
use Rattle.cc_base.proofs.Lines.{IsLine}
use Rattle.cc_base.proofs.Lines.IsLine.{line}
use Rattle.cc_base.proofs.Members.{AllByRecursion-weaker}
use Rattle.cc_command.specs.declared.node.Node.{Node}
use Rattle.cc_command.specs.Names.{full_name}
use Rattle.cc_command.specs.Tree.{Forest, none, more, Tree}
use Rattle.cc_quote.specs.PosixSigns.{sign, byte_of}
use Rattle.cc_quote.specs.PosixTokens.{cut, posix_tokens, between, in_bare}
use Rattle.cc_quote.specs.Tokens.{is_word}
use Rattle.cc_quote.specs.Tokens.Piece.{bare}
use Rattle.cc_quote.proofs.PosixCutting.{IsOther, IsKept-IsOther, tokens_from, bare_word, bare_run, double_run}
use Rattle.cc_generator.specs.Visits.{longer_path, path_visits, paths_below}
use Rattle.cc_generator.proofs.ReadInTurn.{in_parts}
use Rattle.cc_zsh.specs.Functions.{function_text, tree_functions}
use Rattle.cc_zsh.specs.Nested.{block_text, nested_begins, case_text, case_state, nested_ends, nested_text, arms_text, root_text, context_text}
use Rattle.cc_zsh.specs.Reader.{Block, Description, State, parts_at_end, function_name, is_name_byte, next, next_arm, next_function, read, text_before, zsh_parts}
use Rattle.cc_zsh.specs.Reader.State.{after_block, after_nested, before_blocks, between_functions, in_block}
use Rattle.cc_zsh.specs.Script.{compdef_begins, autoloads, body_begins, begin_text, body_ends, if_called, then_call, else_define, if_ends, end_text, functions_text, script_text, zsh_script}
use Rattle.cc_zsh.specs.Table.{description_of}
use Rattle.cc_zsh.proofs.OptionWords.{AreNameBytes, name_byte-differs}
use Rattle.cc_zsh.proofs.LinesRead.{reading}
use Rattle.cc_zsh.proofs.PlainNames.{name_other, plain_name_bytes}
use Rattle.cc_zsh.proofs.BlockRead.{IsReadable, block_with, context_bytes, root_block_read}
use Rattle.cc_zsh.proofs.ArmsRead.{AreReadable, block_at, root_nested_read}
use Rattle.cc_zsh.proofs.FunctionsRead.{IsFunction, functions_read, passed}

-- ---- before the root's block

-- the name of a program begins with a byte that is not `_` and does not end a word
pub record IsBinName (name : List ℕ) : Type 0 where
  pub first : ℕ
  pub rest : List ℕ
  pub whole : name ≡ first ∷ rest
  pub bytes : AreNameBytes (first ∷ rest)
  pub no_underscore : first == ascii.underscore ≡ false

with_bracket : (text rest sought : List ℕ) → list_all (λ byte. not (byte == ascii.open_parenthesis)) sought ≡ true →
    bytes_eq (text ++ ascii.open_parenthesis ∷ rest) sought ≡ false
with_bracket [] rest [] h = refl
with_bracket [] rest (byte ∷ sought) h = grind (arith, nat_tests)
with_bracket (first ∷ text) rest [] h = refl
with_bracket (first ∷ text) rest (byte ∷ sought) h = by_test (first == byte)
    (with_bracket text rest sought (tail (not (byte == ascii.open_parenthesis)) (list_all (λ b. not (b == ascii.open_parenthesis)) sought) h))
  where
    tail : (a b : Bool) → (a && b) ≡ true → b ≡ true
    tail true b e = e
    tail false b e = cc

    by_test : (q : Bool) → bytes_eq (text ++ ascii.open_parenthesis ∷ rest) sought ≡ false →
        (q && bytes_eq (text ++ ascii.open_parenthesis ∷ rest) sought) ≡ false
    by_test true e = e
    by_test false e = refl

-- a token that is a different word
other_word : (run : List ℕ) → bytes_eq run (codes "_arguments") ≡ false →
    next before_blocks (bare run ∷ []) ≡ before_blocks
unfolding next is_word
other_word run e = ap (λ b. cond b (in_block [] [] (record { path = []; options = []; function = None })) before_blocks) e

first_word : (first : ℕ) (rest : List ℕ) → first == ascii.underscore ≡ false →
    bytes_eq (first ∷ rest) (codes "_arguments") ≡ false
first_word first rest e = ap (λ b. b && bytes_eq rest (codes "arguments")) e

named_word : (bin : List ℕ) → bytes_eq ((codes "_" ++ bin) ++ codes "()") (codes "_arguments") ≡ false
named_word bin = with_bracket bin (codes ")") (codes "arguments") refl

-- the text after the name of the function, up to the blocks
abbrev after_function_name : List ℕ → List ℕ
after_function_name rest =
    codes " {\n" ++ (codes "    typeset -A opt_args\n"
    ++ (codes "    typeset -a _arguments_options\n" ++ (codes "    local ret=1\n" ++ (codes "\n"
    ++ (codes "    if is-at-least 5.2; then\n" ++ (codes "        _arguments_options=(-s -S -C)\n"
    ++ (codes "    else\n" ++ (codes "        _arguments_options=(-s -C)\n" ++ (codes "    fi\n"
    ++ (codes "\n" ++ (codes "    local context curcontext=\"$curcontext\" state line\n"
    ++ (codes "    " ++ rest))))))))))))

begin_tail : (rest : List ℕ) →
    reading before_blocks between (after_function_name rest) ≡ reading before_blocks between rest
unfolding sign byte_of cut is_word next read
begin_tail rest = refl

first_read : (first : ℕ) (rest named : List ℕ) → first == ascii.underscore ≡ false →
    read before_blocks (tokens_from (in_bare [] (first ∷ rest)) (autoloads ++ named))
    ≡ reading before_blocks (in_bare [] (codes "_")) named
unfolding autoloads sign byte_of cut is_word next read
first_read first rest named e =
    ap (λ s. read s (tokens_from between (codes "\nautoload -U is-at-least\n\n_" ++ named)))
    (other_word (first ∷ rest) (first_word first rest e))

second_read : (bin rest : List ℕ) →
    read before_blocks (tokens_from (in_bare [] (codes "_" ++ bin)) (body_begins ++ rest))
    ≡ reading before_blocks between (after_function_name rest)
unfolding body_begins sign byte_of cut is_word next read
second_read bin rest = ap (λ s. read s (tokens_from between (after_function_name rest)))
    (other_word (((codes "_" ++ bin) ++ codes "(") ++ codes ")") (named_tokens bin))
  where
    named_tokens : (bin : List ℕ) → bytes_eq (((codes "_" ++ bin) ++ codes "(") ++ codes ")") (codes "_arguments") ≡ false
    named_tokens bin = ap (λ t. bytes_eq (ascii.underscore ∷ t) (codes "_arguments")) (append_assoc bin (codes "(") (codes ")")) ∙ named_word bin

begin_read : (bin rest : List ℕ) → IsBinName bin →
    reading before_blocks between (begin_text bin ++ rest) ≡ reading before_blocks between rest
unfolding begin_text compdef_begins autoloads body_begins sign byte_of cut is_word next read
begin_read bin rest is =
    let all : List ℕ = is.first ∷ is.rest in
    let named : List ℕ = bin ++ (body_begins ++ rest) in
    ap (reading before_blocks between) (in_parts compdef_begins (bin ∷ autoloads ∷ bin ∷ body_begins ∷ []) rest)
    ∙ ap (λ t. reading before_blocks between (compdef_begins ++ (t ++ (autoloads ++ named)))) is.whole
    ∙ ap (read before_blocks) (bare_word all (autoloads ++ named) (name_other all is.bytes))
    ∙ first_read is.first is.rest named is.no_underscore
    ∙ ap (λ t. read before_blocks (tokens_from (in_bare [] (codes "_")) (t ++ (body_begins ++ rest)))) is.whole
    ∙ ap (read before_blocks) (bare_run all (body_begins ++ rest) [] (codes "_") (name_other all is.bytes))
    ∙ second_read all rest
    ∙ begin_tail rest

-- ---- after the functions

lacks_bracket : (last : ℕ) (text : List ℕ) → AllByRecursion (λ byte. byte == last ≡ false) text →
    text_before last text ≡ None
unfolding text_before
lacks_bracket last [] h = refl
lacks_bracket last (byte ∷ []) (h, hs) = ap (λ b. cond b (Some []) None) h
lacks_bracket last (byte ∷ next ∷ text) (h, hs) =
    ap (option_map (λ before. byte ∷ before)) (lacks_bracket last (next ∷ text) hs)

name_lacks : (name : List ℕ) → AreNameBytes name → text_before ascii.close_parenthesis name ≡ None
name_lacks name h = lacks_bracket ascii.close_parenthesis name (AllByRecursion-weaker (λ b. is_name_byte b ≡ true)
    (λ b. b == ascii.close_parenthesis ≡ false) (λ b. name_byte-differs ascii.close_parenthesis b refl) name h)

underscore : is_name_byte 95 ≡ true
unfolding is_name_byte
underscore = refl

module _ (blocks : List Block) (ds : List Description) (bin : List ℕ) (h : AreNameBytes bin) where
  abbrev functions : State
  functions = between_functions blocks ds

  other : IsOther bin
  other = name_other bin h

  -- a bare token of the name
  name_passed : next functions (bare bin ∷ []) ≡ functions
  name_passed = passed blocks ds bin (name_lacks bin h)

  function_passed : next functions (bare (codes "_" ++ bin) ∷ []) ≡ functions
  function_passed = passed blocks ds (codes "_" ++ bin) (name_lacks (ascii.underscore ∷ bin) (underscore, h))

  last_read : reading functions (in_bare [] (codes "_")) (bin ++ (codes " " ++ (bin ++ if_ends)))
      ≡ Some (record { blocks = blocks; descriptions = ds })
  unfolding if_ends sign byte_of cut next next_function function_name text_before read parts_at_end
  last_read =
      ap (read functions) (bare_run bin (codes " " ++ (bin ++ if_ends)) [] (codes "_") other)
      ∙ ap (λ s. read s (tokens_from between (bin ++ if_ends))) function_passed
      ∙ by_first bin h other name_passed
    where
      by_first : (name : List ℕ) → AreNameBytes name → IsOther name →
          next functions (bare name ∷ []) ≡ functions →
          read functions (tokens_from between (name ++ if_ends))
          ≡ Some (record { blocks = blocks; descriptions = ds })
      by_first [] k o p = refl
      by_first (byte ∷ name) k o p =
          ap (read functions) (bare_word (byte ∷ name) if_ends o)
          ∙ ap (λ s. read s (tokens_from between (codes "fi\n"))) p

  third_read : reading functions (in_bare [] (codes "_"))
      (bin ++ (else_define ++ (bin ++ (codes " " ++ (bin ++ if_ends)))))
      ≡ Some (record { blocks = blocks; descriptions = ds })
  unfolding else_define sign byte_of cut next next_function function_name text_before read
  third_read =
      ap (read functions)
      (bare_run bin (else_define ++ (bin ++ (codes " " ++ (bin ++ if_ends)))) [] (codes "_") other)
      ∙ ap (λ s. read s (tokens_from between (codes "\"$@\"\nelse\n    compdef _"
      ++ (bin ++ (codes " " ++ (bin ++ if_ends)))))) function_passed
      ∙ last_read

  end_read : reading functions between (end_text bin)
      ≡ Some (record { blocks = blocks; descriptions = ds })
  unfolding end_text if_called then_call sign byte_of cut next next_function function_name text_before read
  end_read =
      let third : List ℕ = bin ++ (else_define ++ (bin ++ (codes " " ++ (bin ++ if_ends)))) in
      ap (reading functions between)
      (in_parts if_called (bin ∷ then_call ∷ bin ∷ else_define ∷ bin ∷ codes " " ∷ bin ∷ []) if_ends)
      ∙ ap (read functions) (double_run bin (then_call ++ third) [] (codes "_") (IsKept-IsOther bin other))
      ∙ third_read

-- ---- the whole script

middle_line : (rest : List ℕ) → IsLine (body_ends ++ rest)
unfolding body_ends
middle_line rest = line _

block_middle : (blocks : List Block) (path : List (List ℕ)) (rest : List ℕ) →
    reading (after_block [] blocks path) between (body_ends ++ rest)
    ≡ reading (between_functions blocks []) between rest
unfolding body_ends sign byte_of cut is_word next next_arm next_function function_name text_before read
block_middle blocks path rest = refl

nested_middle : (blocks : List Block) (rest : List ℕ) →
    reading (after_nested [] blocks) between (body_ends ++ rest)
    ≡ reading (between_functions blocks []) between rest
unfolding body_ends sign byte_of cut is_word next next_arm next_function function_name text_before read
nested_middle blocks rest = refl

-- the requirements on a tree
pub record IsReadableTree (root : Tree) : Type 0 where
  pub bin : IsBinName (full_name root.node)
  pub bin_bytes : AreNameBytes (full_name root.node)
  pub node : IsReadable root.node root
  pub below : AreReadable root.node root.children
  pub functions : AllByRecursion IsFunction (tree_functions root)

abbrev tree_blocks : Tree → List Block
tree_blocks root = map block_at (path_visits longer_path [] root)

nested_or_none : (node : Node) (children : Forest) (rest : List ℕ) → IsOther node.name →
    IsOther (context_text node) → AreReadable node children → (blocks : List Block) →
    reading (after_block [] blocks []) between
    (nested_text node children (arms_text node children) ++ (body_ends ++ rest))
    ≡ reading (between_functions (blocks ++ map block_at (paths_below longer_path [] node children)) [])
    between rest
unfolding paths_below
nested_or_none node none rest name context h blocks =
    block_middle blocks [] rest
    ∙ ap (λ bs. reading (between_functions bs []) between rest) (sym (append-nil blocks))
nested_or_none node (more child under later) rest name context h blocks =
    root_nested_read node (more child under later) name context h blocks [] (body_ends ++ rest)
    (middle_line rest) refl
    ∙ nested_middle (blocks ++ map block_at (paths_below longer_path [] node (more child under later))) rest

begins_line : (node : Node) (arms rest : List ℕ) →
    IsLine (((nested_begins node ++ arms) ++ nested_ends) ++ rest)
unfolding case_text case_state
begins_line node arms rest = line _

nested_line : (node : Node) (children : Forest) (arms rest : List ℕ) →
    IsLine (nested_text node children arms ++ (body_ends ++ rest))
nested_line node none arms rest = middle_line rest
nested_line node (more child under later) arms rest = begins_line node arms (body_ends ++ rest)

root_read : (root : Tree) (rest : List ℕ) → IsReadableTree root →
    reading before_blocks between (root_text root ++ (body_ends ++ rest))
    ≡ reading (between_functions (tree_blocks root) []) between rest
unfolding root_text
root_read root rest is =
    let nested : List ℕ = nested_text root.node root.children (arms_text root.node root.children) in
    ap (reading before_blocks between) (append_assoc (block_text root.node root) nested (body_ends ++ rest))
    ∙ root_block_read root.node root (nested ++ (body_ends ++ rest)) is.node
    (nested_line root.node root.children (arms_text root.node root.children) rest)
    ∙ nested_or_none root.node root.children rest
    (name_other root.node.name (plain_name_bytes root.node.name is.node.plain.names.0))
    (name_other (context_text root.node) (context_bytes (full_name root.node) is.node.full))
    is.below (block_with [] root.node root ∷ [])

-- the script of such a tree reads back to its blocks and functions
pub parts_read : (root : Tree) → IsReadableTree root → zsh_parts (zsh_script root)
    ≡ Some (record { blocks = tree_blocks root; descriptions = map description_of (tree_functions root) })
unfolding zsh_parts posix_tokens script_text functions_text
parts_read root is =
    let bin : List ℕ = full_name root.node in
    let functions : List ℕ = flat_map function_text (tree_functions root) in
    ap (reading before_blocks between)
    (in_parts (begin_text bin) (root_text root ∷ body_ends ∷ functions ∷ []) (end_text bin))
    ∙ begin_read bin (root_text root ++ (body_ends ++ (functions ++ end_text bin))) is.bin
    ∙ root_read root (functions ++ end_text bin) is
    ∙ functions_read (tree_blocks root) (tree_functions root) [] (end_text bin) is.functions
    ∙ end_read (tree_blocks root) (map description_of (tree_functions root)) bin is.bin_bytes
