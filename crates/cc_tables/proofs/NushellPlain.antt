-- The Nushell script of a plain tree reads back to the tree's blocks.
use Rattle.std.proofs.Common.{◌≡◌, ◌≢◌, ◌==◌, ℕ, Bool, true, false, IsTrue, List, map, codes, flat_map, refl, cond, [], ◌∷◌, ◌++◌, Option, Some, None, option_map, is_some, reverse, sym, ap, ◌∙◌, append_assoc, append-nil, arith}
use Rattle.std.specs.List.{AllByRecursion}
use Rattle.std.proofs.lemmas.Bool.Decides.{nat_tests}
use Rattle.std.specs.Bool.{⊤}
use Rattle.std.proofs.lemmas.List.{reverse-append, reverse-reverse}
use Rattle.cc_base.proofs.Members.{AllByRecursion-weaker, AllByRecursion-append, AllByRecursion-map}
use Rattle.cc_arg.specs.declared.parts.ArgParts.{ArgParts as Arg}
use Rattle.cc_command.specs.ArgumentLists.{options, flags}
use Rattle.cc_command.specs.Names.{full_name}
use Rattle.cc_command.specs.Plain.{is_plain_tree}
use Rattle.cc_base.specs.PlainName.{name_byte, foreign}
use Rattle.cc_base.proofs.NameBytes.{name_is_not}
use Rattle.cc_command.specs.Tree.{Tree}
use Rattle.cc_command.proofs.PlainParts.{IsPlainArgument, IsPlainBelow, plain_node}
use Rattle.cc_base.specs.Bytes.{colon, line_feed, space, double_quote, open_bracket}
use Rattle.cc_base.specs.Found.{after, after_mark, before_ending, cut_at, pieces_from, with_front}
use Rattle.cc_base.proofs.Cases.{choose}
use Rattle.cc_base.proofs.Finding.{Cut, past_lacking}
use Rattle.cc_quote.specs.QuotedWord.{line_feeds_as_spaces, space_for_line_feed}
use Rattle.cc_tables.specs.NushellReader.{NushellReads, ends_name, line_read, nushell_blocks, State, Sign, after_name, between, closed, holds, in_block, in_block_sign, key_sign, name_of, next, opens, other, read, record_of, sign}
use Rattle.cc_tables.specs.NushellScript.{argument_lines, line_text, node_lines, nushell_frame, offer_line, Line, content, help_begin, help_text, line_begin, type_text, value_text}
use Rattle.cc_tables.specs.Offers.{argument_offers, word}
use Rattle.cc_tables.specs.Script.{script_text, head_text, named_text}
use Rattle.cc_tables.specs.Tables.{path_tables, Table}
use Rattle.cc_tables.specs.declared.offers.Offer.{Offer}
use Rattle.cc_tables.proofs.PlainOffers.{IsPlainOffer, arguments_plain}
use Rattle.cc_tables.proofs.PlainTables.{reads_tables, space_foreign, tables_readable, IsReadable, table_read}
use Rattle.cc_tables.proofs.ScriptReadsBack.{script_reads}

-- ---- the lines of a text

-- no byte is a line feed
abbrev pub IsOneLine : List ℕ → Type 0
IsOneLine text = AllByRecursion (λ byte. (byte == line_feed) ≡ false) text

-- the text up to a line feed is a line
line_first : (text begun rest : List ℕ) → IsOneLine text
    → pieces_from line_feed begun (text ++ line_feed ∷ rest) ≡ (begun ++ text) ∷ pieces_from line_feed [] rest
line_first [] begun rest h = ap (λ line. line ∷ pieces_from line_feed [] rest) (sym (append-nil begun))
line_first (byte ∷ text) begun rest (h, hs) =
    ap (λ test. choose test (begun ∷ pieces_from line_feed [] (text ++ line_feed ∷ rest))
    (pieces_from line_feed (begun ++ byte ∷ []) (text ++ line_feed ∷ rest))) h
    ∙ line_first text (begun ++ byte ∷ []) rest hs
    ∙ ap (λ line. line ∷ pieces_from line_feed [] rest) (append_assoc begun (byte ∷ []) text)

-- what the reader reads from a state on
abbrev reading : State → List ℕ → Option (List (Table Line))
reading state script = read state (pieces_from line_feed [] script)

-- a line is read by its sign
one_line : (state : State) (text rest : List ℕ) → IsOneLine text
    → reading state (text ++ line_feed ∷ rest) ≡ reading (next state (sign text)) rest
unfolding read
one_line state text rest h = ap (read state) (line_first text [] rest h)

-- ---- a record

-- no byte ends the name
abbrev pub IsWholeName : List ℕ → Type 0
IsWholeName name = AllByRecursion (λ byte. ends_name byte ≡ false) name

-- a name ends where the text after it begins
name_whole : (name rest : List ℕ) → IsWholeName name → name_of (name ++ rest) ≡ name ++ name_of rest
unfolding name_of
name_whole [] rest h = refl
name_whole (byte ∷ name) rest (h, hs) =
    ap (λ test. cond test [] (byte ∷ name_of (name ++ rest))) h
    ∙ ap (λ bytes. byte ∷ bytes) (name_whole name rest hs)

name_passed : (name rest : List ℕ) → IsWholeName name → after_name (name ++ rest) ≡ after_name rest
unfolding after_name
name_passed [] rest h = refl
name_passed (byte ∷ name) rest (h, hs) =
    ap (λ test. cond test (byte ∷ (name ++ rest)) (after_name (name ++ rest))) h
    ∙ name_passed name rest hs

-- a byte that does not end a name is not a space
not_space : (byte : ℕ) → ends_name byte ≡ false → (space == byte) ≡ false
not_space byte h = grind (arith, nat_tests)

-- the text after a mark does not depend on a text before it that lacks the mark
rest_same : (front : List ℕ) (cut : Cut)
    → option_map (λ c. c.1) (with_front front cut) ≡ option_map (λ c. c.1) cut
unfolding with_front
rest_same front None = refl
rest_same front (Some (before, rest)) = refl

-- no help text begins within a name
no_help : (name rest : List ℕ) → IsWholeName name
    → after_mark (codes " # ") (name ++ rest) ≡ after_mark (codes " # ") rest
unfolding after_mark
no_help name rest h =
    ap (option_map (λ c. c.1)) (past_lacking space (codes "# ") name rest
    (AllByRecursion-weaker (λ byte. ends_name byte ≡ false) (λ byte. (space == byte) ≡ false) not_space name h))
    ∙ rest_same name (cut_at (codes " # ") rest)

-- a record, given its parts
abbrev line_of : List ℕ → Bool → Option (List ℕ) → Line
line_of name takes_value help = record { name = name; takes_value = takes_value; help = help }

-- the text after a name
parts_read : (name : List ℕ) (takes_value : Bool) (help : Option (List ℕ)) →
    line_of (name ++ name_of (type_text takes_value ++ help_text help))
    (is_some (after (codes ": string") (after_name (type_text takes_value ++ help_text help))))
    (after_mark (codes " # ") (type_text takes_value ++ help_text help))
    ≡ line_of name takes_value (option_map line_feeds_as_spaces help)
unfolding name_of after_name after after_mark cut_at with_front type_text value_text help_text help_begin
parts_read name true (Some help) =
    ap (λ n. line_of n true (Some (line_feeds_as_spaces help))) (append-nil name)
parts_read name true None = ap (λ n. line_of n true None) (append-nil name)
parts_read name false (Some help) =
    ap (λ n. line_of n false (Some (line_feeds_as_spaces help))) (append-nil name)
parts_read name false None = ap (λ n. line_of n false None) (append-nil name)

record_read : (line : Line) → IsWholeName line.name
    → record_of ((line.name ++ type_text line.takes_value) ++ help_text line.help) ≡ line_read line
unfolding record_of
record_read line h =
    let rest : List ℕ = type_text line.takes_value ++ help_text line.help in
    let value : List ℕ → Bool = λ text. is_some (after (codes ": string") text) in
    ap record_of (append_assoc line.name (type_text line.takes_value) (help_text line.help))
    ∙ ap (λ name. line_of name (value (after_name (line.name ++ rest)))
    (after_mark (codes " # ") (line.name ++ rest))) (name_whole line.name rest h)
    ∙ ap (λ text. line_of (line.name ++ name_of rest) (value text)
    (after_mark (codes " # ") (line.name ++ rest))) (name_passed line.name rest h)
    ∙ ap (line_of (line.name ++ name_of rest) (value (after_name rest))) (no_help line.name rest h)
    ∙ parts_read line.name line.takes_value line.help

-- the line of a record
line_sign : (line : Line) → IsWholeName line.name → sign (content line) ≡ holds (line_read line)
unfolding content line_begin sign in_block_sign after
line_sign line h = ap holds (record_read line h)

-- ---- lines

-- the name of a line is read to its end and is on one line; the help text may be any text
pub record IsReadableLine (line : Line) : Type 0 where
  pub whole : IsWholeName line.name
  pub one : IsOneLine line.name

spaced_byte : (byte : ℕ) → (space_for_line_feed byte == line_feed) ≡ false
spaced_byte byte = by_test (byte == line_feed) refl
  where
    by_test : (b : Bool) → (byte == line_feed) ≡ b → (cond b space byte == line_feed) ≡ false
    by_test true e = refl
    by_test false e = e

spaced_one_line : (text : List ℕ) → IsOneLine (line_feeds_as_spaces text)
spaced_one_line [] = tt
spaced_one_line (byte ∷ text) = (spaced_byte byte, spaced_one_line text)

type_one_line : (takes_value : Bool) → IsOneLine (type_text takes_value)
unfolding type_text value_text
type_one_line true = (refl, (refl, (refl, (refl, (refl, (refl, (refl, (refl, tt))))))))
type_one_line false = tt

help_one_line : (help : Option (List ℕ)) → IsOneLine (help_text help)
unfolding help_text help_begin
help_one_line (Some help) = (refl, (refl, (refl, spaced_one_line help)))
help_one_line None = tt

content_one_line : (line : Line) → IsOneLine line.name → IsOneLine (content line)
unfolding content line_begin
content_one_line line h =
    let IsOther : ℕ → Type 0 = λ byte. (byte == line_feed) ≡ false in
    AllByRecursion-append IsOther (codes "    " ++ line.name ++ type_text line.takes_value)
    (help_text line.help)
    (AllByRecursion-append IsOther (codes "    " ++ line.name) (type_text line.takes_value)
    (refl, (refl, (refl, (refl, h)))) (type_one_line line.takes_value))
    (help_one_line line.help)

-- within a block, with the lines so far
abbrev in_lines : List (Table Line) → List ℕ → List Line → List ℕ → Option (List (Table Line))
in_lines blocks key lines script =
    reading (in_block blocks (record { key = key; rows = lines })) script

line_reads : (blocks : List (Table Line)) (key : List ℕ) (lines : List Line) (line : Line)
    (rest : List ℕ) → IsReadableLine line
    → in_lines blocks key lines (line_text line ++ rest)
    ≡ in_lines blocks key (lines ++ line_read line ∷ []) rest
unfolding line_text next
line_reads blocks key lines line rest h =
    let state : State = in_block blocks (record { key = key; rows = lines }) in
    ap (reading state) (append_assoc (content line) (codes "\n") rest)
    ∙ one_line state (content line) rest (content_one_line line h.one)
    ∙ ap (λ s. reading (next state s) rest) (line_sign line h.whole)

-- ---- blocks

-- the key is the text before the end of its line
key_before : (key : List ℕ) → before_ending (codes "\" [") (key ++ codes "\" [") ≡ Some key
unfolding before_ending after
key_before key =
    ap (λ turned. option_map (λ front. reverse front) (after (open_bracket ∷ space ∷ double_quote ∷ []) turned))
    (reverse-append key (codes "\" ["))
    ∙ ap Some (reverse-reverse key)

key_line_sign : (key : List ℕ)
    → sign (codes "  export extern \"" ++ (key ++ codes "\" [")) ≡ opens key
unfolding sign key_sign after
key_line_sign key =
    ap (λ found. elim found as (λ o. Sign) [ Some key ↦ opens key | None ↦ other ]) (key_before key)

key_one_line : (key : List ℕ) → IsOneLine key
    → IsOneLine (codes "  export extern \"" ++ (key ++ codes "\" ["))
key_one_line key h =
    let IsOther : ℕ → Type 0 = λ byte. (byte == line_feed) ≡ false in
    let first : IsOneLine (codes "  export") =
    (refl, (refl, (refl, (refl, (refl, (refl, (refl, (refl, tt)))))))) in
    let second : IsOneLine (codes " extern \"") =
    (refl, (refl, (refl, (refl, (refl, (refl, (refl, (refl, (refl, tt))))))))) in
    AllByRecursion-append IsOther (codes "  export extern \"") (key ++ codes "\" [")
    (AllByRecursion-append IsOther (codes "  export") (codes " extern \"") first second)
    (AllByRecursion-append IsOther key (codes "\" [") h (refl, (refl, (refl, tt))))

-- between two blocks
abbrev in_blocks : List (Table Line) → List ℕ → Option (List (Table Line))
in_blocks blocks script = reading (between blocks) script

-- a key opens the lines of its block
key_reads : (blocks : List (Table Line)) (key rest : List ℕ) → IsOneLine key
    → in_blocks blocks (nushell_frame.key_begin ++ (key ++ (nushell_frame.key_end ++ rest)))
    ≡ in_lines blocks key [] rest
unfolding nushell_frame next
key_reads blocks key rest h =
    let opening : List ℕ = codes "  export extern \"" in
    ap (λ text. in_blocks blocks (opening ++ text)) (sym (append_assoc key (codes "\" [") (line_feed ∷ rest)))
    ∙ one_line (between blocks) (opening ++ (key ++ codes "\" [")) rest (key_one_line key h)
    ∙ ap (λ s. reading (next (between blocks) s) rest) (key_line_sign key)

-- a line that closes a block
end_reads : (blocks : List (Table Line)) (key : List ℕ) (lines : List Line) (rest : List ℕ)
    → in_lines blocks key lines (nushell_frame.table_end ++ rest)
    ≡ in_blocks (blocks ++ record { key = key; rows = lines } ∷ []) rest
unfolding nushell_frame after before_ending sign key_sign in_block_sign next read
end_reads blocks key lines rest = refl

-- no block begins before the blocks
head_reads : (bin rest : List ℕ)
    → in_blocks [] (head_text nushell_frame bin ++ rest) ≡ in_blocks [] rest
unfolding nushell_frame head_text named_text after before_ending sign key_sign in_block_sign next read
head_reads bin rest = refl

-- no block begins after the blocks
tail_reads : (blocks : List (Table Line)) → in_blocks blocks nushell_frame.tail ≡ Some blocks
unfolding nushell_frame after before_ending sign key_sign in_block_sign next closed read
tail_reads blocks = refl

-- a script reads back to its blocks, with a space for each line feed of a help text, if the keys
-- are on one line and the lines are readable
pub nushell_reads_back : (bin : List ℕ) (blocks : List (Table Line))
    → AllByRecursion (IsReadable (λ byte. (byte == line_feed) ≡ false) IsReadableLine) blocks
    → nushell_blocks (script_text nushell_frame line_text bin blocks) ≡ Some (map (table_read line_read) blocks)
unfolding nushell_blocks
nushell_reads_back bin blocks h =
    script_reads nushell_frame line_text line_read (λ byte. (byte == line_feed) ≡ false) IsReadableLine
    (λ rest. ⊤) in_blocks in_lines (λ rest. tt) (λ line rest. tt) (λ rest. tt) tt
    (λ blocks key rest h _. key_reads blocks key rest h)
    (λ blocks key lines line rest h _. line_reads blocks key lines line rest h)
    (λ blocks key lines rest _. end_reads blocks key lines rest) tail_reads
    nushell_blocks bin blocks (λ rest _. head_reads bin rest) h

-- a byte of a plain name differs from a byte that occurs in no plain name
no_line_feed : (byte : ℕ) → name_byte byte ≢ foreign → (byte == line_feed) ≡ false
unfolding name_byte
no_line_feed byte h = name_is_not byte line_feed h refl

no_end : (byte : ℕ) → name_byte byte ≢ foreign → ends_name byte ≡ false
unfolding name_byte
no_end byte h = rw (name_is_not byte colon h refl, name_is_not byte space h refl) refl

-- the line of a plain offer
line_readable : (takes_value : Bool) (offer : Offer) → IsPlainOffer offer
    → IsReadableLine (offer_line takes_value offer)
line_readable takes_value offer h = record {
  whole = AllByRecursion-weaker (λ byte. name_byte byte ≢ foreign)
      (λ byte. ends_name byte ≡ false) no_end (word offer) h.bytes;
  one = AllByRecursion-weaker (λ byte. name_byte byte ≢ foreign)
      (λ byte. (byte == line_feed) ≡ false) no_line_feed (word offer) h.bytes;
}

-- the lines of plain arguments
arguments_readable : (takes_value : Bool) (arguments : List Arg)
    → AllByRecursion IsPlainArgument arguments
    → AllByRecursion IsReadableLine (argument_lines takes_value arguments)
arguments_readable takes_value arguments h =
    AllByRecursion-map IsReadableLine (offer_line takes_value) (flat_map argument_offers arguments)
    (AllByRecursion-weaker IsPlainOffer (λ offer. IsReadableLine (offer_line takes_value offer))
    (line_readable takes_value) (flat_map argument_offers arguments) (arguments_plain arguments h))

-- the lines at a plain node
node_readable : (tree : Tree) → IsPlainBelow tree → AllByRecursion IsReadableLine (node_lines tree)
unfolding node_lines
node_readable tree h =
    let node = plain_node tree.node h.node in
    AllByRecursion-append IsReadableLine (argument_lines true (options tree.node))
    (argument_lines false (flags tree.node))
    (arguments_readable true (options tree.node) node.options)
    (arguments_readable false (flags tree.node) node.flags)

-- the script of a plain tree reads back to its blocks
pub nushell_plain_reads : (tree : Tree) → IsTrue (is_plain_tree tree) → NushellReads tree
unfolding nushell_frame
nushell_plain_reads tree h =
    let bin_name = full_name tree.node in
    reads_tables 32 space_foreign node_lines (λ tree. map line_read (node_lines tree)) line_read
    (λ tree. refl) (λ blocks. nushell_blocks (script_text nushell_frame line_text bin_name blocks)) tree h
    (nushell_reads_back bin_name (path_tables (codes " ") node_lines tree)
    (tables_readable 32 space_foreign node_lines
    (λ byte. (byte == line_feed) ≡ false) IsReadableLine no_line_feed refl node_readable tree h))
