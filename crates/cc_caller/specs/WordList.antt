-- The script of a generator outside the library, and what it reads back to: a line for each long of
-- a command.
use Rattle.std.specs.Prelude.{◌≡◌, ℕ, ◌==◌, if◌then◌else◌, List, [], ◌∷◌, ◌++◌, None, codes, false}
use Rattle.std.specs.Prelude.{flat_map, map}
use Rattle.std.specs.List.{AllByRecursion}
use Rattle.clap_complete.specs.cc_generator.ArgumentNames.{all_longs, long_word}
use Rattle.clap_complete.specs.cc_generator.Generators.{ShellSpec}
use Rattle.clap_complete.specs.cc_command.Tree.{Tree}

-- a long as it is typed, and a line feed
abbrev pub line : List ℕ → List ℕ
line long = long_word long ++ codes "\n"

-- a line for each long of the command's own arguments
abbrev pub word_list : Tree → List ℕ
word_list tree = flat_map line (all_longs tree.node.arguments)

-- one byte more at the beginning of the first line, if there is a whole line
abbrev pub with_byte : ℕ → List (List ℕ) → List (List ℕ)
with_byte byte [] = []
with_byte byte (first ∷ lines) = (byte ∷ first) ∷ lines

-- the lines of a text, each cut before its line feed
abbrev pub lines_of : List ℕ → List (List ℕ)
lines_of [] = []
lines_of (byte ∷ bytes) =
    if byte == 10 then [] ∷ lines_of bytes else with_byte byte (lines_of bytes)

-- no byte is a line feed
abbrev pub IsOneLine : List ℕ → Type 0
IsOneLine text = AllByRecursion (λ byte. (byte == 10) ≡ false) text

-- the lines of the script are the longs as they are typed
abbrev pub ListsLongs : Tree → Type 0
ListsLongs tree = lines_of (word_list tree) ≡ map long_word (all_longs tree.node.arguments)

-- the specification of the generator
abbrev pub word_list_spec : ShellSpec
word_list_spec = record {
  script = λ tree. word_list tree;
  Reads = λ tree. ListsLongs tree;
  clash = λ tree. None;
  file = λ name. name ++ codes ".words";
}
