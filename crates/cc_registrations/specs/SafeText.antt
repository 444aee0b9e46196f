-- The safe registrations for bash, zsh and fish, and the reading of their parts.
use Rattle.std.specs.Prelude.{◌≡◌, ℕ, List, ◌++◌, Option, Some, map, option_map, codes}
use Rattle.std.specs.Option.{option_and_then}
use Rattle.cc_base.specs.Found.{after_mark, between, word_after}
use Rattle.cc_base.specs.Joined.{joined}
use Rattle.cc_registrations.specs.Names.{ending_at, identifier, if_identifier, listed_by}
use Rattle.cc_registrations.specs.Quoted.{quoted}
use Rattle.cc_registrations.specs.declared.safe_text.SafeFrame.{SafeFrame}

-- ---- the text

-- the first line, which names the programs
unfoldable pub names_line : SafeFrame → List ℕ → List (List ℕ) → List ℕ
names_line frame name bins =
    frame.names_begin ++ identifier name ++ frame.names_follow
    ++ joined frame.names_between (map (quoted frame.quoting) bins) ++ codes "\n"

-- the function up to the completer
unfoldable pub function_front : SafeFrame → List ℕ → List ℕ → List ℕ
function_front frame variable name =
    frame.function_begins ++ identifier name ++ frame.function_head ++ identifier variable
    ++ frame.call_begins

-- the function
unfoldable pub function_text : SafeFrame → List ℕ → List ℕ → List ℕ → List ℕ
function_text frame variable name completer =
    function_front frame variable name ++ quoted frame.quoting completer ++ frame.call_ends

-- the registration
unfoldable pub safe_text : SafeFrame → List ℕ → List ℕ → List (List ℕ) → List ℕ → List ℕ
safe_text frame variable name bins completer =
    names_line frame name bins ++ function_text frame variable name completer

-- ---- how it is read

-- the marks between which a shell's reader finds the parts
pub record SafeMarks : Type 0 where
  -- before the name and after it
  pub name_begins : List ℕ
  pub name_ends : List ℕ
  -- before the programs, and between two of them
  pub names_begin : List ℕ
  pub names_between : List ℕ
  -- before the variable and after it
  pub variable_begins : List ℕ
  pub variable_ends : List ℕ
  -- before the completer
  pub completer_begins : List ℕ
  -- the word with which a text begins, and the rest
  pub word_of : List ℕ → Option (List ℕ × List ℕ)

-- the name, which is an identifier and part of the function's name
unfoldable pub safe_name : SafeMarks → List ℕ → Option (List ℕ)
safe_name marks text =
    option_and_then if_identifier (between marks.name_begins marks.name_ends text)

-- the programs, which are the last words of the first line, and the text after that line
unfoldable pub safe_names : SafeMarks → List ℕ → Option (List (List ℕ) × List ℕ)
safe_names marks text =
    option_and_then (ending_at (codes "\n")) (option_and_then (listed_by marks.word_of marks.names_between)
    (option_and_then (after_mark marks.names_begin) (after_mark marks.name_begins text)))

-- the programs
unfoldable pub safe_binaries : SafeMarks → List ℕ → Option (List (List ℕ))
safe_binaries marks text = option_map (λ listed. listed.0) (safe_names marks text)

-- the function, which follows that line
unfoldable pub safe_function : SafeMarks → List ℕ → Option (List ℕ)
safe_function marks text = option_map (λ listed. listed.1) (safe_names marks text)

-- the variable, which is an identifier
unfoldable pub safe_variable : SafeMarks → List ℕ → Option (List ℕ)
safe_variable marks text =
    option_and_then if_identifier
    (option_and_then (between marks.variable_begins marks.variable_ends) (safe_function marks text))

-- the completer
unfoldable pub safe_completer : SafeMarks → List ℕ → Option (List ℕ)
safe_completer marks text =
    option_and_then (word_after marks.word_of marks.completer_begins) (safe_function marks text)

-- The registration reads back: the variable and the name as identifiers, the programs and the
-- completer unchanged. This holds for any of them.
pub record ReadsSafely (marks : SafeMarks) (text variable name : List ℕ) (bins : List (List ℕ))
    (completer : List ℕ) : Type 0 where
  pub variable_read : safe_variable marks text ≡ Some (identifier variable)
  pub name_read : safe_name marks text ≡ Some (identifier name)
  pub completer_read : safe_completer marks text ≡ Some completer
  pub binaries_read : safe_binaries marks text ≡ Some bins
