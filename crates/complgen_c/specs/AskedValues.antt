-- The outcomes of telling for which values the last word of a command line is asked.
use Rattle.std.specs.Prelude.{◌≡◌, ◌++◌, ◌-◌, ℕ, List, [], ◌∷◌, Some, Ok, Err, decimal, length}
use Rattle.std.specs.List.{All, flat_map}
use Rattle.std.specs.Str.{IsUtf8}
use Rattle.cc_base.specs.declared.error.Error.{Error}
use Rattle.cc_command.specs.Built.{built_tree}
use Rattle.cc_command.specs.Tree.{Tree}
use Rattle.cc_engine.specs.Asked.{AsksValues}
use Rattle.cc_engine.specs.Completion.{Refuses}
use Rattle.cc_engine.specs.declared.questions.AskedValue.{AskedValue}
use Rattle.complgen_scripts.specs.Refusals.{IsOutOfMemory, Reports}
use Rattle.complgen_scripts.specs.TreeFiles.{ReadsFile}
use Rattle.complgen_scripts.specs.declared.refusals.Refusal.{Refusal}
use Rattle.complgen_c.specs.declared.outcome.Outcome.{Outcome}
use Rattle.complgen_c.specs.declared.outcome.Outcome.TheVariants.{Failed, Made, NotUtf8}

-- the byte that ends each part of a value
abbrev pub nul : List ℕ
nul = 0 ∷ []

-- a value as it is written: the id of its argument, its number and its text
abbrev pub written_value : AskedValue → List ℕ
written_value value =
    (value.id ++ nul) ++ ((decimal value.number ++ nul) ++ (value.text ++ nul))

-- these values are written, if there is memory for their text
abbrev pub TellsValues : List AskedValue → Outcome → Type 0
TellsValues values (Made text) = text ≡ flat_map written_value values
TellsValues values (Failed refusal) = IsOutOfMemory refusal
TellsValues values _ = ⊥

-- the outcomes for a command, which is built, and the words of a command line
pub data TellsAsked (root : Tree) (words : List (List ℕ)) : Outcome → Type 0 where
  -- the values for which the last word is asked
  values : (found : List AskedValue) (outcome : Outcome)
      → AsksValues (built_tree root) words (length words - 1) found → TellsValues found outcome
      → TellsAsked root words outcome
  -- there is no word to complete, or out of memory
  refused : (built : Tree) (error : Error) (refusal : Refusal)
      → Refuses root built (length words) (length words - 1) error → Reports error refusal
      → TellsAsked root words (Failed refusal)

-- the outcomes of the call, for a tree file and the words of a command line
pub data MakesAsked (tree : List ℕ) (words : List (List ℕ)) : Outcome → Type 0 where
  -- a word is not UTF-8
  not_utf8 : (All IsUtf8 words → ⊥) → MakesAsked tree words NotUtf8
  -- out of memory before the tree file is read
  out_of_memory : (refusal : Refusal) → IsOutOfMemory refusal
      → MakesAsked tree words (Failed refusal)
  -- the tree file describes no command
  no_tree : (refusal : Refusal) → ReadsFile (Some tree) (Err refusal)
      → MakesAsked tree words (Failed refusal)
  -- the values for the command that it describes
  told : (root : Tree) (outcome : Outcome) → All IsUtf8 words → ReadsFile (Some tree) (Ok root)
      → TellsAsked root words outcome → MakesAsked tree words outcome
