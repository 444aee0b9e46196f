-- The words of the command that lists the values for a word, as JSON.
use Rattle.std.specs.Prelude.{⊤, ◌≡◌, ◌++◌, ℕ, false, true, List, [], ◌∷◌, None, Option, Some, Result, length, map}
use Rattle.json.specs.Lex.{tokens}
use Rattle.json.specs.Print.{print}
use Rattle.json.specs.Token.{Token}
use Rattle.cc_env.specs.Asking.{Wants}
use Rattle.cc_base.specs.Bytes.{line_feed}
use Rattle.cc_base.specs.declared.failures.Failures.{Failures}
use Rattle.cc_command.specs.Built.{built_tree}
use Rattle.cc_command.specs.Tree.{Tree}
use Rattle.cc_engine.specs.Completion.{is_in_range}
use Rattle.complgen_plans.specs.Replies.{IsOutOfRange}
use Rattle.complgen_scripts.specs.Writing.{Finishes}
use Rattle.complgen_scripts.specs.declared.refusals.Refusal.{Refusal}

-- the tokens of texts, and of an array of them
abbrev pub text_tokens : List (List ℕ) → List Token
text_tokens texts = map Token.string texts

unfoldable pub array_tokens : List (List ℕ) → List Token
array_tokens texts = (Token.begin_array ∷ [] ++ text_tokens texts) ++ Token.end_array ∷ []

-- a JSON array of texts, without spaces
abbrev pub array_text : List (List ℕ) → List ℕ
array_text texts = print (array_tokens texts)

-- the array as a line
abbrev pub array_line : List (List ℕ) → List ℕ
array_line texts = array_text texts ++ line_feed ∷ []

-- what is written of a command; nothing if there is none
abbrev pub wanted_text : Option (List (List ℕ)) → List ℕ
wanted_text None = []
wanted_text (Some words) = array_line words

-- a JSON reader gets the words back
abbrev pub WordsRead : Option (List (List ℕ)) → Type 0
WordsRead None = ⊤
WordsRead (Some words) = tokens (array_text words) ≡ array_tokens words

-- the text has the words of the command that lists the values for the word at the index
pub record IsWanted (words : List (List ℕ)) (index : ℕ) (tree : Tree) (text : List ℕ)
    : Type 0 where
  pub in_range : is_in_range (built_tree tree).node (length words) index ≡ true
  pub command : Option (List (List ℕ))
  pub wants : Wants (built_tree tree) words index command
  pub is : text ≡ wanted_text command
  pub read_back : WordsRead command

-- the outcomes of writing these words
abbrev pub EndsWanted : {S : Type 0} → (S → List ℕ) → (S → Failures) → List (List ℕ) → ℕ
    → Option (List ℕ) → S → S → Result (Unit {0}) Refusal → Type 0
EndsWanted taken failed words index file old new result = Finishes taken failed false
    (IsOutOfRange (length words) index) (IsWanted words index) old new file result
