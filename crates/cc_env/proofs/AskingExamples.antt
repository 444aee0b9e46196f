-- The answers to requests that ask for values, and the words that a shell is to run, for some
-- arguments and texts.
use Rattle.std.proofs.Common.{◌≡◌, ℕ, true, false, List, [], ◌∷◌, Some, None, codes, refl}
use Rattle.cc_arg.specs.declared.parts.ArgParts.{ArgParts as Arg}
use Rattle.cc_arg.specs.declared.value_hint.ValueHint.TheVariants.{Username}
use Rattle.cc_arg.specs.Arguments.{new_arg}
use Rattle.cc_command.specs.Made.{new_node}
use Rattle.cc_env.specs.Asking.{step_of, turns_off, typed_words, words_for}
use Rattle.cc_env.specs.RunWords.{words_read, written_words}
use Rattle.cc_env.specs.declared.asking.asked.AnswerStep.TheVariants.{ReadLines, Reply, Run}

-- ---- the step

abbrev branches : Arg
branches = record (new_arg (codes "branch")) {
  values_from = Some (codes "git" ∷ codes "branch" ∷ []);
}

abbrev packages : Arg
packages = record (new_arg (codes "package")) { values_file = Some (codes "~/packages") }

abbrev user : Arg
user = record (new_arg (codes "user")) { value_hint = Username }

-- the same command, which also gets the typed words
abbrev typed : Arg
typed = record branches { values_words = true }

-- `app switch ma`
abbrev line : List (List ℕ)
line = codes "app" ∷ codes "switch" ∷ codes "ma" ∷ []

asked_row : step_of true (Some (codes "ask")) (Some branches) (codes "ma" ∷ [])
    ≡ Run (codes "git" ∷ codes "branch" ∷ [])
asked_row = refl

typed_row : step_of true (Some (codes "ask")) (Some typed) (codes "switch" ∷ codes "ma" ∷ [])
    ≡ Run (codes "git" ∷ codes "branch" ∷ codes "switch" ∷ codes "ma" ∷ [])
typed_row = refl

-- each word is one argument, whatever it is
hostile_row : step_of true (Some (codes "ask")) (Some typed) (codes "$(touch hit); '" ∷ [] ∷ [])
    ≡ Run (codes "git" ∷ codes "branch" ∷ codes "$(touch hit); '" ∷ [] ∷ [])
hostile_row = refl

-- nothing runs if a typed word can't be passed on, unless no typed word is passed
tab_row : step_of true (Some (codes "ask")) (Some typed) (codes "a\u{b}b" ∷ []) ≡ Reply
tab_row = refl

nul_row : step_of true (Some (codes "ask")) (Some typed) (codes "a\0b" ∷ codes "c" ∷ []) ≡ Reply
nul_row = refl

untyped_row : step_of true (Some (codes "ask")) (Some branches) (codes "a\u{b}b" ∷ [])
    ≡ Run (codes "git" ∷ codes "branch" ∷ [])
untyped_row = refl

given_row : step_of true (Some (codes "stdin")) (Some typed) (codes "ma" ∷ []) ≡ ReadLines typed
given_row = refl

later_row : step_of true (Some (codes "later")) (Some typed) (codes "ma" ∷ []) ≡ Reply
later_row = refl

-- commands are off, or the tree is not trusted
forbidden_row : step_of false (Some (codes "ask")) (Some typed) (codes "ma" ∷ []) ≡ Reply
forbidden_row = refl

forbidden_lines_row : step_of false (Some (codes "stdin")) (Some branches) [] ≡ Reply
forbidden_lines_row = refl

-- a file needs no leave
file_row : step_of false (Some (codes "ask")) (Some packages) [] ≡ ReadLines packages
file_row = refl

hint_row : step_of false (Some (codes "stdin")) (Some user) [] ≡ ReadLines user
hint_row = refl

unasked_row : step_of true (Some (codes "ask")) None (codes "ma" ∷ []) ≡ Reply
unasked_row = refl

off_row : turns_off (Some (codes "0")) ≡ true
off_row = refl

on_row : turns_off (Some (codes "1")) ≡ false
on_row = refl

unset_row : turns_off None ≡ false
unset_row = refl

-- the words that run for a word in the middle of the line, and for the last one
middle_row : words_for (Some typed) (typed_words (new_node (codes "app")) line 1)
    ≡ Some (codes "git" ∷ codes "branch" ∷ codes "switch" ∷ [])
middle_row = refl

last_row : words_for (Some typed) (typed_words (new_node (codes "app")) line 2)
    ≡ Some (codes "git" ∷ codes "branch" ∷ codes "switch" ∷ codes "ma" ∷ [])
last_row = refl

-- the line of a command without a name before its words
nameless_row : typed_words (record (new_node (codes "app")) { no_binary_name = true }) line 1
    ≡ codes "app" ∷ codes "switch" ∷ []
nameless_row = refl

command_row : words_for (Some branches) (codes "ma" ∷ [])
    ≡ Some (codes "git" ∷ codes "branch" ∷ [])
command_row = refl

no_command_row : words_for (Some packages) (codes "ma" ∷ []) ≡ None
no_command_row = refl

-- ---- the words

words_row : words_read (codes "git\u{b}\u{b}a b\n\u{b}x") ≡ codes "git" ∷ [] ∷ codes "a b\n" ∷ []
words_row = refl

back_row : words_read (written_words (codes "git" ∷ [] ∷ codes "a b\n" ∷ []))
    ≡ codes "git" ∷ [] ∷ codes "a b\n" ∷ []
back_row = refl
