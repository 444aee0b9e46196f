-- The text that is written for an answer, and the exit status after it.
use Rattle.std.specs.Prelude.{ℕ, List}
use Rattle.cc_env.specs.Answers.{Told, text, text_without_space, words}
use Rattle.cc_env.specs.RunWords.{written_words}

-- the bytes that are written
abbrev pub written_bytes : Told → List ℕ
written_bytes (text made) = made
written_bytes (text_without_space made) = made
written_bytes (words command) = written_words command

-- the exit status: 3 if the shell is to run a command, and 4 if no space follows a value
abbrev pub status_of : Told → ℕ
status_of (text made) = 0
status_of (text_without_space made) = 4
status_of (words command) = 3
