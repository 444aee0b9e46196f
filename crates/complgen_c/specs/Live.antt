-- The outcomes of a live request.
use Rattle.std.specs.Prelude.{◌≡◌, ◌≢◌, ℕ, true, List, Option, None, Some, Result, Ok, Err, codes}
use Rattle.cc_env.specs.Answers.{Told}
use Rattle.cc_env.specs.Answers as told
use Rattle.cc_env.specs.WithLines.{passed_lines}
use Rattle.cc_env.specs.RunWords.{written_words}
use Rattle.cc_base.specs.declared.error.Error.TheVariants.{Memory}
use Rattle.cc_engine.specs.Paths.{PathsOf}
use Rattle.cc_candidates.specs.Folders.{FolderFacts}
use Rattle.cc_replies.specs.Environment.{value_of}
use Rattle.cc_replies.specs.declared.environment.EnvValues.{EnvValues}
use Rattle.complgen_scripts.specs.Refusals.{IsOutOfMemory, IsRefusal, Reports}
use Rattle.complgen_scripts.specs.declared.refusals.Refusal.{Refusal}
use Rattle.complgen_live.specs.Answers.{AnswersRequest, Parts}
use Rattle.complgen_live.specs.declared.reply_errors.ReplyError.{ReplyError}
use Rattle.complgen_live.specs.declared.reply_errors.ReplyError.TheVariants.{Library, Tree}
use Rattle.complgen_c.specs.Listings.{Listing, facts_of, handed}
use Rattle.complgen_c.specs.Requests.{AreUtf8, HoldsVariables, NotUtf8Texts}
use Rattle.complgen_c.specs.declared.live.PassedRequest.{PassedRequest}
use Rattle.complgen_c.specs.declared.outcome.Outcome.{Outcome}
use Rattle.complgen_c.specs.declared.outcome.Outcome.TheVariants.{Failed, Made, MadeWithoutSpace, NotRequested, NotUtf8, Run, WantsFolder}

-- the variable with the user's home directory
abbrev pub home_name : List ℕ
home_name = codes "HOME"

-- the directory where relative paths begin
abbrev pub current_dir : EnvValues → Option (List ℕ)
current_dir env = value_of (codes "PWD") env

-- the line for a tree file that describes no command
abbrev pub no_command_line : List ℕ
no_command_line = codes "tree: describes no command\n"

-- the refusal for an error of the answer
abbrev pub ReportsReply : ReplyError → Refusal → Type 0
ReportsReply (Tree problem) refusal = IsRefusal no_command_line refusal
ReportsReply (Library error) refusal = Reports error refusal

-- The outcome after the words of a command. They are the text, each followed by a vertical tab, if
-- there is memory for it.
abbrev pub RunsWords : List (List ℕ) → Outcome → Type 0
RunsWords command (Run text) = text ≡ written_words command
RunsWords command (Failed refusal) = IsOutOfMemory refusal
RunsWords command _ = ⊥

-- the outcome after an answer
abbrev pub Tells : Told → Outcome → Type 0
Tells (told.text made) outcome = outcome ≡ Made made
Tells (told.text_without_space made) outcome = outcome ≡ MadeWithoutSpace made
Tells (told.words command) outcome = RunsWords command outcome

-- The outcomes of the call, by the path of the directory that the caller passed and by the answer.
-- The text is made, a command is to run, nothing is requested, or a message explains why there is
-- no text. Only after the error `Memory`, the call may request another directory instead. No clause
-- can state which one.
abbrev pub EndsBy : List ℕ → Result (Option Told) ReplyError → Outcome → Type 0
EndsBy listed (Ok (Some answer)) outcome = Tells answer outcome
EndsBy listed (Ok None) outcome = outcome ≡ NotRequested
EndsBy listed (Err error) (Failed refusal) = ReportsReply error refusal
EndsBy listed (Err (Library Memory)) (WantsFolder path) = path ≢ listed
EndsBy listed (Err error) _ = ⊥

-- What the answer depends on, for a tree file, words, variables, facts about paths, and the
-- directory where relative paths begin. The tree is the program's own, so its commands may be run.
abbrev pub parts_over : List ℕ → List (List ℕ) → EnvValues → FolderFacts → Option (List ℕ) → Parts
parts_over tree words env facts current = record {
  env = env;
  words = words;
  trusted = true;
  file = Some tree;
  current = current;
  Finds = PathsOf facts current;
}

-- The outcome after an answer that `complgen` may give, over these facts about paths. An argument
-- whose values come from a command has the output as its lines, and other arguments have none.
pub record AnswersOver (tree : List ℕ) (words : List (List ℕ)) (env : EnvValues)
    (output : List ℕ) (facts : FolderFacts) (listed : List ℕ) (outcome : Outcome) : Type 0 where
  pub answer : Result (Option Told) ReplyError
  pub answers : AnswersRequest (parts_over tree words env facts (current_dir env))
      (λ asked lines. lines ≡ passed_lines output asked) answer
  pub ends : EndsBy listed answer outcome

-- the outcomes of the call, for a tree file, words, variables, the output of a command, and a
-- listing
pub data MakesReply (tree : List ℕ) (words variables : List (List ℕ)) (output : List ℕ)
    (listing : Listing) : Outcome → Type 0 where
  -- a word, a variable or a name is not UTF-8
  not_utf8 : NotUtf8Texts words variables listing.names
      → MakesReply tree words variables output listing NotUtf8
  -- out of memory before there is a request
  out_of_memory : (refusal : Refusal) → IsOutOfMemory refusal
      → MakesReply tree words variables output listing (Failed refusal)
  -- all of these are UTF-8: the answer, over the directory that the caller passed and no other
  answered : (env : EnvValues) (outcome : Outcome) → AreUtf8 words variables listing.names
      → HoldsVariables variables env
      → AnswersOver tree words env output (facts_of listing (value_of home_name env)) listing.path
      outcome
      → MakesReply tree words variables output listing outcome

-- the same for what the caller passes
abbrev pub RepliesTo : PassedRequest → Outcome → Type 0
RepliesTo passed =
    MakesReply passed.tree.now (handed passed.words.now) (handed passed.variables.now)
    passed.output.now (record {
      path = passed.listed.now;
      names = handed passed.names.now;
      folders = handed passed.folders.now;
      files = handed passed.files.now;
    })
