-- The outcomes of carrying out a plan.
use Rattle.std.specs.Prelude.{⊤, ◌≡◌, ℕ, List, Option, None, Some, Result, Ok, Err, map, option_map, string_bytes}
use Rattle.cc_base.specs.declared.failures.Failures.{Failures}
use Rattle.cc_shell.specs.declared.shell.Shell.{Shell}
use Rattle.complgen_check.specs.Checking.{AreSound}
use Rattle.complgen_scripts.specs.AllScripts.{EndsScripts}
use Rattle.complgen_plans.specs.GivenReplies.{EndsReplyWith}
use Rattle.complgen_scripts.specs.Refusals.{IsMade, values_unreadable_at}
use Rattle.complgen_plans.specs.Registrations.{EndsRegistration}
use Rattle.complgen_plans.specs.Replies.{EndsReply, Paths}
use Rattle.complgen_scripts.specs.ScriptEnds.{EndsScript, NamedScriptReads}
use Rattle.complgen_scripts.specs.Scripts.{ScriptReads}
use Rattle.complgen_plans.specs.Wanted.{EndsWanted}
use Rattle.complgen_scripts.specs.Writing.{Untouched}
use Rattle.complgen_scripts.specs.declared.plans.Plan.{Plan}
use Rattle.complgen_scripts.specs.declared.plans.Plan.TheVariants.{Candidates, CandidatesWith}
use Rattle.complgen_scripts.specs.declared.plans.Plan.TheVariants.{Check, Man, Register, Script}
use Rattle.complgen_scripts.specs.declared.plans.Plan.TheVariants.{Scripts, Wanted}
use Rattle.complgen_scripts.specs.declared.refusals.Refusal.{Refusal}
use Rattle.complgen_plans.specs.Checks.{EndsFindings}
use Rattle.complgen_plans.specs.Pages.{EndsPage}

-- these outcomes, with the exit status 0 on success
abbrev pub Succeeds : (Result (Unit {0}) Refusal → Type 0) → Result ℕ Refusal → Type 0
Succeeds EndsBy (Ok status) = (status ≡ 0) × EndsBy (Ok tt)
Succeeds EndsBy (Err refusal) = EndsBy (Err refusal)

-- the outcomes of writing candidates with the lines of the file at a path as values, for the bytes
-- of that file; the file is named if it can't be read
abbrev pub EndsValues : {S : Type 0} → (S → List ℕ) → (S → Failures) → Paths → List ℕ
    → List (List ℕ) → ℕ → Option (List ℕ) → S → S → Option (List ℕ) → Result (Unit {0}) Refusal
    → Type 0
EndsValues taken failed Finds path words index file old new None (Ok done) = ⊥
EndsValues taken failed Finds path words index file old new None (Err refusal) =
    IsMade (values_unreadable_at path) refusal × Untouched taken failed old new
EndsValues taken failed Finds path words index file old new (Some lines) result =
    EndsReplyWith taken failed Finds lines words index file old new result

-- The outcomes of a plan if these paths may be found, for the bytes of its tree file and of its file
-- with values.
abbrev pub Ends : {S : Type 0} → (S → List ℕ) → (S → Failures) → Paths → Plan → Option (List ℕ)
    → Option (List ℕ) → S → S → Result ℕ Refusal → Type 0
Ends taken failed Finds (Script shell bin tree) file values old new result = Succeeds
    (EndsScript taken failed (string_bytes shell) (string_bytes bin) file old new) result
Ends taken failed Finds (Register shell bin tree) file values old new result = Succeeds
    (EndsRegistration taken failed (string_bytes shell) (string_bytes bin) file old new) result
Ends taken failed Finds (Candidates index tree words) file values old new result = Succeeds
    (EndsReply taken failed Finds (map string_bytes words.items) index file old new) result
Ends taken failed Finds (CandidatesWith path index tree words) file values old new result = Succeeds
    (EndsValues taken failed Finds (string_bytes path) (map string_bytes words.items) index file old
    new values) result
Ends taken failed Finds (Wanted index tree words) file values old new result = Succeeds
    (EndsWanted taken failed (map string_bytes words.items) index file old new) result
Ends taken failed Finds (Check bin json tree) file values old new result =
    EndsFindings taken failed (option_map string_bytes bin) json (string_bytes tree) old new file
    result
Ends taken failed Finds (Man bin tree) file values old new result = Succeeds
    (EndsPage taken failed (string_bytes bin) (string_bytes tree) old new file) result
Ends taken failed Finds (Scripts bin out_dir tree) file values old new result = Succeeds
    (EndsScripts taken failed (string_bytes bin) (string_bytes out_dir) (string_bytes tree) old new
    file) result

-- The script, or each of the scripts, reads back. If `check` ends with the status 0, each premise of
-- the promises about scripts holds. For the other plans, the outcomes above include that the text
-- reads back.
abbrev pub ReadsBack : Plan → Option (List ℕ) → ℕ → Type 0
ReadsBack (Script shell bin tree) file status =
    NamedScriptReads (string_bytes shell) (string_bytes bin) file
ReadsBack (Scripts bin out_dir tree) file status =
    (shell : Shell) → ScriptReads shell (string_bytes bin) file
ReadsBack (Check bin json tree) file status =
    status ≡ 0 → AreSound (option_map string_bytes bin) file
ReadsBack _ file status = ⊤
