-- The replies of safe adapters, and that they read back.
use Rattle.std.proofs.Common.{◌≡◌, ◌∙◌, ℕ, List, Bool, true, false, Result, ap, ap₂, subst, sym}
use Rattle.cc_env.specs.Builtins.{builtin_spec}
use Rattle.cc_env.specs.Replies.{Replies}
use Rattle.cc_env.specs.SafeShells.{ReplyReadsWhen, SafeReplyReads, reply_when, safe_reply, wanted_when}
use Rattle.cc_env.specs.WantedWords.{WantsAtLast, WantsThese}
use Rattle.cc_env.proofs.Replying.{replied_named}
use Rattle.cc_env.specs.declared.builtin.Builtin.{Builtin}
use Rattle.cc_env.specs.declared.builtin.Builtin.TheVariants.{Bash, Elvish, Fish}
use Rattle.cc_env.specs.declared.builtin.Builtin.TheVariants.{Powershell, Zsh}
use Rattle.cc_base.specs.declared.error.Error.{Error}
use Rattle.cc_base.specs.declared.failures.Failures.{Failures}
use Rattle.cc_command.specs.Tree.{Tree}
use Rattle.cc_candidates.specs.declared.candidate.CompletionCandidate.{CompletionCandidate}
use Rattle.cc_replies.proofs.EntryReadings.{entries_back}
use Rattle.cc_replies.proofs.ReplyReadings.{lines_back, values_back, zsh_back}
use Rattle.cc_replies.proofs.ListReadings.{list_read_back}
use Rattle.cc_replies.proofs.PowershellReadings as powershell
use Rattle.cc_replies.proofs.SafeReadings.{lines_read_back, values_read_back, zsh_read_back}
use Rattle.cc_replies.specs.BashWords.{is_double}
use Rattle.cc_replies.specs.Environment.{asks_safely, cursor_of, separator_of}
use Rattle.cc_replies.specs.declared.cursor.Cursor.{Cursor}
use Rattle.cc_replies.specs.declared.environment.EnvValues.{EnvValues}

-- those of a safe registration's request
safe_back : (shell : Builtin) (cursor : Cursor) (found : List CompletionCandidate)
    → SafeReplyReads shell cursor found
safe_back Bash cursor found = list_read_back cursor found
safe_back Elvish cursor found = values_read_back found
safe_back Fish cursor found = lines_read_back found
safe_back Powershell cursor found = powershell.words_read_back (is_double cursor.quote) found
safe_back Zsh cursor found = zsh_read_back cursor.ascii_only found

-- those of another request
builtin_back : (shell : Builtin) (env : EnvValues) (found : List CompletionCandidate)
    → (builtin_spec shell).ReplyReads env found
builtin_back Bash env found = values_back (separator_of env) found
builtin_back Elvish env found = values_back (separator_of env) found
builtin_back Fish env found = lines_back found
builtin_back Powershell env found = (lines_back found, entries_back found)
builtin_back Zsh env found = zsh_back (separator_of env) found

pub back_when : (safe : Bool) (shell : Builtin) (env : EnvValues)
    (found : List CompletionCandidate) → ReplyReadsWhen safe shell env found
back_when true shell env found = safe_back shell (cursor_of env) found
back_when false shell env found = builtin_back shell env found

-- a reply to a safe registration's request, by the choice of an adapter
pub replied_safely : {S : Type 0} (taken : S → List ℕ) (failed : S → Failures)
    (before after : Tree) (Offers : List (List ℕ) → ℕ → List CompletionCandidate → Type 0)
    (result : Result (Unit {0}) Error) (old new : S) (shell other : Builtin) (cursor : Cursor)
    (env : EnvValues) (words wanted : List (List ℕ)) (number : ℕ) → asks_safely env ≡ true
    → other ≡ shell → cursor ≡ cursor_of env → WantsAtLast words wanted number
    → Replies taken failed result old new before after (WantsThese wanted number) Offers
    (λ found. safe_reply other cursor found)
    → Replies taken failed result old new before after
    (λ asked index. wanted_when (asks_safely env) shell env words asked index) Offers
    (λ found. reply_when (asks_safely env) shell env found)
replied_safely taken failed before after Offers result old new shell other cursor env words wanted
    number safe same line last r =
    replied_named taken failed before after
    (λ asked index. wanted_when (asks_safely env) shell env words asked index) Offers result old new
    wanted number (λ found. safe_reply other cursor found)
    (λ found. reply_when (asks_safely env) shell env found)
    (ap₂ (λ shell cursor. λ found. safe_reply shell cursor found) same line
    ∙ sym (ap (λ safe. λ found. reply_when safe shell env found) safe))
    (subst (λ safe. wanted_when safe shell env words wanted number) (sym safe) last) r
