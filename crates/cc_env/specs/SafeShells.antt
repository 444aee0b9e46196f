-- The safe adapters: their registrations evaluate nothing of a name, a candidate or a typed word,
-- and their replies are inserted as what they mean.
use Rattle.std.specs.Prelude.{ℕ, Bool, true, false, List, [], ◌∷◌, map}
use Rattle.cc_env.specs.Builtins.{CompleterSpec, all_builtins, builtin_spec}
use Rattle.cc_env.specs.WantedWords.{WantsAtLast}
use Rattle.cc_env.specs.declared.builtin.Builtin.{Builtin}
use Rattle.cc_env.specs.declared.builtin.Builtin.TheVariants.{Bash, Elvish, Fish}
use Rattle.cc_env.specs.declared.builtin.Builtin.TheVariants.{Powershell, Zsh}
use Rattle.cc_env.specs.declared.safe_shell.SafeShell.{SafeShell}
use Rattle.cc_candidates.specs.declared.candidate.CompletionCandidate.{CompletionCandidate}
use Rattle.cc_registrations.specs.SafeBash.{SafeBashReads, safe_bash}
use Rattle.cc_registrations.specs.SafeElvish.{SafeElvishReads, safe_elvish}
use Rattle.cc_registrations.specs.SafeFish.{SafeFishReads, safe_fish}
use Rattle.cc_registrations.specs.SafePowershell.{SafePowershellReads, safe_powershell}
use Rattle.cc_registrations.specs.SafeZsh.{SafeZshReads, safe_zsh}
use Rattle.cc_replies.specs.BashList.{BashListRead, bash_list_reply}
use Rattle.cc_replies.specs.BashWords.{is_double}
use Rattle.cc_replies.specs.Environment.{asks_safely, cursor_of}
use Rattle.cc_replies.specs.PowershellWords.{PowershellWordsRead, powershell_words_reply}
use Rattle.cc_replies.specs.SafeReplies.{SafeLinesRead, SafeValuesRead, SafeZshRead}
use Rattle.cc_replies.specs.SafeReplies.{safe_lines_reply, safe_values_reply, safe_zsh_reply}
use Rattle.cc_replies.specs.declared.cursor.Cursor.{Cursor}
use Rattle.cc_replies.specs.declared.environment.EnvValues.{EnvValues}

-- the safe adapter for a shell
abbrev pub safe_of : Builtin → SafeShell
safe_of shell = record { shell = shell }

-- all of them, in the order of the built-in ones
abbrev pub all_safe : List SafeShell
all_safe = map safe_of all_builtins

-- ---- registrations

-- the registration of several programs, of a variable, a name, binaries and a completer
abbrev pub safe_registration : Builtin → List ℕ → List ℕ → List (List ℕ) → List ℕ → List ℕ
safe_registration Bash variable name bins completer = safe_bash variable name bins completer
safe_registration Elvish variable name bins completer = safe_elvish variable name bins completer
safe_registration Fish variable name bins completer = safe_fish variable name bins completer
safe_registration Powershell variable name bins completer =
    safe_powershell variable name bins completer
safe_registration Zsh variable name bins completer = safe_zsh variable name bins completer

-- its reading
abbrev pub SafeReads : Builtin → List ℕ → List ℕ → List (List ℕ) → List ℕ → Type 0
SafeReads Bash variable name bins completer = SafeBashReads variable name bins completer
SafeReads Elvish variable name bins completer = SafeElvishReads variable name bins completer
SafeReads Fish variable name bins completer = SafeFishReads variable name bins completer
SafeReads Powershell variable name bins completer = SafePowershellReads variable name bins completer
SafeReads Zsh variable name bins completer = SafeZshReads variable name bins completer

-- ---- replies

-- the reply of some candidates, by the shell's line
abbrev pub safe_reply : Builtin → Cursor → List CompletionCandidate → List ℕ
safe_reply Bash cursor found = bash_list_reply cursor found
safe_reply Elvish cursor found = safe_values_reply found
safe_reply Fish cursor found = safe_lines_reply found
safe_reply Powershell cursor found = powershell_words_reply (is_double cursor.quote) found
safe_reply Zsh cursor found = safe_zsh_reply cursor.ascii_only found

-- its reading
abbrev pub SafeReplyReads : Builtin → Cursor → List CompletionCandidate → Type 0
SafeReplyReads Bash cursor found = BashListRead cursor found
SafeReplyReads Elvish cursor found = SafeValuesRead found
SafeReplyReads Fish cursor found = SafeLinesRead found
SafeReplyReads Powershell cursor found = PowershellWordsRead (is_double cursor.quote) found
SafeReplyReads Zsh cursor found = SafeZshRead cursor.ascii_only found

-- ---- requests

-- The words and the index to complete: the last word, if a safe registration asks; otherwise those
-- of the built-in adapter, because its registration asks.
abbrev pub wanted_when : Bool → Builtin → EnvValues → List (List ℕ) → List (List ℕ) → ℕ → Type 0
wanted_when true shell env words wanted index = WantsAtLast words wanted index
wanted_when false shell env words wanted index = (builtin_spec shell).Wants env words wanted index

-- the reply, by the same choice
abbrev pub reply_when : Bool → Builtin → EnvValues → List CompletionCandidate → List ℕ
reply_when true shell env found = safe_reply shell (cursor_of env) found
reply_when false shell env found = (builtin_spec shell).reply env found

-- the reading of the reply, by the same choice
abbrev pub ReplyReadsWhen : Bool → Builtin → EnvValues → List CompletionCandidate → Type 0
ReplyReadsWhen true shell env found = SafeReplyReads shell (cursor_of env) found
ReplyReadsWhen false shell env found = (builtin_spec shell).ReplyReads env found

-- the specification of a safe adapter
abbrev pub safe_spec : SafeShell → CompleterSpec
safe_spec safe = record {
  name = (builtin_spec safe.shell).name;
  named = λ name. (builtin_spec safe.shell).named name;
  registration = λ variable name bin completer.
      safe_registration safe.shell variable name (bin ∷ []) completer;
  Reads = λ variable name bin completer. SafeReads safe.shell variable name (bin ∷ []) completer;
  Wants = λ env words wanted index. wanted_when (asks_safely env) safe.shell env words wanted index;
  reply = λ env found. reply_when (asks_safely env) safe.shell env found;
  ReplyReads = λ env found. ReplyReadsWhen (asks_safely env) safe.shell env found;
}
