-- The adapters of this library as one type: each does what the adapter of its name does.
use Rattle.std.specs.Prelude.{ℕ, Bool, List, [], ◌∷◌, codes}
use Rattle.std.specs.Str.{bytes_eq}
use Rattle.cc_env.specs.WantedWords.{WantsAtIndex, WantsAtLast, WantsAtNext}
use Rattle.cc_env.specs.ShellNames.{is_powershell}
use Rattle.cc_env.specs.declared.builtin.Builtin.{Builtin}
use Rattle.cc_env.specs.declared.builtin.Builtin.TheVariants.{Bash, Elvish, Fish}
use Rattle.cc_env.specs.declared.builtin.Builtin.TheVariants.{Powershell, Zsh}
use Rattle.cc_candidates.specs.declared.candidate.CompletionCandidate.{CompletionCandidate}
use Rattle.cc_replies.specs.Environment.{separator_of}
use Rattle.cc_replies.specs.PowershellEntries.{EntriesRead}
use Rattle.cc_replies.specs.Reply.{LinesRead, ValuesRead, ZshReplyRead}
use Rattle.cc_replies.specs.Reply.{lines_reply, values_reply, zsh_reply}
use Rattle.cc_replies.specs.declared.environment.EnvValues.{EnvValues}
use Rattle.cc_registrations.specs.BashRegistration.{BashReads, bash_registration}
use Rattle.cc_registrations.specs.ElvishRegistration.{ElvishReads, elvish_registration}
use Rattle.cc_registrations.specs.FishRegistration.{FishReads, fish_registration}
use Rattle.cc_registrations.specs.PowershellRegistration.{PowershellReads, powershell_registration}
use Rattle.cc_registrations.specs.ZshRegistration.{ZshReads, zsh_registration}

-- all of them, in the order of the type
abbrev pub all_builtins : List Builtin
all_builtins = Bash ∷ Elvish ∷ Fish ∷ Powershell ∷ Zsh ∷ []

-- the specification of an adapter
pub record CompleterSpec : Type 1 where
  -- its name
  pub name : List ℕ
  -- whether it has a name
  pub named : List ℕ → Bool
  -- the registration of a variable, a name, a binary and a completer
  pub registration : List ℕ → List ℕ → List ℕ → List ℕ → List ℕ
  -- its reading
  pub Reads : List ℕ → List ℕ → List ℕ → List ℕ → Type 0
  -- the words of the command line, and the index of the one to complete
  pub Wants : EnvValues → List (List ℕ) → List (List ℕ) → ℕ → Type 0
  -- the reply of some candidates
  pub reply : EnvValues → List CompletionCandidate → List ℕ
  -- its reading
  pub ReplyReads : EnvValues → List CompletionCandidate → Type 0

abbrev pub bash_spec : CompleterSpec
bash_spec = record {
  name = codes "bash";
  named = λ name. bytes_eq name (codes "bash");
  registration = λ variable name bin completer. bash_registration variable name bin completer;
  Reads = λ variable name bin completer. BashReads variable name bin completer;
  Wants = λ env words wanted index. WantsAtIndex env words wanted index;
  reply = λ env found. values_reply (separator_of env) found;
  ReplyReads = λ env found. ValuesRead (separator_of env) found;
}

abbrev pub elvish_spec : CompleterSpec
elvish_spec = record {
  name = codes "elvish";
  named = λ name. bytes_eq name (codes "elvish");
  registration = λ variable name bin completer. elvish_registration variable bin completer;
  Reads = λ variable name bin completer. ElvishReads variable bin completer;
  Wants = λ env words wanted index. WantsAtIndex env words wanted index;
  reply = λ env found. values_reply (separator_of env) found;
  ReplyReads = λ env found. ValuesRead (separator_of env) found;
}

abbrev pub fish_spec : CompleterSpec
fish_spec = record {
  name = codes "fish";
  named = λ name. bytes_eq name (codes "fish");
  registration = λ variable name bin completer. fish_registration variable bin completer;
  Reads = λ variable name bin completer. FishReads variable bin completer;
  Wants = λ env words wanted index. WantsAtLast words wanted index;
  reply = λ env found. lines_reply found;
  ReplyReads = λ env found. LinesRead found;
}

abbrev pub powershell_spec : CompleterSpec
powershell_spec = record {
  name = codes "powershell";
  named = λ name. is_powershell name;
  registration = λ variable name bin completer. powershell_registration variable bin completer;
  Reads = λ variable name bin completer. PowershellReads variable bin completer;
  Wants = λ env words wanted index. WantsAtLast words wanted index;
  reply = λ env found. lines_reply found;
  ReplyReads = λ env found. LinesRead found × EntriesRead found;
}

abbrev pub zsh_spec : CompleterSpec
zsh_spec = record {
  name = codes "zsh";
  named = λ name. bytes_eq name (codes "zsh");
  registration = λ variable name bin completer. zsh_registration variable name bin completer;
  Reads = λ variable name bin completer. ZshReads variable name bin completer;
  Wants = λ env words wanted index. WantsAtNext env words wanted index;
  reply = λ env found. zsh_reply (separator_of env) found;
  ReplyReads = λ env found. ZshReplyRead (separator_of env) found;
}

abbrev pub builtin_spec : Builtin → CompleterSpec
builtin_spec Bash = bash_spec
builtin_spec Elvish = elvish_spec
builtin_spec Fish = fish_spec
builtin_spec Powershell = powershell_spec
builtin_spec Zsh = zsh_spec
