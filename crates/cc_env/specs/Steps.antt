-- The steps of a program whose environment may request a completion.
use Rattle.std.specs.Prelude.{◌≡◌, ◌≢◌, ◌++◌, ⊤, ℕ, Bool, true, false, List, [], ◌∷◌, map, Option, unwrap_or, Result, Ok, Err, IfErr, IfOk}
use Rattle.std.specs.Option.{option_copied}
use Rattle.std.specs.declared.io.ErrorKind.{ErrorKind}
use Rattle.cc_env.specs.Builtins.{CompleterSpec}
use Rattle.cc_env.specs.Replies.{WantsInRange, WantsOutOfRange, IsReply}
use Rattle.cc_base.specs.Collected.{collected_bytes}
use Rattle.cc_base.specs.Partly.{partly}
use Rattle.cc_base.specs.Sink.{add_failure}
use Rattle.cc_base.specs.declared.collected.Collected.{Collected}
use Rattle.cc_base.specs.declared.error.Error.{Error}
use Rattle.cc_base.specs.declared.error.Error.TheVariants.{Memory, NoArguments, NoCompletion, Write}
use Rattle.cc_base.specs.declared.failures.Failures.{Failures}
use Rattle.cc_candidates.specs.declared.candidate.CompletionCandidate.{CompletionCandidate}
use Rattle.cc_command.specs.Built.{built_tree}
use Rattle.cc_command.specs.Names.{full_name}
use Rattle.cc_command.specs.Tree.{Tree}
use Rattle.cc_replies.specs.declared.environment.EnvValues.{EnvValues}
use Rattle.cc_env.specs.Arguments.{after_dashes, program_path}
use Rattle.cc_env.specs.declared.shell_program.ShellProgram.{ShellProgram}
use Rattle.cc_env.specs.Wanted.{Wanted, IsUnknownShell, wanted_of, known, nothing, unknown}

-- ---- the registration

-- the names in a registration
pub record Names : Type 0 where
  pub variable : List ℕ
  pub name : List ℕ
  pub bin : List ℕ
  pub completer : List ℕ

-- the completer that is set, else the path of the program
abbrev pub completer_path : Option (List ℕ) → Option (List ℕ) → List ℕ → List ℕ
completer_path completer current program = unwrap_or completer (program_path current program)

-- the variable; the tree's name; the binary that is set, else the tree's full name; the completer
abbrev pub names_of : List ℕ → Option (List ℕ) → Option (List ℕ) → Option (List ℕ) → List ℕ → Tree
    → Names
names_of variable bin completer current program tree = record {
  variable = variable;
  name = tree.node.name;
  bin = unwrap_or bin (full_name tree.node);
  completer = completer_path completer current program;
}

-- those of a program as a shell runs it
abbrev pub program_names : {E : Type 0} → ShellProgram E → Option (List ℕ) → List ℕ → Tree → Names
program_names program current =
    names_of program.variable.now (option_copied program.bin) (option_copied program.completer)
    current

-- the text is the registration of these names, and what it is read as holds
pub record IsRegistration (shell : CompleterSpec) (names : Names) (text : List ℕ) : Type 0 where
  pub is : text ≡ shell.registration names.variable names.name names.bin names.completer
  pub read_back : shell.Reads names.variable names.name names.bin names.completer

-- the ends of a registration for these arguments, the program's path first, over a built tree
abbrev pub RegistersAs : CompleterSpec → (List ℕ → Tree → Names) → Tree → List (List ℕ)
    → Result (List ℕ) Error → Type 0
RegistersAs shell names tree [] result = result ≡ Err NoArguments
RegistersAs shell names tree (program ∷ rest) (Ok text) =
    IsRegistration shell (names program tree) text
RegistersAs shell names tree (program ∷ rest) (Err error) = error ≡ Memory

-- ---- the reply

-- The ends of a reply, over a built tree. Either the index is in range, the text is the reply of
-- candidates that may be offered there, and what replies are read as holds; or the index is out of
-- range; or memory ran out.
abbrev pub RepliesAs : CompleterSpec → EnvValues → List (List ℕ)
    → (List (List ℕ) → ℕ → List CompletionCandidate → Type 0) → Tree
    → Result (List ℕ) Error → Type 0
RepliesAs shell env words Offers tree (Ok text) =
    WantsInRange tree (shell.Wants env words)
    × IsReply (shell.Wants env words) Offers (shell.reply env) text
    × ((candidates : List CompletionCandidate) → shell.ReplyReads env candidates)
RepliesAs shell env words Offers tree (Err Memory) = ⊤
RepliesAs shell env words Offers tree (Err NoCompletion) =
    WantsOutOfRange tree (shell.Wants env words)
RepliesAs shell env words Offers tree (Err _) = ⊥

-- the tree is built, as a fact, if a text is made or the index is out of range; after memory ran
-- out nothing is known
abbrev pub BuiltUnlessMemory : Result (List ℕ) Error → Type 0 → Type 0
BuiltUnlessMemory (Ok text) Built = Built
BuiltUnlessMemory (Err Memory) Built = ⊤
BuiltUnlessMemory (Err NoCompletion) Built = Built
BuiltUnlessMemory (Err _) Built = ⊥

-- ---- the text

-- The ends of making the text for a known shell. `Makes` is true of what the factory may return,
-- `names` are those in the registration of a program and a tree, and `Offers` is true of the
-- candidates that may be offered over a tree.
pub data MakesText (Makes : Result Tree Error → Type 0) (shell : CompleterSpec)
    (names : List ℕ → Tree → Names) (env : EnvValues)
    (Offers : Tree → List (List ℕ) → ℕ → List CompletionCandidate → Type 0)
    : List (List ℕ) → Result (List ℕ) Error → Type 0 where
  -- the factory fails
  factory_failed : (arguments : List (List ℕ)) (error : Error) → Makes (Err error)
      → MakesText Makes shell names env Offers arguments (Err error)
  -- out of memory
  out_of_memory : (arguments : List (List ℕ))
      → MakesText Makes shell names env Offers arguments (Err Memory)
  -- the factory makes a command, and there are no arguments
  no_arguments : (tree : Tree) → Makes (Ok tree)
      → MakesText Makes shell names env Offers [] (Err NoArguments)
  -- no words follow a `--`: the registration
  registered : (tree : Tree) (program : List ℕ) (rest : List (List ℕ)) (text : List ℕ)
      → Makes (Ok tree) → after_dashes rest ≡ []
      → IsRegistration shell (names program (built_tree tree)) text
      → MakesText Makes shell names env Offers (program ∷ rest) (Ok text)
  -- words follow: the reply to them
  replied : (tree : Tree) (program : List ℕ) (rest : List (List ℕ))
      (result : Result (List ℕ) Error) → Makes (Ok tree) → after_dashes rest ≢ []
      → RepliesAs shell env (after_dashes rest) (Offers (built_tree tree)) (built_tree tree) result
      → MakesText Makes shell names env Offers (program ∷ rest) result

-- the same for a program as a shell runs it, and for the command with this tree
abbrev pub MakesTextBy : {E : Type 0} → (E → CompleterSpec) → ShellProgram E → Option (List ℕ) → Tree
    → EnvValues → (Tree → List (List ℕ) → ℕ → List CompletionCandidate → Type 0) → List (List ℕ)
    → Result (List ℕ) Error → Type 0
MakesTextBy spec program current tree env Offers arguments result =
    MakesText (λ made. made ≡ Ok tree) (spec program.shell.now) (program_names program current) env
    Offers arguments result

-- a put into memory that failed is out of memory
abbrev pub in_memory : Result (Unit {0}) Error → Result (Unit {0}) Error
in_memory (Err (Write _)) = Err Memory
in_memory result = result

-- the bytes of a text that was made in memory
abbrev pub made_bytes : Result Collected Error → Result (List ℕ) Error
made_bytes (Ok text) = Ok (collected_bytes text)
made_bytes (Err error) = Err error

-- ---- the whole call

-- The ends of the whole call for a known shell. The text is made first. If that fails, nothing is
-- written, and no write failed.
pub data Ends {S : Type 0} (taken : S → List ℕ) (failed : S → Failures)
    (Makes : Result (List ℕ) Error → Type 0) (old new : S) : Result Bool Error → Type 0 where
  -- no text is made
  nothing_written : (error : Error) → Makes (Err error) → new ≡ old
      → Ends taken failed Makes old new (Err error)
  -- a write failed, which is counted with its kind; a beginning of the text is taken
  write_failed : (text : List ℕ) (kind : ErrorKind) → Makes (Ok text)
      → partly (taken new) (taken old) text ≡ true
      → failed new ≡ add_failure kind (failed old)
      → Ends taken failed Makes old new (Err (Write kind))
  -- the text is written
  text_written : (text : List ℕ) → Makes (Ok text) → taken new ≡ taken old ++ text
      → failed new ≡ failed old → Ends taken failed Makes old new (Ok true)

-- The end of the whole call, if nothing, an unknown shell or a known shell is requested.
abbrev pub EndsAs : {S C : Type 0} → (S → List ℕ) → (S → Failures) → List (List ℕ)
    → (C → Result (List ℕ) Error → Type 0) → Wanted C → S → S → Result Bool Error → Type 0
EndsAs taken failed names Makes nothing old new result = (result ≡ Ok false) × (new ≡ old)
EndsAs taken failed names Makes (unknown name) old new result =
    IfOk result (λ _. ⊥) × IfErr result (IsUnknownShell names name) × (new ≡ old)
EndsAs taken failed names Makes (known shell) old new result =
    Ends taken failed (Makes shell) old new result

-- The same of these shells, for the name that is requested, if one is. `Makes` is true of how
-- making the text for a shell ends.
abbrev pub Tries : {S C : Type 0} → (S → List ℕ) → (S → Failures) → (C → CompleterSpec) → List C
    → (C → Result (List ℕ) Error → Type 0) → Option (List ℕ) → S → S → Result Bool Error → Type 0
Tries taken failed spec shells Makes name old new result =
    EndsAs taken failed (map (λ shell. (spec shell).name) shells) Makes
    (wanted_of (λ shell. (spec shell).named) shells name) old new result
