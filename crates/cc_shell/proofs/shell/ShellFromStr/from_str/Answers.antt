use Rattle.std.proofs.Common.{◌∙◌, ap, subst, sym, ◌≡◌, cond, false, refl, true, ℕ, Bool, List, None, Option, Some, [], ◌∷◌, IfOk}
use Rattle.std.specs.Prelude.{ok_or, IfSome, find}
use Rattle.std.proofs.lemmas.Slice.Eq.{bytes_eq-Decides}
use Rattle.std.specs.Str.{bytes_eq}
use Rattle.cc_shell.specs.Shells.{ReadsShell, all_shells, shell_text}
use Rattle.cc_shell.specs.declared.shell.InvalidShell.{InvalidShell}
use Rattle.cc_shell.specs.declared.shell.Shell.{Shell}
use Rattle.cc_shell.specs.declared.shell.Shell.TheVariants.{Bash}
use Rattle.cc_shell.proofs.shell.ShellFromStr.from_str.Goals as goal

-- the first shell with a given name
abbrev named : List ℕ → Option Shell
named text = find (λ shell. bytes_eq (shell_text shell) text) all_shells

-- no shell before a shell has the same name
named_by_text : (shell : Shell) → named (shell_text shell) ≡ Some shell
named_by_text Bash = refl
named_by_text _ = refl

-- ---- the shell that is found passes the test

passes_first : {T : Type 0} (test : T → Bool) (x : T) (later : Option T) (told : Bool)
    → test x ≡ told → IfSome later (λ y. test y ≡ true)
    → IfSome (cond told (Some x) later) (λ y. test y ≡ true)
passes_first test x later true e h = e
passes_first test x later false e h = h

found_passes : {T : Type 0} (test : T → Bool) (xs : List T)
    → IfSome (find test xs) (λ x. test x ≡ true)
found_passes test [] = tt
found_passes test (x ∷ xs) =
    passes_first test x (find test xs) (test x) refl (found_passes test xs)

-- ---- reading

only_text : (text : List ℕ) (error : InvalidShell) (found : Option Shell)
    → IfSome found (λ shell. bytes_eq (shell_text shell) text ≡ true)
    → IfOk (ok_or found error) (λ shell. text ≡ shell_text shell)
only_text text error None h = tt
only_text text error (Some shell) h = sym ((bytes_eq-Decides (shell_text shell) text).0 h)

-- a text is read as the first shell with that name
reads_named : (text : List ℕ) (error : InvalidShell)
    → ReadsShell text (ok_or (named text) error)
reads_named text error = record {
  printed = λ shell e. ap (λ t. ok_or (named t) error) e
      ∙ ap (λ found. ok_or found error) (named_by_text shell);
  only = only_text text error (named text)
      (found_passes (λ shell. bytes_eq (shell_text shell) text) all_shells);
}

pub returns : goal.returns
returns c =
    subst (ReadsShell c.args.text.now)
    (sym (c.ok_or.ensures.value
    ∙ ap (λ found. ok_or found _) (c.copied.ensures ∙ c.with_text.ensures)))
    (reads_named c.args.text.now _)
