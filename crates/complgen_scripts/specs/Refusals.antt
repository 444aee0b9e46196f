-- The texts that the program prints instead of its output.
use Rattle.std.specs.Prelude.{◌≡◌, ◌⊎◌, ◌++◌, ℕ, List, Result, Ok, Err}
use Rattle.std.specs.Prelude.{String, codes, string_bytes}
use Rattle.std.specs.Cow.{cow_str_bytes}
use Rattle.std.specs.declared.alloc.AllocError.{AllocError}
use Rattle.std.specs.declared.alloc.Global.{Global}
use Rattle.cc_base.specs.declared.error.Error.{Error}
use Rattle.cc_base.specs.declared.error.Error.TheVariants as error
use Rattle.cc_base.specs.ErrorText.{error_text}
use Rattle.cc_base.specs.Shown.{on_one_line}
use Rattle.cc_shell.specs.declared.shell.Shell.{Shell}
use Rattle.cc_shell.specs.Shells.{invalid_variant, shell_text}
use Rattle.complgen_scripts.specs.declared.refusals.Refusal.{Refusal}
use Rattle.complgen_tree_file.specs.declared.error.TreeError.{TreeError}
use Rattle.complgen_tree_file.specs.declared.error.TreeError.TheVariants.{BadForm, Memory, NotJson}

-- ---- the texts

-- the text of an error of the library, as a line
abbrev pub error_line : Error → List ℕ
error_line error = error_text error ++ codes "\n"

-- a text that comes from outside, as a line with `?` for each control character
abbrev pub as_line : List ℕ → List ℕ
as_line text = on_one_line text ++ codes "\n"

-- the text of an error of the library as such a line
abbrev pub shown_line : Error → List ℕ
shown_line error = as_line (error_text error)

-- the tree file cannot be read
abbrev pub unreadable_line : List ℕ
unreadable_line = codes "tree: unreadable\n"

-- the tree file is not JSON
abbrev pub not_json_line : List ℕ
not_json_line = codes "tree: not JSON\n"

-- the JSON describes no command
abbrev pub bad_form_line : List ℕ
bad_form_line = codes "tree: bad form\n"

-- ---- the same with the path of the tree file, and `?` for each control character in it

-- a text about the file at a path
abbrev pub about_file : List ℕ → List ℕ → List ℕ
about_file path text = (path ++ codes ": ") ++ text

-- a line about it, with the command that explains it
abbrev pub checked_line : List ℕ → List ℕ → List ℕ
checked_line path text = ((about_file (on_one_line path) text ++ codes " (run complgen check ")
    ++ on_one_line path) ++ codes ")\n"

abbrev pub unreadable_at : List ℕ → List ℕ
unreadable_at path = about_file (on_one_line path) unreadable_line

-- the same for a file of values
abbrev pub values_unreadable_at : List ℕ → List ℕ
values_unreadable_at path = about_file (on_one_line path) (codes "values: unreadable\n")

abbrev pub not_json_at : List ℕ → List ℕ
not_json_at path = checked_line path (codes "tree: not JSON")

abbrev pub bad_form_at : List ℕ → List ℕ
bad_form_at path = checked_line path (codes "tree: bad form")

-- the line for an allocation that failed
abbrev pub out_of_memory_line : List ℕ
out_of_memory_line = codes "out of memory\n"

-- ---- which refusal it is

-- what is printed
abbrev pub text_of : Refusal → List ℕ
text_of refusal = cow_str_bytes refusal.text

-- the refusal has status 1 and this text
pub record IsRefusal (text : List ℕ) (refusal : Refusal) : Type 0 where
  pub status : refusal.status ≡ 1
  pub text_is : text_of refusal ≡ text

-- out of memory
abbrev pub IsOutOfMemory : Refusal → Type 0
IsOutOfMemory = IsRefusal out_of_memory_line

-- the refusal with this text, or the one for out of memory, because the text is made
abbrev pub IsMade : List ℕ → Refusal → Type 0
IsMade text refusal = IsOutOfMemory refusal ⊎ IsRefusal text refusal

-- what is printed for an error of the library; a text that names a label or a shell may come from
-- outside
abbrev pub Reports : Error → Refusal → Type 0
Reports (error.LabelClash label) refusal = IsMade (shown_line (error.LabelClash label)) refusal
Reports (error.UnknownShell text) refusal = IsMade (shown_line (error.UnknownShell text)) refusal
Reports (error.InvalidVariant text) refusal =
    IsMade (shown_line (error.InvalidVariant text)) refusal
Reports error refusal = IsRefusal (error_line error) refusal

-- what is printed for an error of a tree file
abbrev pub ReportsTree : TreeError → Refusal → Type 0
ReportsTree NotJson refusal = IsRefusal not_json_line refusal
ReportsTree BadForm refusal = IsRefusal bad_form_line refusal
ReportsTree Memory refusal = IsOutOfMemory refusal

-- what is printed for an error of the tree file at a path
abbrev pub ReportsTreeAt : List ℕ → TreeError → Refusal → Type 0
ReportsTreeAt path NotJson refusal = IsMade (not_json_at path) refusal
ReportsTreeAt path BadForm refusal = IsMade (bad_form_at path) refusal
ReportsTreeAt path Memory refusal = IsOutOfMemory refusal

-- the refusal with a text, or the one for out of memory if there was no memory for the text
abbrev pub HasText : Result (String Global) AllocError → Refusal → Type 0
HasText (Ok text) refusal = IsRefusal (string_bytes text) refusal
HasText (Err failed) refusal = IsOutOfMemory refusal

-- finding a shell by its name: the shell that has the name, or a report that no shell has it
abbrev pub FindsShell : List ℕ → Result Shell Refusal → Type 0
FindsShell name (Ok shell) = name ≡ shell_text shell
FindsShell name (Err refusal) = ((shell : Shell) → name ≡ shell_text shell → ⊥)
    × IsMade (shown_line (error.InvalidVariant (invalid_variant name))) refusal
