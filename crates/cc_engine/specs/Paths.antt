-- The paths of a kind in a folder.
use Rattle.std.specs.Prelude.{◌≡◌, ℕ, List, [], true, Option}
use Rattle.cc_arg.specs.declared.value_hint.ValueHint.{ValueHint}
use Rattle.cc_arg.specs.declared.value_hint.ValueHint.TheVariants.{AnyPath, FilePath, DirPath, ExecutablePath}
use Rattle.cc_candidates.specs.declared.candidate.CompletionCandidate.{CompletionCandidate}
use Rattle.cc_candidates.specs.Folders.{FolderFacts}
use Rattle.cc_candidates.specs.PathCandidates.{ArePathCandidates}

-- What a hint wants of the paths in a folder: any path passes, or a file's, a folder's, an
-- executable file's. Another hint names no paths.
abbrev pub PathsOf : FolderFacts → Option (List ℕ) → ValueHint → List ℕ
    → List CompletionCandidate → Type 0
PathsOf facts current AnyPath text found =
    ArePathCandidates facts (λ path passes. passes ≡ true) current text found
PathsOf facts current FilePath text found =
    ArePathCandidates facts facts.is_file current text found
PathsOf facts current DirPath text found = ArePathCandidates facts facts.is_dir current text found
PathsOf facts current ExecutablePath text found =
    ArePathCandidates facts facts.is_executable current text found
PathsOf facts current _ text found = found ≡ []
