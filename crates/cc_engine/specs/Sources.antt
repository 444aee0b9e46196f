-- The lists that completers, lists of candidates and a folder may return.
use Rattle.std.specs.Prelude.{ℕ, List, Option}
use Rattle.std.specs.Option.{option_copied}
use Rattle.cc_base.specs.declared.sources.CandidateSources.{Ghosts}
use Rattle.cc_candidates.specs.declared.candidate.CompletionCandidate.{CompletionCandidate}
use Rattle.cc_engine.specs.Paths.{PathsOf}
use Rattle.cc_engine.specs.declared.sources.Sources.{Sources}
use Rattle.cc_engine.specs.Values.{MayReturn, returned_by}
use Rattle.cc_candidates.specs.Folders.{FolderFacts}

-- the lists that these completers and lists, and a folder with these facts, may return, if relative
-- paths begin at this directory
abbrev pub returned_from : {C : Type 0} → Ghosts C CompletionCandidate → C → FolderFacts
    → Option (List ℕ) → MayReturn
returned_from members completers facts current =
    returned_by members.may_complete members.may_list completers (PathsOf facts current)

-- the same of sources, if their folder has these facts
abbrev pub returned_of : {D C : Type 0} → Ghosts C CompletionCandidate → FolderFacts → Sources D C
    → MayReturn
returned_of members facts sources =
    returned_from members sources.completers.now facts (option_copied sources.current_dir)
