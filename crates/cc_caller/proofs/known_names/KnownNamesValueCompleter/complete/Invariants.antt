use Rattle.std.proofs.Common.{◌≡◌, ◌++◌, drop, map, string_bytes}
use Rattle.clap_complete.specs.cc_candidates.Candidate.{new_candidate}
use Rattle.cc_caller.specs.KnownNames.{names_beginning}
use Rattle.cc_caller.proofs.known_names.KnownNamesValueCompleter.complete.Given as goal

abbrev pub invariant-loop-name : goal.invariant-loop-name
invariant-loop-name l =
    l.found.items
    ++ map new_candidate (names_beginning (map string_bytes (drop l.name-index l.self.names.items)) l.text)
    ≡ map new_candidate (names_beginning (map string_bytes l.self.names.items) l.text)
