-- The change that lines make in a tree, for an argument that is asked for and for none.
use Rattle.std.proofs.Common.{◌≡◌, List, [], ◌∷◌, None, Some, codes, refl}
use Rattle.std.specs.Prelude.{⊤}
use Rattle.cc_arg.specs.declared.parts.ArgParts.{ArgParts as Arg}
use Rattle.cc_arg.specs.Arguments.{new_arg}
use Rattle.cc_candidates.specs.declared.candidate.CompletionCandidate.{CompletionCandidate}
use Rattle.cc_engine.specs.Values.{MayReturn}
use Rattle.cc_env.specs.Completion.{returned_for}

abbrev branch : Arg
branch = record (new_arg (codes "branch")) { values_from = Some (codes "git" ∷ []) }

abbrev nothing : MayReturn
nothing = record {
  completes = λ which number text found. ⊤;
  lists = λ which found. found ≡ [];
  finds = λ hint text found. ⊤;
}

-- no argument is asked for
none_row : returned_for nothing (codes "main\n") None ≡ nothing
none_row = refl

-- other lists are as they were
other_row : (found : List CompletionCandidate)
    → (returned_for nothing (codes "main\n") (Some branch)).lists 0 found ≡ (found ≡ [])
other_row found = refl
