-- The ends of the whole call, outcome by outcome.
use Rattle.std.proofs.Common.{◌≡◌, ◌++◌, ◌∙◌, ap, sym, subst, ℕ, Bool, true, List, Option, Some, None, Result, Ok, Err, find, map}
use Rattle.cc_env.specs.Builtins.{CompleterSpec}
use Rattle.cc_base.specs.Partly.{partly}
use Rattle.cc_base.specs.Writes.{IsWrite, Writes}
use Rattle.cc_base.specs.declared.error.Error.{Error}
use Rattle.cc_base.specs.declared.error.Error.TheVariants.{Write}
use Rattle.cc_base.specs.declared.failures.Failures.{Failures}
use Rattle.cc_env.specs.Wanted.{Wanted, known, unknown}
use Rattle.cc_env.specs.Steps.{Ends, EndsAs, Tries, text_written, write_failed}

module _ {S : Type 0} (taken : S → List ℕ) (failed : S → Failures) where
  -- a put that fails
  pub ends_unwritten : (Makes : Result (List ℕ) Error → Type 0) (old new : S) (text made : List ℕ) (error : Error)
      → text ≡ made → Makes (Ok made) → Writes taken failed (Err error) old new text → IsWrite error
      → Ends taken failed Makes old new (Err error)
  ends_unwritten Makes old new text made (Write kind) same makes writes is =
      write_failed made kind makes (ap (partly (taken new) (taken old)) (sym same) ∙ writes.begun) writes.failures
  ends_unwritten Makes old new text made _ same makes writes is = absurd is

  -- the whole text
  pub ends_written : (Makes : Result (List ℕ) Error → Type 0) (old new : S) (text made : List ℕ) (done : Unit {0})
      → text ≡ made → Makes (Ok made) → Writes taken failed (Ok done) old new text
      → Ends taken failed Makes old new (Ok true)
  ends_written Makes old new text made done same makes writes =
      text_written made makes (writes.ok ∙ ap (λ t. taken old ++ t) same) writes.failures

  module _ {C : Type 0} (spec : C → CompleterSpec) (shells : List C) (Makes : C → Result (List ℕ) Error → Type 0) (old new : S) where
    -- the request that a name makes
    abbrev wanted_by : List ℕ → Option C → Wanted C
    wanted_by name found = elim found [
      | Some shell ↦ known shell
      | None ↦ unknown name
    ]

    -- a shell is requested
    pub tries_known : (result : Result Bool Error) (wanted : Option (List ℕ)) (name : List ℕ) (shell : C)
        → Some name ≡ wanted → find (λ s. (spec s).named name) shells ≡ Some shell → Ends taken failed (Makes shell) old new result
        → Tries taken failed spec shells Makes wanted old new result
    tries_known result wanted name shell is found ends =
        subst (λ a. Tries taken failed spec shells Makes a old new result) is
        (subst (λ f. EndsAs taken failed (map (λ s. (spec s).name) shells) Makes (wanted_by name f) old new result) (sym found) ends)
