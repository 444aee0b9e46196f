-- The words that an adapter completes, and the names that it has, by example.
use Rattle.std.proofs.Common.{◌≡◌, [], ◌∷◌, true, false, codes, refl}
use Rattle.cc_env.specs.WantedWords.{with_next}
use Rattle.cc_env.specs.Builtins.{builtin_spec}
use Rattle.cc_env.specs.declared.builtin.Builtin.TheVariants.{Powershell}

next_word :
    -- the index of the word after `app`
    (with_next (codes "app" ∷ []) 1 ≡ codes "app" ∷ [] ∷ [])
    -- that of `app` itself
    × (with_next (codes "app" ∷ []) 0 ≡ codes "app" ∷ [])
next_word = (refl, refl)

-- ---- names

powershell_names :
    ((builtin_spec Powershell).named (codes "powershell") ≡ true)
    × ((builtin_spec Powershell).named (codes "pwsh") ≡ true)
    × ((builtin_spec Powershell).named (codes "powershell_ise") ≡ true)
    × ((builtin_spec Powershell).named (codes "zsh") ≡ false)
powershell_names = (refl, refl, refl, refl)
