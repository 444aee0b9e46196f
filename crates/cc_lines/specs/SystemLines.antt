-- The lines that the system gives.
use Rattle.std.specs.Prelude.{◌≡◌, ℕ, false, List, [], None}
use Rattle.cc_arg.specs.ValueSources.{is_listed}
use Rattle.cc_arg.specs.declared.parts.ArgParts.{ArgParts as Arg}

-- Nothing is known of what the system gives, but that an argument without a command, a file and a
-- hint whose values the system lists has no lines.
abbrev pub SystemGives : Arg → List ℕ → Type 0
SystemGives asked lines =
    asked.values_from ≡ None → asked.values_file ≡ None → is_listed asked.value_hint ≡ false
    → lines ≡ []
