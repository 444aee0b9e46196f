use Rattle.std.proofs.Common.{◌≡◌, ◌++◌, codes, drop, map, string_bytes}
use Rattle.cc_base.specs.Joined.{joined_after}
use Rattle.cc_env.specs.Wanted.{quoted_name}
use Rattle.cc_env.proofs.wanted.push_names.Given as goal

-- the text that was appended, and the names of the shells that are left, make the whole
abbrev pub invariant-loop-shell : goal.invariant-loop-shell
invariant-loop-shell g l =
    string_bytes l.text
    ++ joined_after (codes ", ") l.begun (map quoted_name (map (λ shell. (g.E.EnvCompleter.spec shell).name) (drop l.shell-index l.shells)))
    ≡ string_bytes l.initial.text
    ++ joined_after (codes ", ") l.initial.begun (map quoted_name (map (λ shell. (g.E.EnvCompleter.spec shell).name) l.shells))
