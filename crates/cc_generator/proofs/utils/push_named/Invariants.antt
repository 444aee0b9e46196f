use Rattle.std.proofs.Common.{◌≡◌, ◌++◌, map}
use Rattle.cc_generator.specs.Subcommands.{texts_of}
use Rattle.cc_generator.proofs.utils.push_named.Given as goal

-- the pairs so far are those of the names passed over
abbrev pub invariant-loop-name : goal.invariant-loop-name
invariant-loop-name l = texts_of l.found.items ≡ texts_of l.initial.found.items ++ map (λ name. (name, l.full_name)) (map (λ name. name.now) l.yielded)
