use Rattle.std.proofs.Common.{◌≡◌, Some, rules}
use Rattle.std.specs.String.{string_bytes}
use Rattle.cc_command.proofs.BuiltAgain.{built_tree-again}
use Rattle.cc_command.proofs.PlainBuilt.{plain_built_under}
use Rattle.cc_command.proofs.QuietBuilt.{quiet_built_under}
use Rattle.cc_command.proofs.command.build.build_as.Goals as goal

pub returns-clause-whole : goal.returns-clause-whole
returns-clause-whole c = rw c.in_ok-build_under.ensures.ok (built_tree-again _ c.args.command.now)

pub returns-clause-plain : goal.returns-clause-plain
returns-clause-plain c =
    let same : c.from.result ≡ string_bytes c.args.bin_name = search rules in
    rw (c.in_ok-build_under.ensures.ok, same) (λ plain named. plain_built_under (Some (string_bytes c.args.bin_name)) c.args.command.now named plain)

pub returns-clause-quiet : goal.returns-clause-quiet
returns-clause-quiet c =
    let same : c.from.result ≡ string_bytes c.args.bin_name = search rules in
    rw (c.in_ok-build_under.ensures.ok, same) (λ quiet. quiet_built_under (Some (string_bytes c.args.bin_name)) c.args.command.now quiet)
