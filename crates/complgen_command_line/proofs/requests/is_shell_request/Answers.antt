use Rattle.std.proofs.Common.{◌∙◌, codes, map, string_bytes, sym}
use Rattle.cc_replies.specs.Environment.{value_of}
use Rattle.complgen_command_line.proofs.Untaken.{untaken_request}
use Rattle.complgen_command_line.proofs.requests.is_shell_request.Goals as goal

pub returns-clause-untaken : goal.returns-clause-untaken
returns-clause-untaken c = λ requested.
    untaken_request (value_of (codes "COMPLETE") c.args.env.now)
    (map string_bytes c.args.words.now) (sym c.is_request.ensures ∙ requested)
