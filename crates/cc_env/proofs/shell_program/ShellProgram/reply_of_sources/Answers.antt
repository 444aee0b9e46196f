use Rattle.std.proofs.Common.{map, string_bytes}
use Rattle.cc_env.proofs.InMemory.{reply_built, reply_held}
use Rattle.cc_env.proofs.shell_program.ShellProgram.reply_of_sources.Goals as goal

pub returns : goal.returns
returns g c = record {
  replied =
      reply_held (g.E.EnvCompleter.spec c.args.self.now.shell.now) c.args.env.now (map string_bytes c.args.words.items) _ _ _ _ _ _ _ _ _
      c.new-text.ensures.bytes c.write_complete.ensures.reply c.write_complete.ensures.read_back c.in_ok-in_memory.ensures;
  built =
      reply_built (g.E.EnvCompleter.spec c.args.self.now.shell.now) c.args.env.now (map string_bytes c.args.words.items) _ _ _ _ _ _ _ _ _
      c.write_complete.ensures.reply c.in_ok-in_memory.ensures;
}
