-- The definitions that the contracts of this crate's calls cite, and those on which they build, each
-- under the name of its crate. A proof about these calls needs to name only this crate.
pub use Rattle.cc_base.specs as cc_base
pub use Rattle.cc_quote.specs as cc_quote
pub use Rattle.cc_candidates.specs as cc_candidates
pub use Rattle.cc_arg.specs as cc_arg
pub use Rattle.cc_command.specs as cc_command
pub use Rattle.cc_parser.specs as cc_parser
pub use Rattle.cc_generator.specs as cc_generator
pub use Rattle.cc_tables.specs as cc_tables
pub use Rattle.cc_bash.specs as cc_bash
pub use Rattle.cc_fish.specs as cc_fish
pub use Rattle.cc_zsh.specs as cc_zsh
pub use Rattle.cc_shell.specs as cc_shell
pub use Rattle.cc_engine.specs as cc_engine
pub use Rattle.cc_registrations.specs as cc_registrations
pub use Rattle.cc_replies.specs as cc_replies
pub use Rattle.cc_env.specs as cc_env
pub use Rattle.cc_lines.specs as cc_lines
pub use Rattle.cc_program.specs as cc_program
