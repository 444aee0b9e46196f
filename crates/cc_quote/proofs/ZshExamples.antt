-- Examples of zsh's escapes.
use Rattle.std.proofs.Common.{◌≡◌, refl, Some, None, codes}
use Rattle.cc_quote.specs.ZshQuote.{marks, marks_from, unmarked, zsh_unescaped, zsh_escaped_help, zsh_escaped_value}

value_row : zsh_escaped_value (codes "\\ [foo]() `bar https://$PATH")
    ≡ codes "\\\\\\ \\[foo\\]\\(\\)\\ \\`bar\\ https\\://\\$PATH"
unfolding zsh_escaped_value
value_row = refl

help_row : zsh_escaped_help (codes "\\ [foo]() `bar https://$PATH")
    ≡ codes "\\\\ \\[foo\\]() \\`bar https\\://\\$PATH"
unfolding zsh_escaped_help
help_row = refl

quote_row : zsh_escaped_help (codes "a]b[c:d\\e'f\ng") ≡ codes "a\\]b\\[c\\:d\\\\e'\\''f g"
unfolding zsh_escaped_help
quote_row = refl

kept_line_feed_row : zsh_escaped_value (codes "it's\n") ≡ codes "it'\\''s\n"
unfolding zsh_escaped_value
kept_line_feed_row = refl

unescaped_row : zsh_unescaped (codes "a\\]b\\\\\\e f") ≡ Some (codes "a]b\\e f")
unfolding zsh_unescaped marks marks_from unmarked
unescaped_row = refl

last_backslash_row : zsh_unescaped (codes "a\\\\\\") ≡ None
unfolding zsh_unescaped marks marks_from unmarked
last_backslash_row = refl
