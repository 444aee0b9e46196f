-- Examples of fish's quoting and of the cutting of its scripts.
use Rattle.std.proofs.Common.{◌≡◌, ◌++◌, ◌∷◌, [], refl, Some, None, codes}
use Rattle.cc_base.specs.Bytes.{line_feed}
use Rattle.cc_quote.specs.FishQuote.{fish_sign, fish_word_of, fish_double_of, is_fish_safe, fish_quoted, fish_quoted_for_eval, fish_help_for_eval_of, fish_escaped}
use Rattle.cc_quote.specs.FishTokens.{fish_commands}

empty_row : fish_quoted [] ≡ codes "''"
unfolding fish_quoted
empty_row = refl

safe_row : fish_quoted (codes "a-b_c/d.e,f+g=h:i@9") ≡ codes "a-b_c/d.e,f+g=h:i@9"
unfolding fish_quoted is_fish_safe
safe_row = refl

backslash_row : fish_quoted (codes "dyn\\amic") ≡ codes "'dyn\\\\amic'"
unfolding fish_quoted is_fish_safe
backslash_row = refl

eval_backslash_row : fish_quoted_for_eval (codes "/p/dyn\\amic/foo") ≡ codes "'/p/dyn\\\\\\\\amic/foo'"
unfolding fish_quoted_for_eval fish_quoted is_fish_safe
eval_backslash_row = refl

eval_dollar_row : fish_quoted_for_eval (codes "/p/$var/c") ≡ codes "'/p/\\$var/c'"
unfolding fish_quoted_for_eval fish_quoted is_fish_safe
eval_dollar_row = refl

eval_quote_row : fish_quoted_for_eval (codes "/o'p $x COMPLETER") ≡ codes "'/o\\\\'p \\$x COMPLETER'"
unfolding fish_quoted_for_eval fish_quoted is_fish_safe
eval_quote_row = refl

eval_safe_row : fish_quoted_for_eval (codes "auto") ≡ codes "auto"
unfolding fish_quoted_for_eval fish_quoted is_fish_safe
eval_safe_row = refl

eval_help_row : fish_help_for_eval_of (codes "it's \\ \"$x\"") ≡ codes "'it\\\\'s \\\\\\\\ \\\"\\$x\\\"'"
unfolding fish_help_for_eval_of
eval_help_row = refl

eval_no_help_row : fish_help_for_eval_of [] ≡ codes "''"
unfolding fish_help_for_eval_of
eval_no_help_row = refl

escape_row : fish_escaped (codes "it's" ++ line_feed ∷ codes "[x]:\\") ≡ codes "it\\'s [x]:\\\\"
unfolding fish_escaped
escape_row = refl

single_row : fish_word_of (codes "'it\\'s [x]:\\\\ \\n' more") ≡ Some (codes "it's [x]:\\ \\n", codes " more")
unfolding fish_sign
single_row = refl

double_row : fish_word_of (codes "\"\\\"\\$x\\\\ \\n\\" ++ 10 ∷ codes "y\" more") ≡ Some (codes "\"$x\\ \\ny", codes " more")
unfolding fish_sign
double_row = refl

bare_row : fish_word_of (codes "a#b\\ c\\t\\n'd'\"e\"\\" ++ 10 ∷ codes "f" ++ 10 ∷ codes "g") ≡ Some (codes "a#b c" ++ 9 ∷ 10 ∷ codes "de" ++ 10 ∷ codes "f", 10 ∷ codes "g")
unfolding fish_sign
bare_row = refl

comment_row : fish_word_of (codes "# no word") ≡ None
unfolding fish_sign
comment_row = refl

open_row : fish_word_of (codes "'open") ≡ None
unfolding fish_sign
open_row = refl

open_escape_row : fish_word_of (codes "open\\") ≡ None
unfolding fish_sign
open_escape_row = refl

between_doubles_row : fish_double_of (codes "\"it's \\$x\"more") ≡ Some (codes "it's $x", codes "more")
unfolding fish_sign
between_doubles_row = refl

commands_row : fish_commands (codes "# a comment" ++ line_feed ∷ codes "complete -c 'a b' # more" ++ line_feed ∷ codes "  end;" ++ line_feed ∷ [])
    ≡ Some [] ∷ Some (codes "complete" ∷ codes "-c" ∷ codes "a b" ∷ []) ∷ Some (codes "end;" ∷ []) ∷ Some [] ∷ []
unfolding fish_sign fish_commands
commands_row = refl

-- a quote that is open at the end
open_command_row : fish_commands (codes "end" ++ line_feed ∷ codes "complete -d 'open") ≡ Some (codes "end" ∷ []) ∷ None ∷ []
unfolding fish_sign fish_commands
open_command_row = refl
