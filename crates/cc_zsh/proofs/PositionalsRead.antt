-- The lines of a node's positionals add no option.
use Rattle.std.proofs.Common.{◌≡◌, ◌||◌, ℕ, Bool, true, false, cond, List, [], ◌∷◌, ◌++◌, Option, Some, None, codes, refl, sym, ◌∙◌, ap, subst, arith, append_assoc}
use Rattle.std.specs.List.{AllByRecursion}
use Rattle.std.specs.Option.{option_to_list}
use Rattle.std.proofs.lemmas.Bool.Decides.{nat_tests}
use Rattle.cc_base.specs.Bytes.{single_quote}
use Rattle.cc_base.proofs.Members.{AllByRecursion-append, AllByRecursion-filter}
use Rattle.cc_arg.specs.declared.parts.ArgParts.{ArgParts as Arg}
use Rattle.cc_arg.specs.Arguments.{is_positional}
use Rattle.cc_command.specs.ArgumentLists.{positionals}
use Rattle.cc_command.specs.Tree.{Tree, has_nodes}
use Rattle.cc_command.proofs.PlainParts.{IsPlainArgument}
use Rattle.cc_quote.specs.PosixQuote.{posix_escaped}
use Rattle.cc_quote.specs.Escapes.{escaped_byte, marked, marked_byte}
use Rattle.cc_quote.specs.ZshQuote.{is_value_marked, zsh_escaped_value, zsh_replacement}
use Rattle.cc_quote.proofs.ByteEscapes.{composed, same_bytes}
use Rattle.cc_quote.proofs.PosixWords.{posix_escaped_byte}
use Rattle.cc_quote.proofs.ZshWords.{value_composed}
use Rattle.cc_generator.proofs.ReadInTurn.{in_parts}
use Rattle.cc_zsh.specs.Options.{line_end}
use Rattle.cc_zsh.specs.Positionals.{takes_rest, rest_text, count_text, is_bracket_or_colon, is_positional_escaped, positional_escaped, positional_help, positional_text, is_left_out, shown_positionals, takes_all, positionals_text}
use Rattle.cc_zsh.specs.Values.{value_text}
use Rattle.cc_zsh.specs.Reader.{option_of}
use Rattle.cc_zsh.proofs.Cutting.{Escapes, escapes_append, escapes_same, IsEscaped, escaped_append, escaped_same, escaped_of}
use Rattle.cc_zsh.proofs.OptionWords.{colon_none, star_none}
use Rattle.cc_zsh.proofs.LinesRead.{Adds, adds_nothing, line_adds}
use Rattle.cc_zsh.proofs.EscapedValues.{no_quote, escaped_value_text}

same_byte : (byte : ℕ) → escaped_byte is_positional_escaped zsh_replacement byte
    ≡ posix_escaped (marked_byte is_bracket_or_colon byte)
same_byte byte = grind (arith, nat_tests)

positional_composed : (text : List ℕ) →
    positional_escaped text ≡ posix_escaped (marked is_bracket_or_colon text)
unfolding positional_escaped
positional_composed text =
    same_bytes (escaped_byte is_positional_escaped zsh_replacement)
    (λ byte. posix_escaped (marked_byte is_bracket_or_colon byte)) same_byte text
    ∙ composed (marked_byte is_bracket_or_colon) posix_escaped_byte text

help_escaped : (help : Option (List ℕ)) → IsEscaped (positional_help help)
help_escaped None = escaped_same [] tt
help_escaped (Some help) =
    escaped_append (codes " -- ") (positional_escaped help)
    (escaped_same (codes " -- ") (refl, (refl, (refl, (refl, tt)))))
    (escaped_of (positional_escaped help) (marked is_bracket_or_colon help) (positional_composed help))

-- the text after the count and its colon
rest_escaped : (argument : Arg) → IsPlainArgument argument →
    IsEscaped (argument.id ++ (positional_help argument.help ++ (codes ":" ++ value_text argument)))
rest_escaped argument is =
    escaped_append argument.id (positional_help argument.help ++ (codes ":" ++ value_text argument))
    (escaped_same argument.id (no_quote argument.id is.id))
    (escaped_append (positional_help argument.help) (codes ":" ++ value_text argument)
    (help_escaped argument.help)
    (escaped_append (codes ":") (value_text argument) (escaped_same (codes ":") (refl, tt))
    (escaped_value_text argument)))

-- a count and the text after it, as a word that describes no option
pub record IsNone (text : List ℕ) : Type 0 where
  pub word : List ℕ
  pub escapes : Escapes text word
  pub none : option_of word ≡ None

colon_escapes : Escapes (codes ":") (codes ":")
colon_escapes = escapes_same (codes ":") (refl, tt)

-- the same from the first colon on
from_colon : (rest : List ℕ) → IsEscaped rest → IsNone (codes ":" ++ rest)
from_colon rest h = record {
  word = codes ":" ++ h.word;
  escapes = escapes_append (codes ":") rest (codes ":") h.word colon_escapes h.escapes;
  none = colon_none h.word;
}

value_escapes : (value : List ℕ) → Escapes (zsh_escaped_value value) (marked is_value_marked value)
value_escapes value = record { is = value_composed value }

star_escapes : Escapes (codes "*") (codes "*")
star_escapes = escapes_same (codes "*") (refl, tt)

from_rest : (terminator : Option (List ℕ)) (rest : List ℕ) → IsEscaped rest →
    IsNone (rest_text terminator ++ rest)
from_rest None rest h = record {
  word = codes "*" ++ (marked is_value_marked [] ++ (codes ":" ++ h.word));
  escapes = escapes_append (codes "*") (codes ":" ++ rest) (codes "*") (codes ":" ++ h.word)
      star_escapes (escapes_append (codes ":") rest (codes ":") h.word colon_escapes h.escapes);
  none = star_none [] h.word;
}
from_rest (Some terminator) rest h = record {
  word = codes "*" ++ (marked is_value_marked terminator ++ (codes ":" ++ h.word));
  escapes = subst (λ t. Escapes t (codes "*" ++ (marked is_value_marked terminator ++ (codes ":" ++ h.word))))
      (sym (in_parts (codes "*") (zsh_escaped_value terminator ∷ codes ":" ∷ []) rest))
      (escapes_append (codes "*") (zsh_escaped_value terminator ++ (codes ":" ++ rest)) (codes "*")
      (marked is_value_marked terminator ++ (codes ":" ++ h.word)) star_escapes
      (escapes_append (zsh_escaped_value terminator) (codes ":" ++ rest)
      (marked is_value_marked terminator) (codes ":" ++ h.word) (value_escapes terminator)
      (escapes_append (codes ":") rest (codes ":") h.word colon_escapes h.escapes)));
  none = star_none terminator h.word;
}

counted : (has_children : Bool) (argument : Arg) (rest : List ℕ) → IsEscaped rest →
    IsNone (count_text has_children argument ++ (codes ":" ++ rest))
unfolding count_text
counted has_children argument rest h =
    by_tests (takes_rest has_children argument) argument.required
  where
    colon_rest : IsEscaped (codes ":" ++ rest)
    colon_rest = escaped_append (codes ":") rest (escaped_same (codes ":") (refl, tt)) h

    by_tests : (several required : Bool) →
        IsNone (cond several (rest_text argument.value_terminator) (cond required [] (codes ":"))
        ++ (codes ":" ++ rest))
    by_tests true required = from_rest argument.value_terminator (codes ":" ++ rest) colon_rest
    by_tests false true = from_colon rest h
    by_tests false false = from_colon (codes ":" ++ rest) colon_rest

positional_adds : (has_children : Bool) (argument : Arg) → IsPlainArgument argument →
    Adds (positional_text has_children argument) []
unfolding positional_text
positional_adds has_children argument is =
    let rest : List ℕ = argument.id ++ (positional_help argument.help ++ (codes ":" ++ value_text argument)) in
    let none = counted has_children argument rest (rest_escaped argument is) in
    subst (λ t. Adds (single_quote ∷ t) [])
    (sym (regroup (count_text has_children argument) (codes ":") argument.id
    (positional_help argument.help) (codes ":") (value_text argument) line_end))
    (line_adds (count_text has_children argument ++ (codes ":" ++ rest)) none.word [] none.escapes
    (ap option_to_list none.none))
  where
    regroup : (a b c d e f g : List ℕ) → (((((a ++ b) ++ c) ++ d) ++ e) ++ f) ++ g
        ≡ (a ++ (b ++ (c ++ (d ++ (e ++ f))))) ++ g
    regroup a b c d e f g = simp append_assoc

shown_plain : (has_children taken : Bool) (arguments : List Arg) →
    AllByRecursion IsPlainArgument arguments →
    AllByRecursion IsPlainArgument (shown_positionals has_children taken arguments)
shown_plain has_children taken [] h = tt
shown_plain has_children taken (argument ∷ arguments) (h, hs) =
    AllByRecursion-append IsPlainArgument
    (cond (is_left_out taken argument) [] (argument ∷ []))
    (shown_positionals has_children (taken || takes_all has_children argument) arguments)
    (by_test (is_left_out taken argument))
    (shown_plain has_children (taken || takes_all has_children argument) arguments hs)
  where
    by_test : (b : Bool) → AllByRecursion IsPlainArgument (cond b [] (argument ∷ []))
    by_test true = tt
    by_test false = (h, tt)

-- all positionals of a node
pub positionals_add : (tree : Tree) → AllByRecursion IsPlainArgument tree.node.arguments →
    Adds (positionals_text tree) []
unfolding positionals_text
positionals_add tree h =
    adds_nothing IsPlainArgument (positional_text (has_nodes tree.children))
    (positional_adds (has_nodes tree.children))
    (shown_positionals (has_nodes tree.children) false (positionals tree.node))
    (shown_plain (has_nodes tree.children) false (positionals tree.node)
    (AllByRecursion-filter IsPlainArgument is_positional tree.node.arguments h))
