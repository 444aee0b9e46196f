-- The lines of a node's options and flags add exactly these options.
use Rattle.std.proofs.Common.{◌≡◌, ℕ, Bool, true, false, cond, List, [], ◌∷◌, ◌++◌, flat_map, unwrap_or, codes, refl, sym, ◌∙◌, ap, subst, append_assoc}
use Rattle.std.specs.List.{AllByRecursion}
use Rattle.std.specs.Option.{option_to_list}
use Rattle.cc_base.specs.Bytes.{single_quote}
use Rattle.cc_arg.specs.declared.parts.ArgParts.{ArgParts as Arg}
use Rattle.cc_arg.specs.declared.names.ShownName.{ShownName}
use Rattle.cc_arg.specs.declared.names.ShownName.TheVariants.{Short, Long}
use Rattle.cc_arg.specs.Arguments.{takes_values}
use Rattle.cc_arg.specs.ShownNames.{shown_names}
use Rattle.cc_command.specs.declared.node.Node.{Node}
use Rattle.cc_command.specs.ArgumentLists.{options, flags}
use Rattle.cc_command.proofs.PlainParts.{IsPlainArgument, IsPlainNode}
use Rattle.cc_quote.specs.QuotedWord.{line_feeds_as_spaces}
use Rattle.cc_quote.specs.Escapes.{marked}
use Rattle.cc_quote.specs.ZshQuote.{is_help_marked, zsh_escaped_help}
use Rattle.cc_quote.proofs.ZshWords.{help_composed}
use Rattle.cc_zsh.specs.Conflicts.{conflicts_of, conflict_words, has_arguments}
use Rattle.cc_zsh.specs.Options.{is_repeated, repeated_text, help_text, line_end, name_word, argument_line, argument_text, options_text, flags_text, value_sign}
use Rattle.cc_zsh.specs.Values.{values_text}
use Rattle.cc_zsh.specs.Reader.{Bracket}
use Rattle.cc_zsh.specs.Reader.Bracket.{alone, after_plus, after_equals}
use Rattle.cc_zsh.specs.Table.{argument_rows, bracket_after, option_row, node_rows}
use Rattle.cc_zsh.proofs.Cutting.{Escapes, escapes_append, escapes_same, IsEscaped}
use Rattle.cc_zsh.proofs.OptionWords.{IsDashed, dashed_bytes, IsFront, bracket_text, front_of, star_of, option_word, option_read}
use Rattle.cc_zsh.proofs.LinesRead.{Adds, adds_append, adds_flat_map, adds_map, line_adds}
use Rattle.cc_zsh.proofs.PlainNames.{IsDashedName, names_dashed, conflicting_dashed, conflicts_front, conflicts_are, name_no_quote, front_no_quote}
use Rattle.cc_zsh.proofs.EscapedValues.{escaped_values}

star_escapes : (repeated : Bool) → Escapes (star_of repeated) (star_of repeated)
star_escapes true = escapes_same (codes "*") (refl, tt)
star_escapes false = escapes_same [] tt

bracket_escapes : (bracket : Bracket) → Escapes (bracket_text bracket) (bracket_text bracket)
bracket_escapes alone = escapes_same [] tt
bracket_escapes after_plus = escapes_same (codes "+") (refl, tt)
bracket_escapes after_equals = escapes_same (codes "=") (refl, tt)

bracket_where : (bracket : Bracket) (b : Bool) →
    cond b (bracket_text bracket) [] ≡ bracket_text (cond b bracket alone)
bracket_where bracket true = refl
bracket_where bracket false = refl

-- the text between the quotes of an option's line
word_escapes : (has_front : Bool) (words : List (List ℕ)) (repeated : Bool) (name : List ℕ)
    (bracket : Bracket) (help values : List ℕ) (v : IsEscaped values) → IsFront has_front words →
    IsDashed name →
    Escapes (option_word has_front words repeated name bracket (zsh_escaped_help help) values)
    (option_word has_front words repeated name bracket
    (marked is_help_marked (line_feeds_as_spaces help)) v.word)
word_escapes has_front words repeated name bracket help values v front dashed =
    escapes_append (front_of has_front words) _ (front_of has_front words) _
    (escapes_same (front_of has_front words) (front_no_quote has_front words front))
    (escapes_append (star_of repeated) _ (star_of repeated) _ (star_escapes repeated)
    (escapes_append name _ name _ (escapes_same name (name_no_quote name (dashed_bytes name dashed)))
    (escapes_append (bracket_text bracket) _ (bracket_text bracket) _ (bracket_escapes bracket)
    (escapes_append (codes "[") _ (codes "[") _ (escapes_same (codes "[") (refl, tt))
    (escapes_append (zsh_escaped_help help) _ (marked is_help_marked (line_feeds_as_spaces help)) _
    (record { is = help_composed help })
    (escapes_append (codes "]") values (codes "]") v.word (escapes_same (codes "]") (refl, tt))
    v.escapes))))))

module _ (above node : Node) (above_plain : AllByRecursion IsPlainArgument above.arguments)
    (plain : AllByRecursion IsPlainArgument node.arguments) (argument : Arg)
    (is : IsPlainArgument argument) where
  abbrev words : List (List ℕ)
  words = conflict_words (conflicts_of above node argument)

  abbrev has_front : Bool
  has_front = has_arguments (conflicts_of above node argument)

  front : IsFront has_front words
  front = conflicts_are (conflicts_of above node argument)
      (conflicting_dashed above node argument above_plain plain)

  abbrev help : List ℕ
  help = unwrap_or argument.help []

  -- a line under one name
  line_of : (name : List ℕ) (bracket : Bracket) (values : List ℕ) → IsEscaped values →
      IsDashed name →
      Adds (single_quote ∷ (option_word has_front words (is_repeated argument) name bracket
      (zsh_escaped_help help) values ++ line_end))
      (option_row above node argument bracket name ∷ [])
  line_of name bracket values v dashed =
      line_adds _ _ (option_row above node argument bracket name ∷ [])
      (word_escapes has_front words (is_repeated argument) name bracket help values v front dashed)
      (ap option_to_list (option_read has_front words (is_repeated argument) name bracket
      (line_feeds_as_spaces help) v.word front dashed))

  sign_is : (name : ShownName) → value_sign argument name ≡ bracket_text (bracket_after argument name)
  sign_is (Short short) = bracket_where after_plus (takes_values argument)
  sign_is (Long long) = bracket_where after_equals (takes_values argument)

  abbrev line : List ℕ → List ℕ → List ℕ → List ℕ → List ℕ
  line front repeated name sign =
      ((((((codes "'" ++ front) ++ repeated) ++ name) ++ sign)
      ++ ((codes "[" ++ zsh_escaped_help help) ++ codes "]")) ++ values_text argument) ++ line_end

  regroup : (q conf rep name br ob helps cb values end : List ℕ) →
      ((((((q ++ conf) ++ rep) ++ name) ++ br) ++ ((ob ++ helps) ++ cb)) ++ values) ++ end
      ≡ q ++ ((conf ++ (rep ++ (name ++ (br ++ (ob ++ (helps ++ (cb ++ values))))))) ++ end)
  regroup q conf rep name br ob helps cb values end = simp append_assoc

  -- a line under one name adds an option
  adds_one : (name : List ℕ) (bracket : Bracket) → IsDashed name →
      Adds (line (front_of has_front words) (star_of (is_repeated argument)) name
      (bracket_text bracket)) (option_row above node argument bracket name ∷ [])
  adds_one name bracket dashed =
      subst (λ t. Adds t (option_row above node argument bracket name ∷ []))
      (sym (regroup (codes "'") (front_of has_front words) (star_of (is_repeated argument)) name
      (bracket_text bracket) (codes "[") (zsh_escaped_help help) (codes "]")
      (values_text argument) line_end))
      (line_of name bracket (values_text argument) (escaped_values argument is.value_names) dashed)

  line_is : (name : ShownName) → argument_line above node argument name
      ≡ line (front_of has_front words) (star_of (is_repeated argument)) (name_word name)
      (bracket_text (bracket_after argument name))
  unfolding argument_line help_text
  line_is name =
      ap (λ t. line t (repeated_text argument) (name_word name) (value_sign argument name))
      (conflicts_front (conflicts_of above node argument))
      ∙ ap (line (front_of has_front words) (star_of (is_repeated argument)) (name_word name))
      (sign_is name)

  name_adds : (name : ShownName) → IsDashedName name → Adds (argument_line above node argument name)
      (option_row above node argument (bracket_after argument name) (name_word name) ∷ [])
  name_adds name dashed =
      subst (λ t. Adds t
      (option_row above node argument (bracket_after argument name) (name_word name) ∷ []))
      (sym (line_is name))
      (adds_one (name_word name) (bracket_after argument name) dashed)

  argument_adds : Adds (argument_text above node argument) (argument_rows above node argument)
  unfolding argument_text
  argument_adds = adds_map IsDashedName (argument_line above node argument)
      (λ name. option_row above node argument (bracket_after argument name) (name_word name))
      name_adds (shown_names argument) (names_dashed argument is)

-- all options and flags of a node
pub node_adds : (above node : Node) → AllByRecursion IsPlainArgument above.arguments →
    IsPlainNode node →
    Adds (options_text above node ++ flags_text above node) (node_rows above node)
unfolding options_text flags_text
node_adds above node above_plain is = adds_append (options_text above node) (flags_text above node)
    (flat_map (argument_rows above node) (options node)) (flat_map (argument_rows above node) (flags node))
    (adds (options node) is.options) (adds (flags node) is.flags)
  where
    adds : (arguments : List Arg) → AllByRecursion IsPlainArgument arguments →
        Adds (flat_map (argument_text above node) arguments) (flat_map (argument_rows above node) arguments)
    adds arguments = adds_flat_map IsPlainArgument (argument_text above node) (argument_rows above node)
        (argument_adds above node above_plain is.arguments) arguments
