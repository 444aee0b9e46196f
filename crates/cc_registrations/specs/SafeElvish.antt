-- The safe registration for Elvish, and the reading of its parts.
use Rattle.std.specs.Prelude.{⊤, ◌≡◌, ℕ, List, ◌++◌, Option, Some, map, option_map, codes}
use Rattle.std.specs.Option.{option_and_then}
use Rattle.cc_base.specs.Found.{after_mark, between, word_after}
use Rattle.cc_base.specs.Joined.{joined}
use Rattle.cc_quote.specs.ElvishQuote.{elvish_word_of}
use Rattle.cc_registrations.specs.Names.{before_space, elvish_quoted, ending_at, identifier, if_identifier, listed_by, quoted_by}

-- ---- the text

-- the text before the programs
unfoldable pub names_begin : List ℕ
names_begin = codes "for complgen-name ["

-- the text between the programs and the variable
unfoldable pub function_head : List ℕ
function_head =
    codes "] {\n"
    ++ codes "    set edit:completion:arg-completer[$complgen-name] = {|@words|\n"
    ++ codes "        use str\n"
    ++ codes "        fn request {|values|\n"
    ++ codes "            e:env "

-- the text between the variable and the completer
unfoldable pub call_begins : List ℕ
call_begins = codes "=elvish _COMPLGEN_VALUES=$values "

-- the text after the completer
unfoldable pub call_ends : List ℕ
call_ends =
    codes " -- $@words\n"
    ++ codes "        }\n"
    ++ codes "        # Asks for candidates; where complgen asks back, with what the words that it names print.\n"
    ++ codes "        var code = 0\n"
    ++ codes "        var reply = (try {\n"
    ++ codes "            request ask </dev/null\n"
    ++ codes "        } catch e {\n"
    ++ codes "            set code = (try { put $e[reason][exit-status] } catch { put 1 })\n"
    ++ codes "        } | slurp)\n"
    ++ codes "        if (== $code 0) {\n"
    ++ codes "            print $reply\n"
    ++ codes "        } elif (== $code 3) {\n"
    ++ codes "            var run = [(str:split \"\\v\" $reply)][..-1]\n"
    ++ codes "            try { e:env -- $@run </dev/null 2>/dev/null } catch { } | request stdin\n"
    ++ codes "        }\n"
    ++ codes "    }\n"
    ++ codes "}\n"

-- unfolds each fixed text
unfoldable pub fixed_texts : ⊤
unfolding names_begin function_head call_begins call_ends
fixed_texts = tt

-- the text before the completer
unfoldable pub registration_front : List ℕ → List (List ℕ) → List ℕ
registration_front variable bins =
    names_begin ++ joined (codes " ") (map elvish_quoted bins) ++ function_head ++ identifier variable
    ++ call_begins

-- the registration, which does not use the name
unfoldable pub safe_elvish : List ℕ → List ℕ → List (List ℕ) → List ℕ → List ℕ
safe_elvish variable name bins completer =
    registration_front variable bins ++ elvish_quoted completer ++ call_ends

-- ---- how it is read

-- the programs, which are quoted words after `[` and up to `]`, and the text after that
unfoldable pub safe_elvish_names : List ℕ → Option (List (List ℕ) × List ℕ)
safe_elvish_names text =
    option_and_then (ending_at (codes "]"))
    (option_and_then (listed_by (quoted_by elvish_word_of) (codes " ")) (after_mark (codes "[") text))

-- the programs
unfoldable pub safe_elvish_binaries : List ℕ → Option (List (List ℕ))
safe_elvish_binaries text = option_map (λ listed. listed.0) (safe_elvish_names text)

-- the function, which follows them
unfoldable pub safe_elvish_function : List ℕ → Option (List ℕ)
safe_elvish_function text = option_map (λ listed. listed.1) (safe_elvish_names text)

-- the variable: in the function, the identifier that `e:env` sets to `elvish`
unfoldable pub safe_elvish_variable : List ℕ → Option (List ℕ)
safe_elvish_variable text =
    option_and_then if_identifier
    (option_and_then (between (codes " e:env ") (codes "=elvish ")) (safe_elvish_function text))

-- the completer: in the function, the quoted word after the last variable that is set
unfoldable pub safe_elvish_completer : List ℕ → Option (List ℕ)
safe_elvish_completer text =
    option_and_then (word_after (before_space (quoted_by elvish_word_of)) (codes "=$values "))
    (safe_elvish_function text)

-- The registration reads back: the variable as an identifier, the programs and the completer
-- unchanged. This holds for any of them.
pub record SafeElvishReads (variable name : List ℕ) (bins : List (List ℕ)) (completer : List ℕ)
    : Type 0 where
  pub variable_read :
      safe_elvish_variable (safe_elvish variable name bins completer) ≡ Some (identifier variable)
  pub completer_read :
      safe_elvish_completer (safe_elvish variable name bins completer)
      ≡ Some completer
  pub binaries_read :
      safe_elvish_binaries (safe_elvish variable name bins completer)
      ≡ Some bins
