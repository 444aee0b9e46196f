-- The safe registration for zsh, and the reading of its parts.
use Rattle.std.specs.Prelude.{⊤, ℕ, List, ◌++◌, codes}
use Rattle.cc_registrations.specs.PlainWords.{posix_plain_word}
use Rattle.cc_registrations.specs.SafeText.{ReadsSafely, SafeMarks, safe_text}
use Rattle.cc_registrations.specs.declared.safe_text.SafeFrame.{SafeFrame}
use Rattle.cc_registrations.specs.declared.words.Quoting.TheVariants.{Posix}

-- ---- the text

-- the text between the name of the function and the variable
unfoldable pub function_head : List ℕ
function_head =
    codes "() {\n"
    ++ codes "    local values reply code completion value home quote=$compstate[quote] found=1\n"
    ++ codes "    local ascii=$'\\xc3\\xa9\\xe2\\x82\\xac\\xf0\\x9f\\x98\\x80' text=$PREBUFFER$LBUFFER\n"
    ++ codes "    # zsh does not tell a function that the word is in a here-document, or behind a backtick and a\n"
    ++ codes "    # quote. `histchars` may name a sign that begins a comment.\n"
    ++ codes "    [[ $text != *'<<'*$'\\n'* && ${text//\\\\?/} != *\\`* && $histchars == ??\\# ]] || return\n"
    ++ codes "    # These are three letters in UTF-8 alone. Elsewhere, zsh takes only ASCII as it is.\n"
    ++ codes "    [[ ${#ascii} == 3 ]] && ascii='' || ascii=1\n"
    ++ codes "    # Items of folders: what is before the first `:` without a backslash ends in `/`.\n"
    ++ codes "    local folder='(\\\\?|[^\\\\:])#/(|:*)'\n"
    ++ codes "    # The words up to the cursor, without the quotes that they were typed with.\n"
    ++ codes "    local -a typed=(\"${(@Q)words[1,CURRENT-1]}\" \"${(Q):-$quote$PREFIX${quote#$}}\")\n"
    ++ codes "    local -a run=(:) items=() dirs=() other=() ends=()\n"
    ++ codes "    # Asks for candidates; where complgen asks back, with what the words that it names print.\n"
    ++ codes "    for values in ask stdin; do\n"
    ++ codes "        reply=$({ \"${run[@]}\" || : } </dev/null 2>/dev/null | \\\n"
    ++ codes "            "

-- the text between the variable and the completer
unfoldable pub call_begins : List ℕ
call_begins =
    codes "=zsh \\\n"
    ++ codes "            _COMPLGEN_VALUES=$values \\\n"
    ++ codes "            _COMPLGEN_SPACE=1 \\\n"
    ++ codes "            _COMPLGEN_ASCII=$ascii \\\n"
    ++ codes "            "

-- the text after the completer
unfoldable pub call_ends : List ℕ
call_ends =
    codes " -- \"${typed[@]}\" 2>/dev/null) && code=0 || code=$?\n"
    ++ codes "        [[ $code == 3 ]] || break\n"
    ++ codes "        run=(command env -- \"${(@ps:\\v:)${reply%$'\\v'}}\")\n"
    ++ codes "    done\n"
    ++ codes "    [[ $code == [04] && -n $reply ]] || return\n"
    ++ codes "    # After status 4, the value may be only the beginning of a word.\n"
    ++ codes "    [[ $code == 4 ]] && ends=(-S '')\n"
    ++ codes "    # `~/` leads home only where it was typed, and so stays as it is.\n"
    ++ codes "    [[ -z $quote && $PREFIX == \\~/* ]] && compset -P '\\~/' && home='~/'\n"
    ++ codes "    items=(\"${(@)${(@f)reply}#$home}\")\n"
    ++ codes "    # In an open `\"` zsh itself would expand `$'..'` at the next Tab.\n"
    ++ codes "    [[ $quote != \\\" ]] || items=(\"${(@)items:#*\\$\\'*}\")\n"
    ++ codes "    other=(\"${(@)items:#$~folder}\")\n"
    ++ codes "    for completion in \"${(@M)items:#$~folder}\"; do\n"
    ++ codes "        value=${completion//\\\\?/..}\n"
    ++ codes "        value=${#value%%:*}\n"
    ++ codes "        dirs+=(\"$completion[1,value-1]$completion[value+1,-1]\")\n"
    ++ codes "    done\n"
    ++ codes "    [[ -n $dirs ]] && _describe -V 'values' dirs -S '/' -r '/' && found=0\n"
    ++ codes "    [[ -n $other ]] && _describe -V 'values' other \"${ends[@]}\" && found=0\n"
    ++ codes "    return found\n"
    ++ codes "}\n"

-- unfolds each of these texts
unfoldable pub fixed_texts : ⊤
unfolding function_head call_begins call_ends
fixed_texts = tt

unfoldable pub zsh_frame : SafeFrame
zsh_frame = record {
  quoting = Posix;
  names_begin = codes "compdef _complgen_";
  names_follow = codes " ";
  names_between = codes " ";
  function_begins = codes "_complgen_";
  function_head = function_head;
  call_begins = call_begins;
  call_ends = call_ends;
}

-- the registration
abbrev pub safe_zsh : List ℕ → List ℕ → List (List ℕ) → List ℕ → List ℕ
safe_zsh variable name bins completer = safe_text zsh_frame variable name bins completer

-- ---- how it is read

-- Each is the first of its kind: the marks of the variable and the completer in the function.
unfoldable pub zsh_marks : SafeMarks
zsh_marks = record {
  name_begins = codes " _complgen_";
  name_ends = codes " ";
  names_begin = codes " ";
  names_between = codes " ";
  variable_begins = codes " | \\\n            ";
  variable_ends = codes "=zsh \\\n";
  completer_begins = codes "=$ascii \\\n            ";
  word_of = posix_plain_word;
}

abbrev pub SafeZshReads : List ℕ → List ℕ → List (List ℕ) → List ℕ → Type 0
SafeZshReads variable name bins completer =
    ReadsSafely zsh_marks (safe_zsh variable name bins completer) variable name bins completer
