-- The safe registration for bash, and the reading of its parts.
use Rattle.std.specs.Prelude.{⊤, ℕ, List, ◌++◌, codes}
use Rattle.cc_registrations.specs.PlainWords.{posix_plain_word}
use Rattle.cc_registrations.specs.SafeText.{ReadsSafely, SafeMarks, safe_text}
use Rattle.cc_registrations.specs.declared.safe_text.SafeFrame.{SafeFrame}
use Rattle.cc_registrations.specs.declared.words.Quoting.TheVariants.{Posix}

-- ---- the text

-- the text between the name of the function and the variable
unfoldable pub function_head : List ℕ
function_head =
    codes "() {\n"
    ++ codes "    COMPREPLY=()\n"
    ++ codes "    # bash would change a value under `set -k`, if another sign than `!` stands for the history, and\n"
    ++ codes "    # after a line feed, which may begin a here-document.\n"
    ++ codes "    [[ $- != *k* && ($- != *H* || ${histchars-!} == !*) && $COMP_LINE != *$'\\n'* ]] || return\n"
    ++ codes "    local ascii code home='~/' index keeps kept open plain quote reply run=(:) sign values word words=()\n"
    ++ codes "    local glob=$- IFS=$'\\n' line=${COMP_LINE:0:COMP_POINT} width=''\n"
    ++ codes "    # Only ASCII is safe where two bytes can be a letter that UTF-8 does not have: the second may be\n"
    ++ codes "    # the backslash that escapes.\n"
    ++ codes "    ascii=$'\\x80\\\\\\x81\\\\\\x82\\\\\\x83\\\\\\x84\\\\\\x85\\\\\\x86\\\\\\x87\\\\\\x88\\\\\\x89\\\\\\x8a\\\\\\x8b\\\\\\x8c\\\\\\x8d\\\\\\x8e\\\\\\x8f\\\\'\n"
    ++ codes "    ascii+=$'\\x90\\\\\\x91\\\\\\x92\\\\\\x93\\\\\\x94\\\\\\x95\\\\\\x96\\\\\\x97\\\\\\x98\\\\\\x99\\\\\\x9a\\\\\\x9b\\\\\\x9c\\\\\\x9d\\\\\\x9e\\\\\\x9f\\\\'\n"
    ++ codes "    ascii+=$'\\xa0\\\\\\xa1\\\\\\xa2\\\\\\xa3\\\\\\xa4\\\\\\xa5\\\\\\xa6\\\\\\xa7\\\\\\xa8\\\\\\xa9\\\\\\xaa\\\\\\xab\\\\\\xac\\\\\\xad\\\\\\xae\\\\\\xaf\\\\'\n"
    ++ codes "    ascii+=$'\\xb0\\\\\\xb1\\\\\\xb2\\\\\\xb3\\\\\\xb4\\\\\\xb5\\\\\\xb6\\\\\\xb7\\\\\\xb8\\\\\\xb9\\\\\\xba\\\\\\xbb\\\\\\xbc\\\\\\xbd\\\\\\xbe\\\\\\xbf\\\\'\n"
    ++ codes "    ascii+=$'\\xc0\\\\\\xc1\\\\\\xc2\\\\\\xc3\\\\\\xc4\\\\\\xc5\\\\\\xc6\\\\\\xc7\\\\\\xc8\\\\\\xc9\\\\\\xca\\\\\\xcb\\\\\\xcc\\\\\\xcd\\\\\\xce\\\\\\xcf\\\\'\n"
    ++ codes "    ascii+=$'\\xd0\\\\\\xd1\\\\\\xd2\\\\\\xd3\\\\\\xd4\\\\\\xd5\\\\\\xd6\\\\\\xd7\\\\\\xd8\\\\\\xd9\\\\\\xda\\\\\\xdb\\\\\\xdc\\\\\\xdd\\\\\\xde\\\\\\xdf\\\\'\n"
    ++ codes "    ascii+=$'\\xe0\\\\\\xe1\\\\\\xe2\\\\\\xe3\\\\\\xe4\\\\\\xe5\\\\\\xe6\\\\\\xe7\\\\\\xe8\\\\\\xe9\\\\\\xea\\\\\\xeb\\\\\\xec\\\\\\xed\\\\\\xee\\\\\\xef\\\\'\n"
    ++ codes "    ascii+=$'\\xf0\\\\\\xf1\\\\\\xf2\\\\\\xf3\\\\\\xf4\\\\\\xf5\\\\\\xf6\\\\\\xf7\\\\\\xf8\\\\\\xf9\\\\\\xfa\\\\\\xfb\\\\\\xfc\\\\\\xfd\\\\\\xfe\\\\\\xff\\\\\\xc4\\xc4'\n"
    ++ codes "    [[ ${#ascii} == 258 ]] && ascii='' || ascii=1\n"
    ++ codes "    compopt -o nosort 2>/dev/null\n"
    ++ codes "    # The words up to the cursor. bash cuts them at `:`, `=` and `@` too, not only at blanks.\n"
    ++ codes "    for word in \"${COMP_WORDS[@]:0:COMP_CWORD+1}\"; do\n"
    ++ codes "        if [[ ${#words[@]} == 0 || $line == [[:space:]]* ||\n"
    ++ codes "            $line != \"$word\"* && $word != \"$line\"* ]]; then\n"
    ++ codes "            words+=('')\n"
    ++ codes "            line=${line#\"${line%%[![:space:]]*}\"}\n"
    ++ codes "        fi\n"
    ++ codes "        [[ $word != \"$line\"* ]] || word=$line\n"
    ++ codes "        words[${#words[@]}-1]+=$word\n"
    ++ codes "        line=${line#\"$word\"}\n"
    ++ codes "    done\n"
    ++ codes "    # Without their quotes. bash replaces `$2`, and keeps what is before it: maybe an open quote.\n"
    ++ codes "    # Nothing is offered if it would expand that.\n"
    ++ codes "    for index in \"${!words[@]}\"; do\n"
    ++ codes "        line=${words[index]} word='' kept='' quote='' open='' plain=1 keeps=''\n"
    ++ codes "        while [[ ${#line} != \"${#2}\" ]] || kept=$word quote=$open keeps=$plain; [[ -n $line ]]; do\n"
    ++ codes "            sign=${line:0:1} line=${line:1}\n"
    ++ codes "            case $open$sign in\n"
    ++ codes "                \\' | \\\") open=$sign ;;\n"
    ++ codes "                \\'\\' | \\\"\\\") open='' ;;\n"
    ++ codes "                \\\\ | \\\"\\\\)\n"
    ++ codes "                    [[ -n $open && $line != [\\\"\\$\\`\\\\]* ]] || sign=${line:0:1} line=${line:1}\n"
    ++ codes "                    word+=$sign\n"
    ++ codes "                    ;;\n"
    ++ codes "                []\\!\\#\\$\\&\\(\\)\\*\\;\\<\\>\\?\\[\\^\\`\\{\\|\\}\\~] | \\\"[\\$\\`\\!])\n"
    ++ codes "                    [[ -z $word && $sign$line == \"$home\"* ]] || plain=''\n"
    ++ codes "                    word+=$sign\n"
    ++ codes "                    ;;\n"
    ++ codes "                *) word+=$sign ;;\n"
    ++ codes "            esac\n"
    ++ codes "        done\n"
    ++ codes "        words[index]=$word\n"
    ++ codes "    done\n"
    ++ codes "    [[ -n $keeps ]] || return\n"
    ++ codes "    # bash inserts nothing when it only lists, so descriptions may follow the words there, unless a\n"
    ++ codes "    # byte of their letters could be a control character.\n"
    ++ codes "    [[ ${COMP_TYPE-} != 63 || ${COMPLGEN_DESCRIPTIONS-} == 0 || $'\\x9b' == [[:cntrl:]] ]] ||\n"
    ++ codes "        width=${COLUMNS-}\n"
    ++ codes "    # Asks for candidates, written as the line takes them; where complgen asks back, with what the\n"
    ++ codes "    # words that it names print.\n"
    ++ codes "    for values in ask stdin; do\n"
    ++ codes "        reply=$({ \"${run[@]}\" || :; } </dev/null 2>/dev/null | \\\n"
    ++ codes "            "

-- the text between the variable and the completer
unfoldable pub call_begins : List ℕ
call_begins =
    codes "=bash \\\n"
    ++ codes "            _COMPLGEN_VALUES=$values \\\n"
    ++ codes "            _COMPLGEN_SPACE=1 \\\n"
    ++ codes "            _COMPLGEN_WIDTH=$width \\\n"
    ++ codes "            _COMPLGEN_KEPT=$kept \\\n"
    ++ codes "            _COMPLGEN_QUOTE=$quote \\\n"
    ++ codes "            _COMPLGEN_ASCII=$ascii \\\n"
    ++ codes "            "

-- the text after the completer
unfoldable pub call_ends : List ℕ
call_ends =
    codes " -- \"${words[@]}\") && code=0 || code=$?\n"
    ++ codes "        [[ $code == 3 ]] || break\n"
    ++ codes "        run=(command env --)\n"
    ++ codes "        while [[ $reply == *$'\\v'* ]]; do\n"
    ++ codes "            run+=(\"${reply%%$'\\v'*}\")\n"
    ++ codes "            reply=${reply#*$'\\v'}\n"
    ++ codes "        done\n"
    ++ codes "    done\n"
    ++ codes "    [[ $code == [04] ]] || return\n"
    ++ codes "    # Its lines, of which none is a pattern.\n"
    ++ codes "    set -f\n"
    ++ codes "    COMPREPLY=($reply)\n"
    ++ codes "    [[ $glob == *f* ]] || set +f\n"
    ++ codes "    # bash closes no quote after a `\"`, not even after one that is part of the value.\n"
    ++ codes "    [[ $quote != \\\" ]] || COMPREPLY=(\"${COMPREPLY[@]/%\\\"/\\\"\\\"}\")\n"
    ++ codes "    # `~/` leads home only where it was typed.\n"
    ++ codes "    [[ $2 == \"$home\"* || -n $kept$quote || $'\\n'$reply != *$'\\n'\"$home\"* ]] ||\n"
    ++ codes "        COMPREPLY=(\"${COMPREPLY[@]/#$home/\\\\$home}\")\n"
    ++ codes "    # After status 4, the value may be only the beginning of a word.\n"
    ++ codes "    [[ $code == 4 || ${COMPREPLY-} =~ [=/:]$ ]] || compopt +o nospace 2>/dev/null\n"
    ++ codes "}\n"

-- unfolds each of these texts
unfoldable pub fixed_texts : ⊤
unfolding function_head call_begins call_ends
fixed_texts = tt

unfoldable pub bash_frame : SafeFrame
bash_frame = record {
  quoting = Posix;
  names_begin = codes "complete -o nospace -o bashdefault -F _complgen_";
  names_follow = codes " -- ";
  names_between = codes " ";
  function_begins = codes "_complgen_";
  function_head = function_head;
  call_begins = call_begins;
  call_ends = call_ends;
}

-- the registration
abbrev pub safe_bash : List ℕ → List ℕ → List (List ℕ) → List ℕ → List ℕ
safe_bash variable name bins completer = safe_text bash_frame variable name bins completer

-- ---- how it is read

-- Each is the first of its kind: the marks of the variable and the completer in the function.
unfoldable pub bash_marks : SafeMarks
bash_marks = record {
  name_begins = codes " _complgen_";
  name_ends = codes " ";
  names_begin = codes " -- ";
  names_between = codes " ";
  variable_begins = codes " | \\\n            ";
  variable_ends = codes "=bash \\\n";
  completer_begins = codes "=$ascii \\\n            ";
  word_of = posix_plain_word;
}

abbrev pub SafeBashReads : List ℕ → List ℕ → List (List ℕ) → List ℕ → Type 0
SafeBashReads variable name bins completer =
    ReadsSafely bash_marks (safe_bash variable name bins completer) variable name bins completer
