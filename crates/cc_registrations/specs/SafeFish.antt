-- The safe registration for fish, and the reading of its parts.
use Rattle.std.specs.Prelude.{⊤, ℕ, List, ◌++◌, codes}
use Rattle.cc_registrations.specs.PlainWords.{fish_plain_word}
use Rattle.cc_registrations.specs.SafeText.{ReadsSafely, SafeMarks, safe_text}
use Rattle.cc_registrations.specs.declared.safe_text.SafeFrame.{SafeFrame}
use Rattle.cc_registrations.specs.declared.words.Quoting.TheVariants.{Fish}

-- ---- the text

-- the text between the name of the function and the variable
unfoldable pub function_head : List ℕ
function_head =
    codes "\n"
    ++ codes "    # The words up to the cursor, without the quotes that they were typed with.\n"
    ++ codes "    set -l words (commandline --current-process --tokenize --cut-at-cursor)\n"
    ++ codes "    set -l word (commandline --current-token --cut-at-cursor)\n"
    ++ codes "    set -l last (string unescape -- $word; or echo)\n"
    ++ codes "    set -a words $last\n"
    ++ codes "    # fish prints one word per line. Nothing is offered if one has a line feed, which makes it two.\n"
    ++ codes "    test (count $word $last) -eq 2\n"
    ++ codes "    and commandline --current-process --cut-at-cursor | read --null --list --tokenize --local typed\n"
    ++ codes "    and not string match --quiet --regex '\\n' -- $typed[1..-2]\n"
    ++ codes "    or return\n"
    ++ codes "    # Asks for candidates; where complgen asks back, with what the words that it names print.\n"
    ++ codes "    set -l run true\n"
    ++ codes "    set -l code\n"
    ++ codes "    for values in ask stdin\n"
    ++ codes "        set -l reply ($run </dev/null 2>/dev/null | \\\n"
    ++ codes "            "

-- the text between the variable and the completer
unfoldable pub call_begins : List ℕ
call_begins = codes "=fish _COMPLGEN_VALUES=$values "

-- the text after the completer
unfoldable pub call_ends : List ℕ
call_ends =
    codes " -- $words | string collect\n"
    ++ codes "            set code $pipestatus[2])\n"
    ++ codes "        if test $code -ne 3\n"
    ++ codes "            # `~/` leads home only where it was typed.\n"
    ++ codes "            string match --quiet '~/*' -- \"$word\"\n"
    ++ codes "            or not string match --quiet --regex '(?m)^~' -- \"$reply\"\n"
    ++ codes "            or set reply (string split \\n -- $reply | string match --invert '~*' | string collect)\n"
    ++ codes "            test -z \"$reply\"\n"
    ++ codes "            or printf '%s\\n' $reply\n"
    ++ codes "            return\n"
    ++ codes "        end\n"
    ++ codes "        set run (command --search env) -- (string split \\v -- $reply)\n"
    ++ codes "        set -e run[-1]\n"
    ++ codes "    end\n"
    ++ codes "end\n"

-- unfolds each of these texts
unfoldable pub fixed_texts : ⊤
unfolding function_head call_begins call_ends
fixed_texts = tt

unfoldable pub fish_frame : SafeFrame
fish_frame = record {
  quoting = Fish;
  names_begin = codes "complete --keep-order --exclusive --arguments \"(__complgen_";
  names_follow = codes ")\" --command ";
  names_between = codes " --command ";
  function_begins = codes "function __complgen_";
  function_head = function_head;
  call_begins = call_begins;
  call_ends = call_ends;
}

-- the registration
abbrev pub safe_fish : List ℕ → List ℕ → List (List ℕ) → List ℕ → List ℕ
safe_fish variable name bins completer = safe_text fish_frame variable name bins completer

-- ---- how it is read

-- Each is the first of its kind: the marks of the variable and the completer in the function.
unfoldable pub fish_marks : SafeMarks
fish_marks = record {
  name_begins = codes "(__complgen_";
  name_ends = codes ")";
  names_begin = codes " --command ";
  names_between = codes " --command ";
  variable_begins = codes " | \\\n            ";
  variable_ends = codes "=fish ";
  completer_begins = codes "=$values ";
  word_of = fish_plain_word;
}

abbrev pub SafeFishReads : List ℕ → List ℕ → List (List ℕ) → List ℕ → Type 0
SafeFishReads variable name bins completer =
    ReadsSafely fish_marks (safe_fish variable name bins completer) variable name bins completer
