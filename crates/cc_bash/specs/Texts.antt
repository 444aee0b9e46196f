-- The fixed texts of a bash script.
use Rattle.std.specs.Prelude.{⊤, ℕ, List, ◌++◌, codes}

-- the text before the label of the root
unfoldable pub function_begins : List ℕ
function_begins = codes "_"

-- the text between that label and the line that sets the label
unfoldable pub function_head : List ℕ
function_head =
    codes "() {\n"
    ++ codes "    local i cur prev opts cmd\n"
    ++ codes "    COMPREPLY=()\n"
    ++ codes "    if [[ \"${BASH_VERSINFO[0]}\" -ge 4 ]]; then\n"
    ++ codes "        cur=\"$2\"\n"
    ++ codes "    else\n"
    ++ codes "        cur=\"${COMP_WORDS[COMP_CWORD]}\"\n"
    ++ codes "    fi\n"
    ++ codes "    prev=\"$3\"\n"
    ++ codes "    cmd=\"\"\n"
    ++ codes "    opts=\"\"\n"
    ++ codes "\n"
    ++ codes "    for i in \"${COMP_WORDS[@]:0:COMP_CWORD}\"\n"
    ++ codes "    do\n"
    ++ codes "        case \"${cmd},${i}\" in\n"
    ++ codes "            \",$1\")\n"
    ++ codes "                cmd=\""

-- the text between the root's label and the cases
unfoldable pub cases_begin : List ℕ
cases_begin = codes "\"\n                ;;"

-- the text between the cases and the arms
unfoldable pub arms_begin : List ℕ
arms_begin =
    codes "\n"
    ++ codes "            *)\n"
    ++ codes "                ;;\n"
    ++ codes "        esac\n"
    ++ codes "    done\n"
    ++ codes "\n"
    ++ codes "    case \"${cmd}\" in"

-- the text between the arms and the name of the function
unfoldable pub arms_end : List ℕ
arms_end =
    codes "\n"
    ++ codes "    esac\n"
    ++ codes "}\n"
    ++ codes "\n"
    ++ codes "if [[ \"${BASH_VERSINFO[0]}\" -eq 4 && \"${BASH_VERSINFO[1]}\" -ge 4 "
    ++ codes "|| \"${BASH_VERSINFO[0]}\" -gt 4 ]]; then\n"
    ++ codes "    complete -F _"

-- the text between the names of the function and of the program, if bash can keep an order
unfoldable pub unsorted_options : List ℕ
unsorted_options = codes " -o nosort -o bashdefault -o default "

-- the text between the name of the program and the second name of the function
unfoldable pub otherwise : List ℕ
otherwise = codes "\nelse\n    complete -F _"

-- the text between the names of the function and of the program, if bash cannot keep an order
unfoldable pub sorted_options : List ℕ
sorted_options = codes " -o bashdefault -o default "

-- the end of a script
unfoldable pub script_ends : List ℕ
script_ends = codes "\nfi\n"

-- the text before the first label of a case
unfoldable pub case_begins : List ℕ
case_begins = codes "\n            "

-- the text between the label and the word of a case
unfoldable pub case_comma : List ℕ
case_comma = codes ","

-- the text between the pattern of a case and the label that it sets
unfoldable pub case_sets : List ℕ
case_sets = codes ")\n                cmd=\""

-- the end of a case
unfoldable pub case_ends : List ℕ
case_ends = codes "\"\n                ;;"

-- the text before the label of an arm
unfoldable pub arm_begins : List ℕ
arm_begins = codes "\n        "

-- the text between the label of an arm and its words
unfoldable pub arm_words : List ℕ
arm_words = codes ")\n            opts=\""

-- the text between the words of an arm and its level
unfoldable pub arm_level : List ℕ
arm_level = codes "\"\n            if [[ ${cur} == -* || ${COMP_CWORD} -eq "

-- the text between the level of an arm and its details
unfoldable pub arm_details : List ℕ
arm_details =
    codes " ]] ; then\n"
    ++ codes "                COMPREPLY=( $(compgen -W \"${opts}\" -- \"${cur}\") )\n"
    ++ codes "                return 0\n"
    ++ codes "            fi\n"
    ++ codes "            case \"${prev}\" in"

-- the end of an arm
unfoldable pub arm_ends : List ℕ
arm_ends =
    codes "\n"
    ++ codes "                *)\n"
    ++ codes "                    COMPREPLY=()\n"
    ++ codes "                    ;;\n"
    ++ codes "            esac\n"
    ++ codes "            COMPREPLY=( $(compgen -W \"${opts}\" -- \"${cur}\") )\n"
    ++ codes "            return 0\n"
    ++ codes "            ;;"

-- the texts before and after the word of a detail
unfoldable pub detail_begins : List ℕ
detail_begins = codes "\n                "

unfoldable pub detail_word_ends : List ℕ
detail_word_ends = codes ")"

-- the text that keeps the separator of words before names of files are offered, and the text that
-- restores it
unfoldable pub keep_separator : List ℕ
keep_separator =
    codes "\n"
    ++ codes "                    local oldifs\n"
    ++ codes "                    if [ -n \"${IFS+x}\" ]; then\n"
    ++ codes "                        oldifs=\"$IFS\"\n"
    ++ codes "                    fi\n"
    ++ codes "                    IFS=$'\\n'"

unfoldable pub separator_back : List ℕ
separator_back =
    codes "\n"
    ++ codes "                    if [ -n \"${oldifs+x}\" ]; then\n"
    ++ codes "                        IFS=\"$oldifs\"\n"
    ++ codes "                    fi"

-- the texts before and after what is offered
unfoldable pub reply_begins : List ℕ
reply_begins = codes "\n                    COMPREPLY=("

unfoldable pub reply_ends : List ℕ
reply_ends = codes ")"

-- the texts before and after values that are offered
unfoldable pub values_begin : List ℕ
values_begin = codes "$(compgen -W \""

unfoldable pub values_end : List ℕ
values_end = codes "\" -- \"${cur}\")"

-- the text that offers files, and the text that offers the word as it is typed
unfoldable pub offer_files : List ℕ
offer_files = codes "$(compgen -f \"${cur}\")"

unfoldable pub offer_word : List ℕ
offer_word = codes "\"${cur}\""

-- the texts before and after a mode, which bash knows since version 4
unfoldable pub mode_begins : List ℕ
mode_begins =
    codes "\n"
    ++ codes "                    if [[ \"${BASH_VERSINFO[0]}\" -ge 4 ]]; then\n"
    ++ codes "                        compopt -o "

unfoldable pub mode_ends : List ℕ
mode_ends = codes "\n                    fi"

-- the end of a detail
unfoldable pub detail_ends : List ℕ
detail_ends = codes "\n                    return 0\n                    ;;"

-- unfolds each of these texts
unfoldable pub fixed_texts : ⊤
unfolding function_begins function_head cases_begin arms_begin arms_end unsorted_options otherwise sorted_options script_ends case_begins case_comma case_sets case_ends arm_begins arm_words arm_level arm_details arm_ends detail_begins detail_word_ends keep_separator separator_back reply_begins reply_ends values_begin values_end offer_files offer_word mode_begins mode_ends detail_ends
fixed_texts = tt
