-- The text of a bash script.
use Rattle.std.specs.Prelude.{ℕ, List, [], ◌++◌, codes, flat_map, Option, Some, None}
use Rattle.cc_command.specs.Tree.{Tree}
use Rattle.cc_command.specs.Names.{full_name}
use Rattle.cc_bash.specs.Labels.{root_label}
use Rattle.cc_bash.specs.CaseTable.{Case, tree_cases}
use Rattle.cc_bash.specs.Arms.{Offered, values, files, typed, nothing, Mode, filenames, plusdirs, nospace, Detail, Arm, tree_arms}
use Rattle.cc_bash.specs.Words.{words_text}
use Rattle.cc_bash.specs.Texts.{function_begins, function_head, cases_begin, arms_begin, arms_end, unsorted_options, otherwise, sorted_options, script_ends, case_begins, case_comma, case_sets, case_ends, arm_begins, arm_words, arm_level, arm_details, arm_ends, detail_begins, detail_word_ends, keep_separator, separator_back, reply_begins, reply_ends, values_begin, values_end, offer_files, offer_word, mode_begins, mode_ends, detail_ends}

-- a case: the label and the word, then the label that it sets
unfoldable pub case_text : Case → List ℕ
case_text c =
    case_begins ++ c.from ++ case_comma ++ c.word ++ case_sets ++ c.to ++ case_ends

-- the text that offers values, files, the typed word or nothing
unfoldable pub offered_text : Offered → List ℕ
offered_text (values names) = values_begin ++ words_text names ++ values_end
offered_text files = offer_files
offered_text typed = offer_word
offered_text nothing = []

unfoldable pub reply_text : Offered → List ℕ
reply_text offered = reply_begins ++ offered_text offered ++ reply_ends

-- the word of a mode, and the text that sets the mode
unfoldable pub mode_word : Mode → List ℕ
mode_word filenames = codes "filenames"
mode_word plusdirs = codes "plusdirs"
mode_word nospace = codes "nospace"

unfoldable pub mode_text : Mode → List ℕ
unfolding mode_word
mode_text mode = mode_begins ++ mode_word mode ++ mode_ends

-- the reply of a detail with its mode; for names of files the separator of words is a line feed
unfoldable pub moded_text : Option Mode → Offered → List ℕ
unfolding mode_text
moded_text None offered = reply_text offered
moded_text (Some filenames) offered =
    keep_separator ++ reply_text offered ++ separator_back ++ mode_text filenames
moded_text (Some mode) offered = reply_text offered ++ mode_text mode

-- the word of a detail as a pattern, then the reply
unfoldable pub detail_text : Detail → List ℕ
detail_text detail =
    detail_begins ++ detail.word ++ detail_word_ends ++ moded_text detail.mode detail.offered
    ++ detail_ends

-- the label of an arm, its words, its level and its details
unfoldable pub arm_text : Arm → List ℕ
arm_text arm =
    arm_begins ++ arm.label ++ arm_words ++ words_text arm.words ++ arm_level ++ arm.level
    ++ arm_details ++ flat_map detail_text arm.details ++ arm_ends

-- the text before the cases, for the function with the given label
unfoldable pub head_text : List ℕ → List ℕ
head_text label = function_begins ++ label ++ function_head ++ label ++ cases_begin

-- the text after the arms, for the function with the given label and a program called `bin`
unfoldable pub tail_text : List ℕ → List ℕ → List ℕ
tail_text label bin =
    arms_end ++ label ++ unsorted_options ++ bin ++ otherwise ++ label ++ sorted_options ++ bin
    ++ script_ends

-- a script with the given cases and arms
unfoldable pub script_text : List ℕ → List ℕ → List Case → List Arm → List ℕ
script_text label bin cases arms =
    head_text label ++ flat_map case_text cases ++ arms_begin ++ flat_map arm_text arms
    ++ tail_text label bin

-- the script of a tree
unfoldable pub bash_script : Tree → List ℕ
bash_script tree =
    script_text (root_label tree) (full_name tree.node) (tree_cases tree) (tree_arms tree)
