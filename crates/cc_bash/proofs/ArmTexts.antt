-- The parts of an arm, and of the details of an option, as they are written.
use Rattle.std.proofs.Common.{◌≡◌, ℕ, List, ◌++◌, map, flat_map, sym, ap, ◌∙◌, append_assoc}
use Rattle.std.proofs.lemmas.List.{map-append}
use Rattle.std.proofs.lemmas.List.Concat.{flat_map-append}
use Rattle.cc_arg.specs.declared.parts.ArgParts.{ArgParts as Arg}
use Rattle.cc_arg.specs.ShownNames.{shown_longs, shown_shorts}
use Rattle.cc_command.specs.ArgumentLists.{options}
use Rattle.cc_command.specs.Tree.{Tree}
use Rattle.cc_generator.specs.ArgumentNames.{long_word, short_word}
use Rattle.cc_bash.specs.Arms.{Arm, detail_of, details_at, option_details, words_at}
use Rattle.cc_bash.specs.Script.{arm_text, detail_text}
use Rattle.cc_bash.specs.Words.{words_text}
use Rattle.cc_bash.specs.Texts.{arm_begins, arm_words, arm_level, arm_details, arm_ends}

pub arm_parts : (label level : List ℕ) (tree : Tree) (written : List Arg) →
    written ≡ options tree.node →
    (((((arm_begins ++ label) ++ arm_words) ++ words_text (words_at tree))
    ++ ((arm_level ++ level) ++ arm_details))
    ++ flat_map detail_text (flat_map option_details written)) ++ arm_ends
    ≡ (let arm : Arm = record {
      label = label;
      level = level;
      words = words_at tree;
      details = details_at tree.node;
    } in arm_text arm)
unfolding arm_text details_at
arm_parts label level tree written same =
    rw same (regroup arm_begins label arm_words (words_text (words_at tree)) arm_level level
    arm_details (flat_map detail_text (flat_map option_details (options tree.node))) arm_ends)
  where
    regroup : (a b c d e f g h i : List ℕ) →
        (((((a ++ b) ++ c) ++ d) ++ ((e ++ f) ++ g)) ++ h) ++ i
        ≡ (((((((a ++ b) ++ c) ++ d) ++ e) ++ f) ++ g) ++ h) ++ i
    regroup a b c d e f g h i = simp append_assoc

-- the details of an option are the details of its longs, followed by the details of its shorts
pub option_parts : (argument : Arg) →
    flat_map detail_text (map (detail_of argument) (map long_word (shown_longs argument)))
    ++ flat_map detail_text (map (detail_of argument) (map short_word (shown_shorts argument)))
    ≡ flat_map detail_text (option_details argument)
option_parts argument =
    let longs = map long_word (shown_longs argument) in
    let shorts = map short_word (shown_shorts argument) in
    sym (flat_map-append detail_text (map (detail_of argument) longs)
    (map (detail_of argument) shorts))
    ∙ ap (flat_map detail_text) (sym (map-append (detail_of argument) longs shorts))
