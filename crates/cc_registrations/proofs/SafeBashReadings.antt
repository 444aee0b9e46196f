-- A safe registration for bash reads back.
use Rattle.std.proofs.Common.{ℕ, List, [], ◌++◌, drop, codes, refl, ◌∙◌}
use Rattle.cc_base.specs.Bytes.{equals, space}
use Rattle.cc_base.specs.Found.{after, after_mark, cut_at, up_to, with_front}
use Rattle.cc_registrations.specs.Names.{identifier, is_identifier_byte}
use Rattle.cc_registrations.specs.SafeBash.{bash_frame, bash_marks, call_begins, call_ends, function_head, SafeBashReads}
use Rattle.cc_registrations.proofs.Marks.{ends_identifier, skips_identifier, skips_named}
use Rattle.cc_registrations.proofs.PlainReadings.{posix_listed, posix_word_by}
use Rattle.cc_registrations.proofs.SafeTextReadings.{IsMarked, reads_safely}

fits : IsMarked bash_frame bash_marks
unfolding bash_frame bash_marks function_head call_begins call_ends after_mark up_to after with_front cut_at is_identifier_byte
fits =
    let begins : List ℕ = codes "_complgen_" in
    let to_variable : List ℕ = drop 1 (codes " | \\\n            ") in
    let to_completer : List ℕ = drop 1 (codes "=$ascii \\\n            ") in
    record {
      begins_name = λ rest. refl;
      ends_name = λ name rest. ends_identifier space [] name (bash_frame.names_follow ++ rest) refl refl;
      begins_names = λ name rest. skips_identifier space (drop 1 (codes " -- ")) name (bash_frame.names_follow ++ rest) refl;
      same_between = refl;
      reads_names = posix_listed;
      begins_variable = λ name rest. skips_named space to_variable begins name (function_head ++ rest) refl refl;
      ends_variable = λ variable rest. ends_identifier equals (drop 1 (codes "=bash \\\n")) variable (call_begins ++ rest) refl refl;
      begins_completer = λ variable name rest.
          skips_named equals to_completer begins name (function_head ++ (identifier variable ++ (call_begins ++ rest))) refl refl
          ∙ skips_named equals to_completer function_head variable (call_begins ++ rest) refl refl;
      reads_completer = λ completer. posix_word_by completer (drop 1 call_ends);
    }

pub safe_bash_reads : (variable name : List ℕ) (bins : List (List ℕ)) (completer : List ℕ) → SafeBashReads variable name bins completer
safe_bash_reads variable name bins completer = reads_safely fits variable name bins completer
