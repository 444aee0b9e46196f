-- Lists with the candidates in lines, and lines that a caller passed, for some arguments.
use lib.Utf8.{encode}
use Rattle.std.specs.Str.{chars, is_utf8}
use Rattle.std.proofs.Common.{◌≡◌, true, false, List, [], ◌∷◌, None, Some, codes, refl}
use Rattle.cc_arg.specs.Arguments.{new_arg}
use Rattle.cc_arg.specs.declared.parts.ArgParts.{ArgParts as Arg}
use Rattle.cc_arg.specs.declared.value_hint.ValueHint.TheVariants.{AnyPath, DirPath, FilePath}
use Rattle.cc_arg.specs.declared.value_source.SourceValues.TheVariants.{Listed, Paths}
use Rattle.cc_arg.specs.declared.values_protocol.ValuesProtocol.TheVariants.{Cobra}
use Rattle.cc_base.specs.Found.{after, cut_at, with_front, without_blanks}
use Rattle.cc_candidates.specs.Candidate.{new_candidate}
use Rattle.cc_candidates.specs.declared.candidate.CompletionCandidate.{CompletionCandidate}
use Rattle.cc_env.specs.Answers.{text_by}
use Rattle.cc_env.specs.ValuesRead.{is_one, read_values}
use Rattle.cc_env.specs.WrittenAnswers.{status_of}
use Rattle.cc_env.specs.WithLines.{lines_list, lists_with, passed_lines}
use Rattle.cc_env.specs.declared.asking.values_read.ValuesRead.{ValuesRead}
use Rattle.cc_replies.specs.CobraReply.{directive_of}
use Rattle.cc_replies.specs.GivenLines.{cut_entry, description_help, line_entry, without_last_blanks}
use Rattle.cc_replies.specs.Reply.{without_return}

abbrev main : CompletionCandidate
main = new_candidate (codes "main")

-- the list of the lines has their candidates alone
lines_row : (found : List CompletionCandidate)
    → lists_with (λ which list. list ≡ []) (main ∷ []) 18446744073709551615 found
    ≡ (found ≡ main ∷ [])
lines_row found = refl

-- another list is as it was
other_row : (found : List CompletionCandidate)
    → lists_with (λ which list. list ≡ []) (main ∷ []) 0 found ≡ (found ≡ [])
other_row found = refl

next_row : (found : List CompletionCandidate)
    → lists_with (λ which list. list ≡ []) (main ∷ []) 18446744073709551614 found ≡ (found ≡ [])
next_row found = refl

command_row : passed_lines (codes "main\n")
    (record (new_arg (codes "branch")) { values_from = Some (codes "git" ∷ []) }) ≡ codes "main\n"
command_row = refl

file_row : passed_lines (codes "main\n")
    (record (new_arg (codes "branch")) { values_file = Some (codes "/branches") }) ≡ []
file_row = refl

-- ---- the lines of a program with Cobra

abbrev pod : Arg
pod = record (new_arg (codes "pod")) { values_from = Some (codes "kubectl" ∷ []) }

abbrev cobra_pod : Arg
cobra_pod = record pod { values_protocol = Cobra }

-- `main` alone, in the list of the lines
abbrev only_main : ValuesRead
only_main = record {
  lines = record { candidates = main ∷ [] };
  values = Listed lines_list;
  no_space = false;
}

abbrev no_values : ValuesRead
no_values = record only_main { lines = record { candidates = [] } }

values_row : read_values cobra_pod (codes "main\n:4\n") ≡ only_main
unfolding after cut_at with_front without_blanks without_return cut_entry line_entry without_last_blanks description_help chars is_utf8 encode directive_of
values_row = refl

-- to an argument of plain lines the directive is a value
plain_row : read_values pod (codes "main\n:4\n")
    ≡ record only_main { lines = record { candidates = main ∷ new_candidate (codes ":4") ∷ [] } }
unfolding after cut_at with_front without_blanks without_return cut_entry line_entry without_last_blanks description_help chars is_utf8 encode directive_of
plain_row = refl

no_space_row : read_values cobra_pod (codes "main\n:6\n") ≡ record only_main { no_space = true }
unfolding after cut_at with_front without_blanks without_return cut_entry line_entry without_last_blanks description_help chars is_utf8 encode directive_of
no_space_row = refl

error_row : read_values cobra_pod (codes "main\n:1\n") ≡ no_values
unfolding after cut_at with_front without_blanks without_return cut_entry line_entry without_last_blanks description_help chars is_utf8 encode directive_of
error_row = refl

any_row : read_values cobra_pod (codes ":0\n") ≡ record no_values { values = Paths AnyPath }
unfolding after cut_at with_front without_blanks without_return cut_entry line_entry without_last_blanks description_help chars is_utf8 encode directive_of
any_row = refl

none_row : read_values cobra_pod (codes ":4\n") ≡ no_values
unfolding after cut_at with_front without_blanks without_return cut_entry line_entry without_last_blanks description_help chars is_utf8 encode directive_of
none_row = refl

files_row : read_values cobra_pod (codes "json\n:8\n") ≡ record no_values { values = Paths FilePath }
unfolding after cut_at with_front without_blanks without_return cut_entry line_entry without_last_blanks description_help chars is_utf8 encode directive_of
files_row = refl

directories_row : read_values cobra_pod (codes ":16\n")
    ≡ record no_values { values = Paths DirPath }
unfolding after cut_at with_front without_blanks without_return cut_entry line_entry without_last_blanks description_help chars is_utf8 encode directive_of
directories_row = refl

-- without a directive, the lines are as any others
undirected_row : read_values cobra_pod (codes "main\n") ≡ only_main
unfolding after cut_at with_front without_blanks without_return cut_entry line_entry without_last_blanks description_help chars is_utf8 encode directive_of
undirected_row = refl

-- ---- no space after a value

registration_row : is_one (Some (codes "1")) ≡ true
registration_row = refl

other_registration_row : is_one (Some (codes "0")) ≡ false
other_registration_row = refl

older_registration_row : is_one None ≡ false
older_registration_row = refl

status_row : status_of (text_by true (codes "x")) ≡ 4
status_row = refl
