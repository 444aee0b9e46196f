-- Options as candidates.
use Rattle.std.specs.Prelude.{ℕ, List, ◌++◌, map, filter, Bool, true, Option, Some, unwrap_or, codes, encode_utf8}
use Rattle.std.specs.List.{flat_map}
use Rattle.std.specs.Option.{option_map, option_or}
use Rattle.cc_arg.specs.declared.parts.ArgParts.{ArgParts as Arg}
use Rattle.cc_arg.specs.ShownNames.{shown_longs, shown_shorts}
use Rattle.cc_candidates.specs.declared.candidate.CompletionCandidate.{CompletionCandidate}
use Rattle.cc_candidates.specs.Beginning.{begins}

-- a candidate for an argument
abbrev pub option_candidate : Arg → Option (List ℕ) → Bool → List ℕ → CompletionCandidate
option_candidate argument help hidden value = record {
  value = value;
  help = help;
  id = Some (codes "arg::" ++ argument.id);
  tag = Some (unwrap_or argument.help_heading (codes "Options"));
  display_order = Some (unwrap_or argument.display_order 999);
  hidden = hidden;
}

abbrev pub long_candidate : Arg → Bool → List ℕ → CompletionCandidate
long_candidate argument hidden name =
    option_candidate argument argument.help hidden (codes "--" ++ name)

-- the long, then its visible aliases
abbrev pub long_candidates : Arg → List CompletionCandidate
long_candidates argument = map (long_candidate argument argument.hide) (shown_longs argument)

-- the hidden long aliases, with or without a long
abbrev pub hidden_candidates : Arg → List CompletionCandidate
hidden_candidates argument = map (long_candidate argument true) argument.aliases

-- the help text, or else the long
abbrev pub short_help : Arg → Option (List ℕ)
short_help argument =
    option_or argument.help (option_map (λ long. codes "--" ++ long) argument.long)

abbrev pub short_candidate : List ℕ → Arg → ℕ → CompletionCandidate
short_candidate before argument short =
    option_candidate argument (short_help argument) argument.hide (before ++ encode_utf8 short)

-- the short, then its visible aliases, after a text
abbrev pub short_candidates : List ℕ → Arg → List CompletionCandidate
short_candidates before argument = map (short_candidate before argument) (shown_shorts argument)

-- all longs and their visible aliases, then all hidden aliases
unfoldable pub longs : List Arg → List CompletionCandidate
longs arguments = flat_map long_candidates arguments ++ flat_map hidden_candidates arguments

-- all shorts and their visible aliases, after a text
unfoldable pub shorts : List ℕ → List Arg → List CompletionCandidate
shorts before arguments = flat_map (short_candidates before) arguments

-- an argument's own long and visible aliases that begin with `--` and this text
abbrev pub longs_beginning : List ℕ → Arg → List CompletionCandidate
longs_beginning long argument = filter (begins (codes "--" ++ long)) (long_candidates argument)

-- its hidden aliases that begin so
abbrev pub hidden_beginning : List ℕ → Arg → List CompletionCandidate
hidden_beginning long argument = filter (begins (codes "--" ++ long)) (hidden_candidates argument)
