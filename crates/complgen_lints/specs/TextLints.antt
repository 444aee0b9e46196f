-- What is wrong with names and descriptions: names that are not plain, possible values that bash
-- may split, change or run, and quotes that a PowerShell script does not escape.
use Rattle.std.specs.Prelude.{ℕ, Bool, true, false, ◌&&◌, ◌==◌, List, [], ◌∷◌, ◌++◌, flat_map, if◌then◌else◌, Option, Some, None}
use Rattle.std.specs.Char.{is_ascii_alphanumeric}
use Rattle.cc_base.specs.Bytes.{dash}
use Rattle.cc_base.specs.PlainName.{is_plain_name}
use Rattle.cc_arg.specs.declared.parts.ArgParts.{ArgParts as Arg}
use Rattle.cc_command.specs.declared.node.Node.{Node}
use Rattle.cc_command.specs.Escaped.{unescaped_quote}
use Rattle.cc_command.specs.Plain.{has_no_quote}
use Rattle.cc_command.specs.Quiet.{is_quiet_value}
use Rattle.cc_command.specs.Tree.{Tree}
use Rattle.complgen_lints.specs.Findings.{finding}
use Rattle.complgen_lints.specs.Parts.{label_parts, long_parts, name_parts, short_parts, some_text, value_names, values_of}
use Rattle.complgen_lints.specs.Lists.{each_from}
use Rattle.complgen_lints.specs.declared.found.Finding.{Finding}
use Rattle.complgen_lints.specs.declared.found.Spot.{Spot}
use Rattle.complgen_lints.specs.declared.found.Spot.TheVariants as spot
use Rattle.complgen_lints.specs.declared.parts.Content.{Content}
use Rattle.complgen_lints.specs.declared.parts.Content.TheVariants as content
use Rattle.complgen_lints.specs.declared.parts.Part.{Part}
use Rattle.complgen_lints.specs.declared.place.Key.{Key}
use Rattle.complgen_lints.specs.declared.place.Key.TheVariants as key
use Rattle.complgen_lints.specs.declared.text_lints.TextLint.{TextLint}
use Rattle.complgen_lints.specs.declared.text_lints.TextLint.TheVariants as lint
use Rattle.complgen_lints.specs.declared.warning.Premise.{Premise}
use Rattle.complgen_lints.specs.declared.warning.Premise.TheVariants.{NotPlain, LongWithHyphen, LoudValue, Quote, ShortNotPlain, UnescapedQuote}

-- whether a text begins with a hyphen
abbrev pub begins_with_hyphen : List ℕ → Bool
begins_with_hyphen [] = false
begins_with_hyphen (byte ∷ _) = byte == dash

-- a premise, unless a test passes
abbrev pub unless_passes : Bool → Premise → Option Premise
unless_passes true premise = None
unless_passes false premise = Some premise

-- the keys of labels, which are not plain if they contain a `'`
abbrev pub is_label : Key → Bool
is_label key.Id = true
is_label key.ValueNames = true
is_label _ = false

abbrev pub is_long : Key → Bool
is_long key.Long = true
is_long _ = false

abbrev pub unplain : Key → List ℕ → Premise
unplain key text =
    if is_long key && begins_with_hyphen text then LongWithHyphen text else NotPlain text

abbrev pub plain_premise : Key → List ℕ → Option Premise
plain_premise key text = if is_label key then unless_passes (has_no_quote text) Quote
    else unless_passes (is_plain_name text) (unplain key text)

-- the first quote of a text that a PowerShell script does not escape
abbrev pub quote_premise : Option ℕ → Option Premise
quote_premise None = None
quote_premise (Some quote) = Some (UnescapedQuote quote)

-- the premise that a text at a key breaks, a short, and a part
abbrev pub text_premise : TextLint → Key → List ℕ → Option Premise
text_premise lint.Plain key text = plain_premise key text
text_premise lint.Quiet key text = unless_passes (is_quiet_value text) (LoudValue text)
text_premise lint.Quotes key text = quote_premise (unescaped_quote text)

abbrev pub content_premise : TextLint → Key → Content → Option Premise
content_premise lint key (content.Text text) = text_premise lint key text
content_premise lint key (content.Short short) =
    unless_passes (is_ascii_alphanumeric short) (ShortNotPlain short)

abbrev pub part_premise : TextLint → Part → Option Premise
part_premise lint part = content_premise lint part.key part.content

-- the parts of a command that a lint examines
abbrev pub command_parts : TextLint → Node → List Part
command_parts lint.Plain node = name_parts node
command_parts lint.Quiet node = []
command_parts lint.Quotes node = some_text key.About None node.about

-- the parts of an argument that a lint examines
abbrev pub argument_parts : TextLint → Arg → List Part
argument_parts lint.Plain argument =
    (label_parts argument ++ short_parts argument) ++ long_parts argument
argument_parts lint.Quiet argument = value_names (values_of argument)
argument_parts lint.Quotes argument = some_text key.Help None argument.help

-- a premise at a spot, if there is one
abbrev pub some_finding : Spot → Key → Option ℕ → Option Premise → List (Finding Premise)
some_finding spot key item None = []
some_finding spot key item (Some premise) = finding spot key item premise ∷ []

-- what a lint finds in a part, in some parts, in an argument, and in a command with its arguments
abbrev pub part_list : TextLint → Spot → Part → List (Finding Premise)
part_list lint spot part = some_finding spot part.key part.item (part_premise lint part)

abbrev pub parts_list : TextLint → Spot → List Part → List (Finding Premise)
parts_list lint spot parts = flat_map (part_list lint spot) parts

abbrev pub argument_list : TextLint → ℕ → Arg → List (Finding Premise)
argument_list lint index argument =
    parts_list lint (spot.Argument index) (argument_parts lint argument)

abbrev pub text_list : TextLint → Tree → List (Finding Premise)
text_list lint tree = parts_list lint spot.Command (command_parts lint tree.node)
    ++ each_from (argument_list lint) 0 tree.node.arguments
