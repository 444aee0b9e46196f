-- The head has no record.
use Rattle.std.proofs.Common.{◌≡◌, ℕ, Bool, true, false, List, [], ◌∷◌, ◌++◌, refl, ap, ◌∙◌, append_assoc, inr, Option, Some, None, cond, codes, not, ◌&&◌, ◌||◌, filter, is_some, encode_utf8}
use Rattle.std.specs.List.{AllByRecursion}
use Rattle.cc_arg.specs.declared.parts.ArgParts.{ArgParts as Arg}
use Rattle.cc_arg.specs.Arguments.{is_positional, takes_values}
use Rattle.cc_arg.specs.ShownNames.{with_aliases, shown_shorts, shown_longs}
use Rattle.cc_command.specs.Tree.{Forest, none, more, Tree, has_nodes}
use Rattle.cc_command.proofs.PlainParts.{IsPlainArgument, IsPlainNode}
use Rattle.cc_base.specs.Bytes as ascii
use Rattle.cc_quote.specs.FishQuote.{fish_sign, is_fish_safe, fish_escaped, bare}
use Rattle.cc_quote.specs.FishTokens.{in_word, commands_from, fish_commands}
use Rattle.cc_quote.proofs.FishWords.{IsSafe}
use Rattle.cc_quote.proofs.FishCutting.{Adds, adds_word, adds_flat_map, safe_goes_on, word_ends}
use Rattle.cc_fish.specs.Script.{slash_text, first_short, first_long, spec_word, spec_text, specs_text, optspecs_begin, optspecs_join, needs_command_begin, needs_command_parse, needs_command_end, using_subcommand_call, using_subcommand_end, functions_text, head_text}
use Rattle.cc_fish.specs.Table.{function_name}
use Rattle.cc_fish.specs.Reader.{records_of, records}
use Rattle.cc_fish.specs.Records.{Record}
use Rattle.cc_fish.proofs.Names.{IsName, name_safe, name_spelled, escaped_name, IsShortName, plain_shorts, plain_longs}
use Rattle.cc_fish.proofs.Conditions.{safe_append, function_safe}
use Rattle.cc_fish.proofs.RecordsRead.{Yields, yields_none, unchanged}

-- ---- the fixed texts, around any words

abbrev head_around : List ℕ → List ℕ → List ℕ
head_around function specs =
    optspecs_begin ++ function ++ optspecs_join ++ specs ++ functions_text function

head_then : (function specs rest : List ℕ) → head_around function specs ++ rest
    ≡ optspecs_begin ++ (function ++ (optspecs_join ++ (specs ++ (needs_command_begin ++ (function ++ (needs_command_parse ++ (function ++ (needs_command_end ++ (function ++ (using_subcommand_call ++ (function ++ (using_subcommand_end ++ rest))))))))))))
unfolding functions_text
head_then function specs rest = simp append_assoc

-- the pieces, as they are written
pub head_parts : (function : List ℕ) (root : Tree) (arguments : List Arg) → arguments ≡ root.node.arguments
    → has_nodes root.children ≡ true → head_around function (specs_text arguments) ≡ head_text function root
unfolding head_text
head_parts function root arguments are inhabited =
    ap (λ xs. head_around function (specs_text xs)) are ∙ rw inhabited refl

-- what is read in the word after the given words, whose beginning is given
abbrev read_in : List (List ℕ) → List ℕ → List ℕ → Option (List Record)
read_in words word text = records_of (commands_from (in_word words (bare word)) text)

abbrev after_function : List ℕ → List ℕ → Option (List Record)
after_function word text = read_in (codes "function" ∷ []) word text

abbrev after_argparse : List ℕ → List ℕ → Option (List Record)
after_argparse word text = read_in (codes "argparse" ∷ codes "-s" ∷ []) word text

abbrev after_set : List ℕ → List ℕ → Option (List Record)
after_set word text = read_in (codes "set" ∷ codes "-l" ∷ codes "cmd" ∷ []) word text

optspecs_named : (function text : List ℕ) → IsSafe function → records (optspecs_begin ++ (function ++ text)) ≡ after_function (codes "__fish_" ++ function) text
unfolding fish_sign fish_commands optspecs_begin
optspecs_named function text h = ap records_of (safe_goes_on function (codes "function" ∷ []) (codes "__fish_") text h)

optspecs_read : (word specs : List ℕ) (words : List (List ℕ)) (function text : List ℕ) → Adds specs words → IsSafe function
    → after_function word (optspecs_join ++ (specs ++ (needs_command_begin ++ (function ++ text)))) ≡ after_function (codes "__fish_" ++ function) text
unfolding fish_sign optspecs_join needs_command_begin
optspecs_read word specs words function text adds h =
    ap records_of (word_ends (codes "string" ∷ codes "join" ∷ []) (ascii.line_feed ∷ []) (specs ++ (needs_command_begin ++ (function ++ text))) (adds.ends (needs_command_begin ++ (function ++ text)) (inr refl)))
    ∙ ap records_of (adds.read (codes "string" ∷ codes "join" ∷ (ascii.line_feed ∷ []) ∷ []) (needs_command_begin ++ (function ++ text)) (inr refl))
    ∙ ap records_of (safe_goes_on function (codes "function" ∷ []) (codes "__fish_") text h)

needs_command_parsed : (word function text : List ℕ) → IsSafe function → after_function word (needs_command_parse ++ (function ++ text)) ≡ after_argparse (codes "(__fish_" ++ function) text
unfolding fish_sign needs_command_parse
needs_command_parsed word function text h = ap records_of (safe_goes_on function (codes "argparse" ∷ codes "-s" ∷ []) (codes "(__fish_") text h)

needs_command_read : (word function text : List ℕ) → IsSafe function → after_argparse word (needs_command_end ++ (function ++ text)) ≡ after_function (codes "__fish_" ++ function) text
unfolding fish_sign needs_command_end
needs_command_read word function text h = ap records_of (safe_goes_on function (codes "function" ∷ []) (codes "__fish_") text h)

using_subcommand_called : (word function text : List ℕ) → IsSafe function → after_function word (using_subcommand_call ++ (function ++ text)) ≡ after_set (codes "(__fish_" ++ function) text
unfolding fish_sign using_subcommand_call
using_subcommand_called word function text h = ap records_of (safe_goes_on function (codes "set" ∷ codes "-l" ∷ codes "cmd" ∷ []) (codes "(__fish_") text h)

using_subcommand_read : (word text : List ℕ) → after_set word (using_subcommand_end ++ text) ≡ records text
unfolding fish_sign fish_commands using_subcommand_end
using_subcommand_read word text = refl

head_read : (function specs : List ℕ) (words : List (List ℕ)) (rest : List ℕ) → IsSafe function → Adds specs words → records (head_around function specs ++ rest) ≡ records rest
head_read function specs words rest h adds =
    let using_subcommand : List ℕ = using_subcommand_call ++ (function ++ (using_subcommand_end ++ rest)) in
    let ending : List ℕ = needs_command_end ++ (function ++ using_subcommand) in
    let parse : List ℕ = needs_command_parse ++ (function ++ ending) in
    ap records (head_then function specs rest)
    ∙ optspecs_named function (optspecs_join ++ (specs ++ (needs_command_begin ++ (function ++ parse)))) h
    ∙ optspecs_read (codes "__fish_" ++ function) specs words function parse adds h
    ∙ needs_command_parsed (codes "__fish_" ++ function) function ending h
    ∙ needs_command_read (codes "(__fish_" ++ function) function using_subcommand h
    ∙ using_subcommand_called (codes "__fish_" ++ function) function (using_subcommand_end ++ rest) h
    ∙ using_subcommand_read (codes "(__fish_" ++ function) rest

-- ---- what `argparse` receives for an argument is one word

abbrev no_names : {X : Type 0} → List X → Bool
no_names [] = true
no_names (x ∷ xs) = false

named : (name text : List ℕ) → IsName name → IsSafe text → IsName (name ++ text)
named [] text h k = absurd h
named (byte ∷ bytes) text h k = safe_append (byte ∷ bytes) text h k

equals_safe : (takes : Bool) → IsSafe (cond takes (codes "=") [])
unfolding is_fish_safe
equals_safe true = (refl, tt)
equals_safe false = tt

slash_safe : (longs : List (List ℕ)) → IsSafe (slash_text longs)
unfolding is_fish_safe
slash_safe [] = tt
slash_safe (long ∷ longs) = (refl, tt)

-- the word of the given names
abbrev spec_of : List ℕ → List (List ℕ) → Bool → List ℕ
spec_of shorts longs takes = first_short shorts longs ++ first_long longs ++ cond takes (codes "=") []

spec_named : (shorts : List ℕ) (longs : List (List ℕ)) (takes : Bool) → AllByRecursion IsShortName shorts → AllByRecursion IsName longs → (no_names shorts && no_names longs) ≡ false → IsName (spec_of shorts longs takes)
spec_named [] [] takes h k e = absurd (cc)
spec_named [] (long ∷ longs) takes h (k, ks) e = named (fish_escaped long) (cond takes (codes "=") []) (escaped_name long k) (equals_safe takes)
spec_named (short ∷ shorts) [] takes (h, hs) k e = named ((encode_utf8 short ++ []) ++ []) (cond takes (codes "=") []) (named (encode_utf8 short ++ []) [] (named (encode_utf8 short) [] h tt) tt) (equals_safe takes)
spec_named (short ∷ shorts) (long ∷ longs) takes (h, hs) (k, ks) e =
    named ((encode_utf8 short ++ codes "/") ++ fish_escaped long) (cond takes (codes "=") [])
    (named (encode_utf8 short ++ codes "/") (fish_escaped long) (named (encode_utf8 short) (codes "/") h (slash_safe (long ∷ longs))) (name_safe (fish_escaped long) (escaped_name long k))) (equals_safe takes)

-- a plain argument that is not positional
record IsSpecified (argument : Arg) : Type 0 where
  plain : IsPlainArgument argument
  other : is_positional argument ≡ false

-- such an argument has a short or a long
has_names : (argument : Arg) → is_positional argument ≡ false → (no_names (shown_shorts argument) && no_names (shown_longs argument)) ≡ false
has_names argument e = by argument.short argument.long e
  where
    by : (short : Option ℕ) (long : Option (List ℕ)) → not (is_some short || is_some long) ≡ false
        → (no_names (with_aliases short argument.visible_short_aliases) && no_names (with_aliases long argument.visible_aliases)) ≡ false
    by None None e = absurd (cc)
    by None (Some long) e = refl
    by (Some short) long e = refl

specified : (arguments : List Arg) → AllByRecursion IsPlainArgument arguments → AllByRecursion IsSpecified (filter (λ argument. not (is_positional argument)) arguments)
specified [] h = tt
specified (argument ∷ arguments) (h, hs) = by (is_positional argument) refl (specified arguments hs)
  where
    others : List Arg
    others = filter (λ other. not (is_positional other)) arguments

    by : (b : Bool) → is_positional argument ≡ b → AllByRecursion IsSpecified others → AllByRecursion IsSpecified (cond (not b) (argument ∷ others) others)
    by true e rest = rest
    by false e rest = (record { plain = h; other = e }, rest)

spec_is_name : (argument : Arg) → IsSpecified argument → IsName (spec_word argument)
spec_is_name argument h =
    spec_named (shown_shorts argument) (shown_longs argument) (takes_values argument) (plain_shorts argument h.plain) (plain_longs argument h.plain) (has_names argument h.other)

spec_adds : (argument : Arg) → IsSpecified argument → Adds (spec_text argument) (spec_word argument ∷ [])
unfolding spec_text
spec_adds argument h = adds_word (spec_word argument) (spec_word argument) (name_spelled (spec_word argument) (spec_is_name argument h))

-- ---- the head

pub head_yields : (bin_name : List ℕ) (root : Tree) → IsName bin_name → IsPlainNode root.node → Yields (head_text (function_name bin_name) root) []
unfolding head_text
head_yields bin_name root name is = by root.children
  where
    by : (children : Forest) → Yields (cond (has_nodes children) (head_around (function_name bin_name) (specs_text root.node.arguments)) []) []
    by none = yields_none
    by (more node below rest) = record {
      read = λ later.
          head_read (function_name bin_name) (specs_text root.node.arguments) _ later (function_safe bin_name (name_safe bin_name name))
          (adds_flat_map IsSpecified spec_text (λ argument. spec_word argument ∷ []) spec_adds _ (specified root.node.arguments is.arguments))
          ∙ unchanged (records later);
    }
