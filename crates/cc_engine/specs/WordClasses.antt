-- The class of a word at a node with these arguments, whatever precedes the word.
use Rattle.std.specs.Prelude.{ℕ, List, [], ◌∷◌, ◌&&◌, Bool, not, Option, Some, None, find, encode_utf8_all, if◌then◌else◌}
use Rattle.cc_arg.specs.declared.parts.ArgParts.{ArgParts as Arg}
use Rattle.cc_arg.specs.Arguments.{takes_values}
use Rattle.cc_engine.specs.declared.walking.word_class.WordClass.{WordClass}
use Rattle.cc_engine.specs.declared.walking.word_class.WordClass.TheVariants.{Escape, Opens, Unknown, Closed, Plain}
use Rattle.cc_engine.specs.declared.walking.word_class.ValueCharacter.{ValueCharacter}
use Rattle.cc_engine.specs.Lookup.{has_long, has_short}
use Rattle.cc_engine.specs.Words.{Form, TwoHyphens, Long, Short, Other, form_of}

abbrev pub if_taking : Option Arg → Option Arg
if_taking None = None
if_taking (Some argument) = if takes_values argument then Some argument else None

-- the first argument with this short, if it takes values
abbrev pub value_argument : List Arg → ℕ → Option Arg
value_argument arguments character = if_taking (find (has_short character) arguments)

-- a character whose argument takes values ends the search; otherwise it continues
abbrev pub character_value : Option Arg → List ℕ → Option ValueCharacter → Option ValueCharacter
character_value None after others = others
character_value (Some argument) after others =
    Some (record { argument = argument; after = encode_utf8_all after })

-- the first character of a cluster whose argument takes values
abbrev pub value_character : List Arg → List ℕ → Option ValueCharacter
value_character arguments [] = None
value_character arguments (c ∷ cs) =
    character_value (value_argument arguments c) cs (value_character arguments cs)

-- an option is opened if its character is the last one
abbrev pub last_class : Arg → List ℕ → WordClass
last_class argument [] = Opens argument
last_class argument (b ∷ bs) = Closed

abbrev pub cluster_class : Option ValueCharacter → WordClass
cluster_class None = Unknown
cluster_class (Some found) = last_class found.argument found.after

abbrev pub flag_class : Option Arg → Bool → WordClass
flag_class None with_equals = Unknown
flag_class (Some argument) with_equals =
    if takes_values argument && not with_equals then Opens argument else Closed

abbrev pub class_of_form : List Arg → Form → WordClass
class_of_form arguments TwoHyphens = Escape
class_of_form arguments (Long flag with_equals) =
    flag_class (find (has_long flag) arguments) with_equals
class_of_form arguments (Short characters) = cluster_class (value_character arguments characters)
class_of_form arguments Other = Plain

unfoldable pub class_of : List Arg → List ℕ → WordClass
class_of arguments word = class_of_form arguments (form_of word)
