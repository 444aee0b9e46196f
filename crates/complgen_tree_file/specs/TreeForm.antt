-- The form of a tree file: what each kind of value is read as.
use Rattle.std.specs.Prelude.{◌&&◌, ◌-◌, ◌^◌, ℕ, List, [], ◌∷◌, ◌++◌, Option, Some, None}
use Rattle.std.specs.Prelude.{if◌then◌else◌, nat_le, codes}
use Rattle.std.specs.Prelude.{Bool, true, is_some, map, option_and_then, option_map, unwrap_or}
use Rattle.std.specs.Str.{bytes_eq, chars}
use Rattle.serde_json.specs.Data.{Data, null, Items, item}
use Rattle.serde_json.specs.Data.{no_items}
use Rattle.serde_json.specs.Find.{as_array, as_number, as_str, as_u64, get}
use Rattle.complgen_tree_file.specs.JsonKeys.{has_only}
use Rattle.cc_arg.specs.declared.action.ArgAction.{ArgAction}
use Rattle.cc_arg.specs.declared.action.ArgAction.TheVariants.{Set, Append, SetTrue, SetFalse}
use Rattle.cc_arg.specs.declared.action.ArgAction.TheVariants.{Count, Help, HelpShort, HelpLong}
use Rattle.cc_arg.specs.declared.action.ArgAction.TheVariants.{Version}
use Rattle.cc_arg.specs.declared.range.ValueRange.{ValueRange}
use Rattle.cc_arg.specs.declared.value_hint.ValueHint.{ValueHint}
use Rattle.cc_arg.specs.declared.value_hint.ValueHint.TheVariants.{Unknown, Other, AnyPath}
use Rattle.cc_arg.specs.declared.value_hint.ValueHint.TheVariants.{FilePath, DirPath, ExecutablePath}
use Rattle.cc_arg.specs.declared.value_hint.ValueHint.TheVariants.{CommandName, CommandString}
use Rattle.cc_arg.specs.declared.value_hint.ValueHint.TheVariants.{CommandWithArguments, Username}
use Rattle.cc_arg.specs.declared.value_hint.ValueHint.TheVariants.{Hostname, Url, EmailAddress}
use Rattle.cc_arg.specs.declared.values_protocol.ValuesProtocol.{ValuesProtocol}
use Rattle.cc_arg.specs.declared.values_protocol.ValuesProtocol.TheVariants.{Cobra}

-- the next step, if there is a value
infixl 10 ◌>>=◌
abbrev pub ◌>>=◌ : {A B : Type 0} → Option A → (A → Option B) → Option B
o >>= f = option_and_then f o

-- a whole number that fits 64 bits
abbrev pub number_of : Data → Option ℕ
number_of d = option_and_then as_u64 (as_number d)

-- the only element
abbrev pub only : List ℕ → Option ℕ
only [] = None
only (c ∷ []) = Some c
only (c ∷ d ∷ cs) = None

-- a text of one character
abbrev pub character_of : Data → Option ℕ
character_of d = option_and_then (λ text. only (chars text)) (as_str d)

-- each item, where each is of the kind
abbrev pub all_of : {X : Type 0} → (Data → Option X) → Items → Option (List X)
all_of read no_items = Some []
all_of read (item d ds) =
    option_and_then (λ x. option_map (λ xs. x ∷ xs) (all_of read ds)) (read d)

-- a list with one more item, if both are there
abbrev pub with_item : {X : Type 0} → Option (List X) → Option X → Option (List X)
with_item list o = option_and_then (λ xs. option_map (λ x. xs ++ x ∷ []) o) list

-- a list whose items are each of the kind
unfoldable pub list_of : {X : Type 0} → (Data → Option X) → Data → Option (List X)
list_of read d = option_and_then (all_of read) (as_array d)

-- a value of the kind, as what was given
unfoldable pub given : {X : Type 0} → (Data → Option X) → Data → Option (Option X)
given read d = option_map Some (read d)

-- the greatest number of values if there is no bound: the greatest `usize`
abbrev pub no_bound : ℕ
no_bound = 2 ^ 64 - 1

-- no bound, or a whole number
abbrev pub bound_of : Data → Option ℕ
bound_of null = Some no_bound
bound_of d = number_of d

-- the least and the greatest number of values
abbrev pub range_between : ℕ → ℕ → Option ValueRange
range_between least greatest = if nat_le least greatest && nat_le least 255
    then Some (record { least = least; greatest = greatest }) else None

-- the range that a list of two numbers describes
abbrev pub pair_of : Items → Option ValueRange
pair_of (item least (item greatest no_items)) = option_and_then (λ l.
    option_and_then (range_between l) (bound_of greatest)) (number_of least)
pair_of _ = None

-- the range that a value describes
abbrev pub range_of : Data → Option ValueRange
range_of d = option_and_then pair_of (as_array d)

-- the action with this name
abbrev pub action_of : List ℕ → Option ArgAction
action_of name = if bytes_eq name (codes "Set") then Some Set
    else if bytes_eq name (codes "Append") then Some Append
    else if bytes_eq name (codes "SetTrue") then Some SetTrue
    else if bytes_eq name (codes "SetFalse") then Some SetFalse
    else if bytes_eq name (codes "Count") then Some Count
    else if bytes_eq name (codes "Help") then Some Help
    else if bytes_eq name (codes "HelpShort") then Some HelpShort
    else if bytes_eq name (codes "HelpLong") then Some HelpLong
    else if bytes_eq name (codes "Version") then Some Version
    else None

-- the value hint with this name
abbrev pub hint_of : List ℕ → Option ValueHint
hint_of name = if bytes_eq name (codes "Unknown") then Some Unknown
    else if bytes_eq name (codes "Other") then Some Other
    else if bytes_eq name (codes "AnyPath") then Some AnyPath
    else if bytes_eq name (codes "FilePath") then Some FilePath
    else if bytes_eq name (codes "DirPath") then Some DirPath
    else if bytes_eq name (codes "ExecutablePath") then Some ExecutablePath
    else if bytes_eq name (codes "CommandName") then Some CommandName
    else if bytes_eq name (codes "CommandString") then Some CommandString
    else if bytes_eq name (codes "CommandWithArguments") then Some CommandWithArguments
    else if bytes_eq name (codes "Username") then Some Username
    else if bytes_eq name (codes "Hostname") then Some Hostname
    else if bytes_eq name (codes "Url") then Some Url
    else if bytes_eq name (codes "EmailAddress") then Some EmailAddress
    else None

-- the protocol with this name; lines that are read as they are have no name
abbrev pub protocol_of : List ℕ → Option ValuesProtocol
protocol_of name = if bytes_eq name (codes "cobra") then Some Cobra else None

-- a field after the value at a key was read into it; it stays if there is no value, or one of
-- another kind
unfoldable pub field_from : {X : Type 0} → List ℕ → (Data → Option X) → Data → X → X
field_from key read d held = unwrap_or (get key d >>= read) held

-- whether there is no value, or one of the kind
abbrev pub fits_if_there : {X : Type 0} → (Data → Option X) → Option Data → Bool
fits_if_there read None = true
fits_if_there read (Some d) = is_some (read d)

-- whether there is no value at a key, or one of the kind
unfoldable pub fits_at : {X : Type 0} → List ℕ → (Data → Option X) → Data → Bool
fits_at key read d = fits_if_there read (get key d)

-- a key, whether the value at it can be read, and how it changes a subject
pub record Setting (S : Type 0) : Type 0 where
  pub key : List ℕ
  pub fits : Data → Bool
  pub change : Data → S → S

-- the value at a key, read into a field
abbrev pub setting : {S X : Type 0} → List ℕ → (Data → Option X) → (S → X) → (S → X → S) → Setting S
setting key read field with_field = record {
  key = key;
  fits = fits_at key read;
  change = λ d subject. with_field subject (field_from key read d (field subject));
}

-- the keys of some settings
abbrev pub keys_of : {S : Type 0} → List (Setting S) → List (List ℕ)
keys_of settings = map (λ one. one.key) settings

-- whether each of some settings fits, and `before` holds
abbrev pub all_fit : {S : Type 0} → List (Setting S) → Data → Bool → Bool
all_fit [] d before = before
all_fit (one ∷ settings) d before = all_fit settings d (before && one.fits d)

-- a subject changed by each of some settings
abbrev pub set_all : {S : Type 0} → List (Setting S) → Data → S → S
set_all [] d subject = subject
set_all (one ∷ settings) d subject = set_all settings d (one.change d subject)

-- the text at a key; empty if there is none
abbrev pub text_at : List ℕ → Data → List ℕ
text_at key d = unwrap_or (get key d >>= as_str) []

-- whether there is a text at a key
abbrev pub has_text_at : List ℕ → Data → Bool
has_text_at key d = is_some (get key d >>= as_str)

-- whether a value is an object with no other keys than these and with a text at one of them, and
-- `before` holds
abbrev pub is_object_of : List (List ℕ) → List ℕ → Data → Bool → Bool
is_object_of keys needed d before = (before && has_only keys d) && has_text_at needed d

-- what is made of each item
abbrev pub each_in : {X : Type 0} → (Data → X) → Items → List X
each_in make no_items = []
each_in make (item d ds) = make d ∷ each_in make ds

-- whether each item fits, and `before` holds
abbrev pub each_fits : (Data → Bool → Bool) → Items → Bool → Bool
each_fits fits no_items before = before
each_fits fits (item d ds) before = each_fits fits ds (fits d before)
