-- The words of a record read back to the record.
use Rattle.std.proofs.Common.{◌≡◌, ℕ, Bool, true, false, List, [], ◌∷◌, ◌++◌, refl, ap, ◌∙◌, sym, subst, append_assoc, append-nil, Option, Some, None, IsTrue, map, cond, codes, encode_utf8, is_some, option_map, not, flat_map}
use Rattle.std.specs.List.{AllByRecursion}
use Rattle.std.proofs.lemmas.List.Concat.{flat_map_single}
use Rattle.cc_arg.specs.declared.parts.ArgParts.{ArgParts as Arg}
use Rattle.cc_arg.specs.declared.possible_value.PossibleValue.{PossibleValue}
use Rattle.cc_arg.specs.declared.value_hint.ValueHint.{ValueHint}
use Rattle.cc_arg.specs.declared.value_hint.ValueHint.TheVariants.{Unknown}
use Rattle.cc_arg.specs.Arguments.{possible_values}
use Rattle.cc_arg.specs.ShownNames.{shown_shorts, shown_longs}
use Rattle.cc_command.specs.ArgumentLists.{options, flags}
use Rattle.cc_command.specs.Names.{visible_names}
use Rattle.cc_command.specs.Plain.{is_plain_forest}
use Rattle.cc_command.specs.Tree.{Forest, none, more, Tree}
use Rattle.cc_command.proofs.PlainParts.{IsPlainName, IsPlainArgument, IsPlainBelow, plain_node, plain_more}
use Rattle.cc_base.specs.Bytes.{line_feed}
use Rattle.cc_quote.specs.QuotedWord.{line_feeds_as_spaces}
use Rattle.cc_quote.specs.FishQuote.{fish_sign}
use Rattle.cc_quote.specs.FishTokens.{between, commands_from, fish_commands}
use Rattle.cc_quote.proofs.FishWords.{IsSafe}
use Rattle.cc_quote.proofs.FishCutting.{word_read, Adds, adds_append}
use Rattle.cc_fish.specs.Script.{names_text, values_text, help_text, front_text, argument_text, child_text, children_text, node_text, options_text, flags_text, below_text}
use Rattle.cc_generator.specs.Subcommands.{sibling_names}
use Rattle.cc_fish.specs.Table.{condition_at, has_positionals, hint_marks, hint_offers, value_marks, value_offers, short_names, flag_record, option_record, child_record, child_records, node_records}
use Rattle.cc_fish.specs.Reader.{joined_words, offered_of, condition, condition_of, told_once, record_from, an_option, the_operand, no_record, records_of, records}
use Rattle.cc_fish.specs.Records.{Condition, Record}
use Rattle.cc_fish.proofs.Names.{IsName, name_safe, name_spelled, plain_name}
use Rattle.cc_fish.proofs.RecordWords.{front_words, names_words, short_words, long_words, help_words, values_words, hint_words, shown_of, part_words, names_adds, values_adds, help_adds, values_twice, record_read, child_offer_adds, no_files_mark_adds}
use Rattle.cc_fish.proofs.Conditions.{path_condition, condition_read, condition_kept}

-- ---- the words of a record, part by part

-- a record of which only the program and the condition have been read
abbrev at : List ℕ → Option Condition → Record
at bin_name when = record no_record { command = Some bin_name; when = when }

condition_operand : (bin_name text : List ℕ) (when : Option Condition) (words : List (List ℕ)) → condition_of text ≡ when → (is_some when) ≡ true
    → record_from (the_operand condition) (at bin_name None) (text ∷ words) ≡ record_from an_option (at bin_name when) words
condition_operand bin_name text None words h k = absurd (cc)
condition_operand bin_name text (Some when) words h k =
    ap
    (λ o. elim (option_map (λ when. at bin_name (Some when)) o) as (λ x. Option Record) [
      | Some next ↦ record_from an_option next words
      | None ↦ None
    ]) h

unconditional : (bin_name : List ℕ) (path : List (List ℕ)) (children : Forest) → path_condition bin_name path children ≡ None → None ≡ condition_at bin_name path children
unconditional bin_name [] none e = refl
unconditional bin_name [] (more node below rest) e = absurd (cc)
unconditional bin_name (name ∷ names) children e = absurd (cc)

conditional : (bin_name : List ℕ) (path : List (List ℕ)) (children : Forest) (text : List ℕ) → path_condition bin_name path children ≡ Some text → is_some (condition_at bin_name path children) ≡ true
conditional bin_name [] none text e = absurd (cc)
conditional bin_name [] (more node below rest) text e = refl
conditional bin_name (name ∷ names) children text e = refl

front_read : (bin_name : List ℕ) (path : List (List ℕ)) (children : Forest) (words : List (List ℕ)) → IsSafe bin_name → AllByRecursion IsSafe path → AllByRecursion IsSafe (sibling_names children)
    → record_from an_option no_record (front_words bin_name (path_condition bin_name path children) ++ words) ≡ record_from an_option (at bin_name (condition_at bin_name path children)) words
front_read bin_name path children words b p hs = by (path_condition bin_name path children) refl
  where
    by : (when : Option (List ℕ)) → path_condition bin_name path children ≡ when
        → record_from an_option no_record (front_words bin_name when ++ words) ≡ record_from an_option (at bin_name (condition_at bin_name path children)) words
    by (Some text) e =
        condition_operand bin_name text (condition_at bin_name path children) words (condition_read bin_name path children text b p hs e) (conditional bin_name path children text e)
    by None e = ap (λ when. record_from an_option (at bin_name when) words) (unconditional bin_name path children e)

shorts_read : (shorts : List ℕ) (read : Record) (words : List (List ℕ))
    → record_from an_option read (flat_map short_words shorts ++ words) ≡ record_from an_option (record read { shorts = read.shorts ++ map encode_utf8 shorts }) words
shorts_read [] read words = rw append-nil
shorts_read (short ∷ shorts) read words =
    shorts_read shorts (record read { shorts = read.shorts ++ encode_utf8 short ∷ [] }) words
    ∙ ap (λ names. record_from an_option (record read { shorts = names }) words) (append_assoc read.shorts (encode_utf8 short ∷ []) (map encode_utf8 shorts))

longs_read : (longs : List (List ℕ)) (read : Record) (words : List (List ℕ))
    → record_from an_option read (flat_map long_words longs ++ words) ≡ record_from an_option (record read { longs = read.longs ++ longs }) words
longs_read [] read words = rw append-nil
longs_read (long ∷ longs) read words =
    longs_read longs (record read { longs = read.longs ++ long ∷ [] }) words
    ∙ ap (λ names. record_from an_option (record read { longs = names }) words) (append_assoc read.longs (long ∷ []) longs)

help_read : (help : Option (List ℕ)) (read : Record) (words : List (List ℕ)) → read.description ≡ None
    → record_from an_option read (help_words help ++ words) ≡ record_from an_option (record read { description = option_map line_feeds_as_spaces help }) words
help_read None read words e = ap (λ text. record_from an_option (record read { description = text }) words) e
help_read (Some help) read words e =
    ap (λ before. elim (told_once before (Some (record read { description = Some (line_feeds_as_spaces help) }))) as (λ x. Option Record) [ Some next ↦ record_from an_option next words | None ↦ None ]) e

names_read : (bin_name : List ℕ) (argument : Arg) (when : Option Condition) (words : List (List ℕ))
    → record_from an_option (at bin_name when) (names_words argument ++ words) ≡ record_from an_option (flag_record bin_name when argument) words
names_read bin_name argument when words =
    let front : Record = at bin_name when in
    let shorts : List (List ℕ) = flat_map short_words (shown_shorts argument) in
    let longs : List (List ℕ) = flat_map long_words (shown_longs argument) in
    let help : List (List ℕ) = help_words argument.help in
    ap (record_from an_option front) (append_assoc (shorts ++ longs) help words ∙ append_assoc shorts longs (help ++ words))
    ∙ shorts_read (shown_shorts argument) front (longs ++ (help ++ words))
    ∙ longs_read (shown_longs argument) (record front { shorts = short_names argument }) (help ++ words)
    ∙ help_read argument.help (record front { shorts = short_names argument; longs = shown_longs argument }) words refl

hint_read : (hint : ValueHint) (bin_name : List ℕ) (when : Option Condition) (argument : Arg)
    → record_from an_option (flag_record bin_name when argument) (hint_words hint) ≡ Some (record (flag_record bin_name when argument) { marks = hint_marks hint; offered = hint_offers hint })
unfolding fish_sign fish_commands
hint_read Unknown bin_name when argument = refl
hint_read hint bin_name when argument = refl

-- a record with the words that are offered, if these have been read
abbrev offering : Record → List (List ℕ) → Option (List (List ℕ)) → Option Record
offering read words offered =
    elim (option_map (λ offers. record read { offered = Some offers }) offered) as (λ x. Option Record) [ Some next ↦ record_from an_option next words | None ↦ None ]

option_read : (bin_name : List ℕ) (argument : Arg) (when : Option Condition)
    → record_from an_option (flag_record bin_name when argument) (values_words true argument) ≡ Some (option_record bin_name when argument)
option_read bin_name argument when = by (possible_values argument)
  where
    by : (values : Option (List PossibleValue)) → record_from an_option (flag_record bin_name when argument) (part_words values argument.value_hint)
        ≡ Some (record (flag_record bin_name when argument) { marks = value_marks (option_map shown_of values) argument.value_hint; offered = value_offers (option_map shown_of values) argument.value_hint })
    by (Some values) = ap (offering (record (flag_record bin_name when argument) { marks = record { required = true; no_files = true; files = false } }) []) (values_twice (shown_of values))
    by None = hint_read argument.value_hint bin_name when argument

-- the record of an argument; the flag says whether it takes values
abbrev argument_record : Bool → List ℕ → Option Condition → Arg → Record
argument_record true bin_name when argument = option_record bin_name when argument
argument_record false bin_name when argument = flag_record bin_name when argument

values_read : (takes : Bool) (bin_name : List ℕ) (argument : Arg) (when : Option Condition)
    → record_from an_option (flag_record bin_name when argument) (values_words takes argument) ≡ Some (argument_record takes bin_name when argument)
values_read true bin_name argument when = option_read bin_name argument when
values_read false bin_name argument when = refl

name_offered : (name : List ℕ) → IsName name → offered_of name ≡ Some (name ∷ [])
unfolding fish_commands
name_offered name h = ap (λ t. joined_words (commands_from (between []) t)) (sym (append-nil name)) ∙ ap joined_words (word_read name name [] [] (name_spelled name h))

child_words_read : (bin_name : List ℕ) (no_files : Bool) (about : Option (List ℕ)) (name : List ℕ) (when : Option Condition) → IsName name
    → record_from an_option (at bin_name when) (cond no_files (codes "-f" ∷ []) [] ++ (codes "-a" ∷ name ∷ help_words about)) ≡ Some (child_record bin_name when no_files about name)
child_words_read bin_name true about name when h =
    let read : Record = record (at bin_name when) { marks = record { required = false; no_files = true; files = false } } in
    ap (offering read (help_words about)) (name_offered name h)
    ∙ ap (record_from an_option (record read { offered = Some (name ∷ []) })) (sym (append-nil (help_words about)))
    ∙ help_read about (record read { offered = Some (name ∷ []) }) [] refl
child_words_read bin_name false about name when h =
    ap (offering (at bin_name when) (help_words about)) (name_offered name h)
    ∙ ap (record_from an_option (record (at bin_name when) { offered = Some (name ∷ []) })) (sym (append-nil (help_words about)))
    ∙ help_read about (record (at bin_name when) { offered = Some (name ∷ []) }) [] refl

-- ---- texts that read back to records

-- the text reads back to the given records, whatever follows it
pub record Yields (text : List ℕ) (reads : List Record) : Type 0 where
  pub read : (rest : List ℕ) → records (text ++ rest) ≡ option_map (λ later. reads ++ later) (records rest)

twice : (us vs : List Record) (later : Option (List Record)) → option_map (λ l. us ++ l) (option_map (λ l. vs ++ l) later) ≡ option_map (λ l. (us ++ vs) ++ l) later
twice us vs None = refl
twice us vs (Some later) = ap Some (sym (append_assoc us vs later))

pub unchanged : (later : Option (List Record)) → later ≡ option_map (λ l. l) later
unchanged None = refl
unchanged (Some later) = refl

pub yields_none : Yields [] []
yields_none = record { read = λ rest. unchanged (records rest) }

pub yields_append : (a b : List ℕ) (us vs : List Record) → Yields a us → Yields b vs → Yields (a ++ b) (us ++ vs)
yields_append a b us vs h k = record {
  read = λ rest. ap records (append_assoc a b rest) ∙ h.read (b ++ rest) ∙ ap (option_map (λ later. us ++ later)) (k.read rest) ∙ twice us vs (records rest);
}

pub yields_flat_map : {X : Type 0} (P : X → Type 0) (text : X → List ℕ) (reads : X → List Record) → ((x : X) → P x → Yields (text x) (reads x)) → (xs : List X) → AllByRecursion P xs
    → Yields (flat_map text xs) (flat_map reads xs)
yields_flat_map P text reads each [] h = yields_none
yields_flat_map P text reads each (x ∷ xs) (h, hs) = yields_append (text x) (flat_map text xs) (reads x) (flat_map reads xs) (each x h) (yields_flat_map P text reads each xs hs)

yields_map : {X : Type 0} (P : X → Type 0) (text : X → List ℕ) (read : X → Record) → ((x : X) → P x → Yields (text x) (read x ∷ [])) → (xs : List X) → AllByRecursion P xs
    → Yields (flat_map text xs) (map read xs)
yields_map P text read each xs h = subst (Yields (flat_map text xs)) (flat_map_single read xs) (yields_flat_map P text (λ x. read x ∷ []) each xs h)

-- ---- the records of a node

-- the names at a path need no quotes: those of the command, of the path and of the children
pub record IsAt (bin_name : List ℕ) (path : List (List ℕ)) (children : Forest) : Type 0 where
  pub command : IsName bin_name
  pub names : AllByRecursion IsSafe path
  pub excluded : AllByRecursion IsSafe (sibling_names children)

-- the beginning of each record of the node at a path
abbrev pub path_front : List ℕ → List (List ℕ) → Forest → List ℕ
path_front bin_name path children = front_text bin_name (path_condition bin_name path children)

record_yields : (bin_name : List ℕ) (path : List (List ℕ)) (children : Forest) (text : List ℕ) (words : List (List ℕ)) (read : Record) → IsAt bin_name path children → Adds text words
    → record_from an_option (at bin_name (condition_at bin_name path children)) words ≡ Some read → Yields (path_front bin_name path children ++ (text ++ line_feed ∷ [])) (read ∷ [])
unfolding fish_commands
record_yields bin_name path children text words read is adds h =
    let front : List ℕ = path_front bin_name path children in
    record {
      read = λ rest.
          ap records (append_assoc front (text ++ line_feed ∷ []) rest ∙ ap (λ t. front ++ t) (append_assoc text (line_feed ∷ []) rest))
          ∙ ap records_of (record_read bin_name (path_condition bin_name path children) text words rest is.command (condition_kept bin_name path children (name_safe bin_name is.command) is.names is.excluded) adds)
          ∙ ap
          (λ o. elim o as (λ x. Option (List Record)) [
            | Some read ↦ option_map
                (λ later. read ∷ later) (records rest)
            | None ↦ None
          ])
          (front_read bin_name path children words (name_safe bin_name is.command) is.names is.excluded ∙ h);
    }

argument_yields : (bin_name : List ℕ) (path : List (List ℕ)) (children : Forest) → IsAt bin_name path children → (takes : Bool) (argument : Arg) → IsPlainArgument argument
    → Yields (argument_text (path_front bin_name path children) takes argument) (argument_record takes bin_name (condition_at bin_name path children) argument ∷ [])
unfolding argument_text
argument_yields bin_name path children is takes argument plain =
    let when : Option Condition = condition_at bin_name path children in
    subst (λ t. Yields t (argument_record takes bin_name when argument ∷ [])) (regrouped (path_front bin_name path children) (names_text argument) (values_text takes argument))
    (record_yields bin_name path children (names_text argument ++ values_text takes argument) (names_words argument ++ values_words takes argument) (argument_record takes bin_name when argument) is
    (adds_append _ _ _ _ (names_adds argument plain) (values_adds takes argument))
    (names_read bin_name argument when (values_words takes argument) ∙ values_read takes bin_name argument when))
  where
    regrouped : (front names values : List ℕ) → front ++ ((names ++ values) ++ line_feed ∷ []) ≡ front ++ names ++ values ++ line_feed ∷ []
    regrouped front names values = simp append_assoc

child_yields : (bin_name : List ℕ) (path : List (List ℕ)) (children : Forest) → IsAt bin_name path children → (no_files : Bool) (about : Option (List ℕ)) (name : List ℕ) → IsPlainName name
    → Yields (child_text (path_front bin_name path children) no_files about name) (child_record bin_name (condition_at bin_name path children) no_files about name ∷ [])
unfolding child_text
child_yields bin_name path children is no_files about name plain =
    let front : List ℕ = path_front bin_name path children in
    let mark : List ℕ = cond no_files (codes " -f") [] in
    let offer : List ℕ = codes " -a \"" ++ (name ++ codes "\"") in
    let named : IsName name = plain_name name plain in
    let one : Yields (front ++ ((mark ++ (offer ++ help_text about)) ++ line_feed ∷ [])) (child_record bin_name (condition_at bin_name path children) no_files about name ∷ []) =
    record_yields bin_name path children (mark ++ (offer ++ help_text about)) (cond no_files (codes "-f" ∷ []) [] ++ (codes "-a" ∷ name ∷ help_words about)) _ is
    (adds_append _ _ _ _ (no_files_mark_adds no_files) (adds_append _ _ _ _ (child_offer_adds name named) (help_adds about)))
    (child_words_read bin_name no_files about name (condition_at bin_name path children) named) in
    subst (λ t. Yields t (child_record bin_name (condition_at bin_name path children) no_files about name ∷ [])) (regrouped front mark name (help_text about)) one
  where
    regrouped : (front mark name help : List ℕ) → front ++ ((mark ++ ((codes " -a \"" ++ (name ++ codes "\"")) ++ help)) ++ line_feed ∷ [])
        ≡ front ++ mark ++ codes " -a \"" ++ name ++ codes "\"" ++ help ++ line_feed ∷ []
    regrouped front mark name help = simp append_assoc

children_yield : (bin_name : List ℕ) (path : List (List ℕ)) (children : Forest) → IsAt bin_name path children → (no_files : Bool) (siblings : Forest) → IsTrue (is_plain_forest siblings)
    → Yields (children_text (path_front bin_name path children) no_files siblings) (child_records bin_name (condition_at bin_name path children) no_files siblings)
children_yield bin_name path children is no_files none h = yields_none
children_yield bin_name path children is no_files (more node below rest) h =
    let plain = plain_more node below rest h in
    yields_append _ _ _ _
    (yields_map IsPlainName (child_text (path_front bin_name path children) no_files node.about) (child_record bin_name (condition_at bin_name path children) no_files node.about) (child_yields bin_name path children is no_files node.about) (visible_names node) (plain_node node plain.first.node).names)
    (children_yield bin_name path children is no_files rest plain.later)

-- the records of the node at a path
pub node_yields : (bin_name : List ℕ) (path : List (List ℕ)) (tree : Tree) → IsAt bin_name path tree.children → IsPlainBelow tree
    → Yields (node_text (path_front bin_name path tree.children) tree) (node_records bin_name (condition_at bin_name path tree.children) tree)
unfolding node_text options_text flags_text below_text
node_yields bin_name path tree is plain =
    let front : List ℕ = path_front bin_name path tree.children in
    let when : Option Condition = condition_at bin_name path tree.children in
    let node = plain_node tree.node plain.node in
    yields_append _ _ _ _
    (yields_append _ _ _ _
    (yields_map IsPlainArgument (argument_text front true) (option_record bin_name when) (argument_yields bin_name path tree.children is true) (options tree.node) node.options)
    (yields_map IsPlainArgument (argument_text front false) (flag_record bin_name when) (argument_yields bin_name path tree.children is false) (flags tree.node) node.flags))
    (children_yield bin_name path tree.children is (not (has_positionals tree.node)) tree.children plain.children)
