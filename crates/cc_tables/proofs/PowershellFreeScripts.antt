-- The PowerShell script of a plain tree holds none of PowerShell's further quotes, if the quotes of
-- the tree are escaped. So it also reads back for a reader that takes them as quotes.
use Rattle.std.proofs.Common.{◌∙◌, refl, subst, ap, inl, inr, ℕ, ◌++◌, Bool, true, false, cond, IsTrue, List, [], ◌∷◌, codes, flat_map, Some, ◌≢◌, not, arith}
use Rattle.std.specs.Char.{is_ascii_uppercase}
use Rattle.std.specs.List.{AllByRecursion}
use Rattle.std.proofs.lemmas.Bool.{and_parts, and_from}
use Rattle.std.proofs.lemmas.Bool.Decides.{nat_tests}
use Rattle.cc_base.proofs.Members.{AllByRecursion-weaker, AllByRecursion-append, AllByRecursion-map, AllByRecursion-from_IsIn, Contains-from_IsIn}
use Rattle.cc_command.specs.declared.node.Node.{Node}
use Rattle.cc_command.specs.Escaped.{is_escaped_forest, is_escaped_node, is_escaped_tree}
use Rattle.cc_command.specs.Names.{full_name}
use Rattle.cc_command.specs.Plain.{is_plain_tree}
use Rattle.cc_command.specs.Tree.{Forest, IsSibling, none, more, Tree}
use Rattle.cc_command.proofs.PlainParts.{IsPlainName, plain_full_name}
use Rattle.cc_quote.specs.PowershellQuote.{powershell_escaped}
use Rattle.cc_quote.specs.PowershellTokens.{powershell_tokens, is_quote_first, IsUnquoted}
use Rattle.cc_quote.specs.Tokens.{after_words, cut}
use Rattle.cc_quote.specs.Tokens.QuoteState.{between}
use Rattle.cc_generator.specs.Paths.{CoversPaths, LeadsTo}
use Rattle.cc_generator.specs.Visits.{Keyed, joined_path, longer_path, table_visits}
use Rattle.cc_generator.proofs.PlainVisits.{IsPlainVisit, plain_visits}
use Rattle.cc_generator.proofs.VisitedTables.{tables_cover}
use Rattle.cc_command.proofs.EscapedBuilt.{escaped_more}
use Rattle.cc_base.specs.PlainName.{name_byte, foreign}
use Rattle.cc_base.proofs.NameBytes.{letter_or_joiner}
use Rattle.cc_tables.specs.Offers.{node_offers, word}
use Rattle.cc_tables.specs.PowershellReader.{PowershellReads, ReadsByAllQuotes, powershell_tables, spelling, tables_begin, offer_read}
use Rattle.cc_tables.specs.PowershellScript.{ResultKind, capital_space, details_text, kind_begin, kind_text, list_begin, offer_row, offer_text, parameter_name, parameter_value, powershell_frame, powershell_named, powershell_script, row_begin, row_end, row_text, text_begin, words_text}
use Rattle.cc_tables.specs.Script.{head_text, named_text, script_text, table_text}
use Rattle.cc_tables.specs.TableReader.{read, ReadsTables}
use Rattle.cc_tables.specs.TableReader.State.{between_tables}
use Rattle.cc_tables.specs.Tables.{Table, path_tables, table_of, tree_tables}
use Rattle.cc_tables.specs.declared.offers.Kind.{Kind}
use Rattle.cc_tables.specs.declared.offers.Kind.TheVariants.{Short}
use Rattle.cc_tables.specs.declared.offers.Offer.{Offer}
use Rattle.cc_tables.proofs.PowershellFreeOffers.{IsFreeOffer, both, offers_free, plain_ascii}
use Rattle.cc_tables.proofs.PowershellFreeTexts.{IsAscii, IsFree, IsPart, ascii_bytes, ascii_free, ascii_part, escaped_free, free_append, part_append, part_flat_map, signs_same}
use Rattle.cc_tables.proofs.PowershellReadsBack.{IsPowershellRow, powershell_reads_back}
use Rattle.cc_tables.proofs.PlainOffers.{IsPlainOffer}
use Rattle.cc_tables.proofs.PlainTables.{of_plain_name, reads_offers}

-- a byte that may occur in a plain name does not begin a quote
unquoted_byte : (byte : ℕ) → name_byte byte ≢ foreign → IsTrue (not (is_quote_first byte))
unfolding is_quote_first
unquoted_byte byte h = let k = letter_or_joiner byte h in grind (arith, nat_tests)

-- a `;` does not begin a quote
unquoted_separator : IsTrue (not (is_quote_first 59))
unfolding is_quote_first
unquoted_separator = refl

-- the space after a capital does not begin a quote
space_unquoted : (kind : Kind) (name : List ℕ) → IsUnquoted (capital_space kind name)
unfolding is_quote_first
space_unquoted Short (byte ∷ []) = by_test (is_ascii_uppercase byte)
  where
    by_test : (b : Bool) → IsUnquoted (cond b (codes " ") [])
    by_test true = (refl, tt)
    by_test false = tt
space_unquoted kind name = tt

-- the row of a plain offer
row_unquoted : (offer : Offer) → IsPlainOffer offer → IsPowershellRow (offer_row offer)
row_unquoted offer h =
    let unquoted = AllByRecursion-weaker (λ byte. name_byte byte ≢ foreign) (λ byte. IsTrue (not (is_quote_first byte))) unquoted_byte (word offer) h.bytes in
    record {
      word = unquoted;
      list = AllByRecursion-append (λ byte. IsTrue (not (is_quote_first byte))) (word offer) (capital_space offer.kind offer.name) unquoted (space_unquoted offer.kind offer.name);
    }

-- the script of a plain tree reads back to its tables
pub tables_read : (tree : Tree) → IsTrue (is_plain_tree tree) → ReadsTables (powershell_tables (powershell_script tree)) (tree_tables offer_read tree) tree
unfolding powershell_frame
tables_read tree h =
    let bin_name = full_name tree.node in
    reads_offers offer_read (λ byte. IsTrue (not (is_quote_first byte))) (λ offer. IsPowershellRow (offer_row offer)) unquoted_byte unquoted_separator row_unquoted
    (λ tables. powershell_tables (script_text powershell_frame offer_text bin_name tables)) tree h
    (powershell_reads_back bin_name (path_tables (codes ";") node_offers tree) (of_plain_name (λ byte. IsTrue (not (is_quote_first byte))) unquoted_byte bin_name (plain_full_name tree h)))

-- ---- rows

kind_ascii : (kind : ResultKind) → AllByRecursion IsAscii (kind_text kind)
unfolding kind_text
kind_ascii parameter_name = ascii_bytes (codes "ParameterName") refl
kind_ascii parameter_value = ascii_bytes (codes "ParameterValue") refl

space_ascii : (kind : Kind) (name : List ℕ) → AllByRecursion IsAscii (capital_space kind name)
space_ascii Short (byte ∷ []) = by_test (is_ascii_uppercase byte)
  where
    by_test : (b : Bool) → AllByRecursion IsAscii (cond b (codes " ") [])
    by_test true = (refl, tt)
    by_test false = tt
space_ascii kind name = tt

words_ascii : (offer : Offer) → IsFreeOffer offer → AllByRecursion IsAscii (words_text (offer_row offer))
unfolding words_text row_begin list_begin
words_ascii offer h =
    let list : List ℕ = word offer ++ capital_space offer.kind offer.name in
    AllByRecursion-append IsAscii ((row_begin ++ word offer) ++ list_begin) list
    (AllByRecursion-append IsAscii (row_begin ++ word offer) list_begin
    (AllByRecursion-append IsAscii row_begin (word offer) (ascii_bytes row_begin refl) h.word)
    (ascii_bytes list_begin refl))
    (AllByRecursion-append IsAscii (word offer) (capital_space offer.kind offer.name) h.word (space_ascii offer.kind offer.name))

details_free : (kind : ResultKind) (text : List ℕ) → IsFree text →
    IsFree ((((kind_begin ++ kind_text kind) ++ text_begin) ++ powershell_escaped text) ++ row_end)
unfolding kind_begin text_begin row_end
details_free kind text h =
    let before : List ℕ = (kind_begin ++ kind_text kind) ++ text_begin in
    free_append (before ++ powershell_escaped text) row_end
    (ascii_free before (powershell_escaped text)
    (AllByRecursion-append IsAscii (kind_begin ++ kind_text kind) text_begin
    (AllByRecursion-append IsAscii kind_begin (kind_text kind) (ascii_bytes kind_begin refl) (kind_ascii kind))
    (ascii_bytes text_begin refl))
    (escaped_free text h))
    (ascii_part row_end (ascii_bytes row_end refl))

row_part : (offer : Offer) → IsFreeOffer offer → IsPart (offer_text offer)
unfolding offer_text row_text words_text details_text row_begin
row_part offer h = record {
  free = ascii_free (words_text (offer_row offer)) (details_text (offer_row offer)) (words_ascii offer h)
      (details_free (offer_row offer).kind (offer_row offer).text h.text);
  apart = refl;
}

-- ---- tables

-- the key of a table is ASCII, and its rows are free
record IsFreeTable (table : Table Offer) : Type 0 where
  pub key : AllByRecursion IsAscii table.key
  pub rows : AllByRecursion IsFreeOffer table.rows

table_part : (table : Table Offer) → IsFreeTable table → IsPart (table_text powershell_frame offer_text table)
unfolding table_text powershell_frame
table_part table h =
    let key : List ℕ = powershell_frame.key_begin ++ table.key in
    let rows : List ℕ = flat_map offer_text table.rows in
    part_append ((key ++ powershell_frame.key_end) ++ rows) powershell_frame.table_end
    (part_append (key ++ powershell_frame.key_end) rows
    (part_append key powershell_frame.key_end
    (part_append powershell_frame.key_begin table.key (ascii_part powershell_frame.key_begin (ascii_bytes powershell_frame.key_begin refl)) (ascii_part table.key h.key))
    (ascii_part powershell_frame.key_end (ascii_bytes powershell_frame.key_end refl)))
    (part_flat_map offer_text table.rows (AllByRecursion-weaker IsFreeOffer (λ offer. IsPart (offer_text offer)) row_part table.rows h.rows)))
    (ascii_part powershell_frame.table_end (ascii_bytes powershell_frame.table_end refl))

head_part : (bin : List ℕ) → AllByRecursion IsAscii bin → IsPart (head_text powershell_frame bin)
unfolding head_text named_text powershell_frame powershell_named
head_part bin h =
    let named = ascii_part bin h in
    part_append powershell_frame.head (named_text (Some powershell_named) bin)
    (ascii_part powershell_frame.head (ascii_bytes powershell_frame.head refl))
    (part_append ((bin ++ powershell_named.between) ++ bin) powershell_named.completions
    (part_append (bin ++ powershell_named.between) bin
    (part_append bin powershell_named.between named (ascii_part powershell_named.between (ascii_bytes powershell_named.between refl)))
    named)
    (ascii_part powershell_named.completions (ascii_bytes powershell_named.completions refl)))

script_free : (bin : List ℕ) (tables : List (Table Offer)) → AllByRecursion IsAscii bin → AllByRecursion IsFreeTable tables →
    IsFree (script_text powershell_frame offer_text bin tables)
unfolding script_text powershell_frame
script_free bin tables h k =
    let text : List ℕ = flat_map (table_text powershell_frame offer_text) tables in
    (part_append (head_text powershell_frame bin ++ text) powershell_frame.tail
    (part_append (head_text powershell_frame bin) text (head_part bin h)
    (part_flat_map (table_text powershell_frame offer_text) tables
    (AllByRecursion-weaker IsFreeTable (λ table. IsPart (table_text powershell_frame offer_text table)) table_part tables k)))
    (ascii_part powershell_frame.tail (ascii_bytes powershell_frame.tail refl))).free

-- ---- visits

abbrev IsEscaped : Tree → Type 0
IsEscaped tree = IsTrue (is_escaped_tree tree)

sibling_escaped : (forest : Forest) (child : Tree) → IsTrue (is_escaped_forest forest) → IsSibling forest child → IsEscaped child
sibling_escaped none child h sibling = absurd sibling
sibling_escaped (more node below rest) child h (inl e) =
    let each = escaped_more node below rest h in
    subst IsEscaped e (and_from (is_escaped_node node) (is_escaped_forest below) each.first each.lower)
sibling_escaped (more node below rest) child h (inr sibling) = sibling_escaped rest child (escaped_more node below rest h).later sibling

path_escaped : (above : Node) (from : Tree) (path : List (List ℕ)) (parent : Node) (to : Tree) → IsEscaped from → LeadsTo above from path parent to → IsEscaped to
path_escaped above from [] parent to h leads = subst IsEscaped leads.1 h
path_escaped above from (name ∷ names) parent to h leads =
    let parts = and_parts (is_escaped_node from.node) (is_escaped_forest from.children) h in
    path_escaped from.node leads.0 names parent to (sibling_escaped from.children leads.0 parts.1 leads.1.0) leads.1.1.1

visits_escaped : (tree : Tree) (visits : List (Keyed (List (List ℕ)))) → IsEscaped tree → CoversPaths tree visits → AllByRecursion (λ visit. IsEscaped visit.tree) visits
visits_escaped tree visits h covers =
    AllByRecursion-from_IsIn (λ visit. IsEscaped visit.tree) visits (λ visit at.
    path_escaped tree.node tree visit.key visit.above visit.tree h ((covers.paths visit).0 (Contains-from_IsIn visits visit at)))

names_ascii : (names : List (List ℕ)) → AllByRecursion IsPlainName names → AllByRecursion IsAscii (flat_map (λ name. codes ";" ++ name) names)
names_ascii [] h = tt
names_ascii (name ∷ names) h =
    AllByRecursion-append IsAscii (codes ";" ++ name) (flat_map (λ name. codes ";" ++ name) names)
    (refl, plain_ascii name h.0) (names_ascii names h.1)

-- the table of a visit
abbrev visit_table : List ℕ → Keyed (List (List ℕ)) → Table Offer
visit_table bin visit = table_of node_offers (joined_path (codes ";") bin visit.key) visit.tree

visit_free : (bin : List ℕ) → IsPlainName bin → (visit : Keyed (List (List ℕ))) → IsPlainVisit visit × IsEscaped visit.tree → IsFreeTable (visit_table bin visit)
visit_free bin h visit k = record {
  key = AllByRecursion-append IsAscii bin (flat_map (λ name. codes ";" ++ name) visit.key) (plain_ascii bin h) (names_ascii visit.key k.0.names);
  rows = offers_free visit.tree k.0.tree k.1;
}

tables_free : (tree : Tree) → IsTrue (is_plain_tree tree) → IsEscaped tree → AllByRecursion IsFreeTable (path_tables (codes ";") node_offers tree)
unfolding path_tables
tables_free tree h k =
    let bin : List ℕ = full_name tree.node in
    let visits : List (Keyed (List (List ℕ))) = table_visits longer_path [] tree in
    let covers = tables_cover tree h in
    AllByRecursion-map IsFreeTable (visit_table bin) visits
    (AllByRecursion-weaker (λ visit. IsPlainVisit visit × IsEscaped visit.tree) (λ visit. IsFreeTable (visit_table bin visit)) (visit_free bin (plain_full_name tree h)) visits
    (both IsPlainVisit (λ visit. IsEscaped visit.tree) visits (plain_visits tree visits h covers) (visits_escaped tree visits k covers)))

-- the script of a plain tree whose quotes are escaped
escaped_reads : (tree : Tree) → IsTrue (is_plain_tree tree) → IsTrue (is_escaped_tree tree) → ReadsByAllQuotes tree
unfolding ReadsByAllQuotes powershell_tables powershell_tokens powershell_frame
escaped_reads tree h k =
    let plain = tables_read tree h in
    let bin : List ℕ = full_name tree.node in
    let free : IsFree (powershell_script tree) =
    script_free bin (path_tables (codes ";") node_offers tree) (plain_ascii bin (plain_full_name tree h)) (tables_free tree h k) in
    record {
      tables = ap (λ signs. read spelling (between_tables []) (after_words tables_begin (cut between signs))) (signs_same (powershell_script tree) free) ∙ plain.tables;
      paths = plain.paths;
      keys = plain.keys;
    }

-- the specification holds for the script of a plain tree
pub powershell_plain_reads : (tree : Tree) → IsTrue (is_plain_tree tree) → PowershellReads tree
powershell_plain_reads tree h = record { reads = tables_read tree h; all_quotes = λ k. escaped_reads tree h k }
