use Rattle.std.proofs.Common.{◌++◌, flat_map, ap, subst, ◌∙◌, ◌≡◌, ℕ, List, [], append-nil, sym}
use Rattle.std.proofs.lemmas.List.Folds.{flat_map-map}
use Rattle.cc_base.specs.Writes.{Writes}
use Rattle.cc_generator.specs.Visits.{joined, table_visits, Keyed, joined_path, longer_path, rekeyed}
use Rattle.cc_command.specs.Tree.{Tree}
use Rattle.cc_command.specs.Names.{full_name}
use Rattle.cc_generator.proofs.SameVisits.{joined_path-longer, rekeyed-table_visits}
use Rattle.cc_tables.specs.Script.{head_text, node_text, script_text, table_text, tree_script}
use Rattle.cc_tables.specs.Tables.{Table, path_tables, table_of}
use Rattle.cc_tables.specs.declared.tables.Frame.{Frame}
use Rattle.cc_tables.proofs.tables.write_tables.Goals as goal

-- the text of a tree's tables in a frame is the text of the tables of the visits
tables_of_visits : {Row : Type 0} (frame : Frame) (row_text : Row → List ℕ)
    (rows : Tree → List Row) (tree : Tree) →
    flat_map (table_text frame row_text) (path_tables frame.separator rows tree)
    ≡ flat_map (λ visit. node_text frame row_text rows visit.key visit.tree)
    (table_visits (joined frame.separator) (full_name tree.node) tree)
unfolding path_tables node_text
tables_of_visits {Row} frame row_text rows tree =
    let bin_name : List ℕ = full_name tree.node in
    let visits : List (Keyed (List (List ℕ))) = table_visits longer_path [] tree in
    let key : List (List ℕ) → List ℕ = joined_path frame.separator bin_name in
    let table : Keyed (List (List ℕ))
    → Table Row = λ visit. table_of rows (key visit.key) visit.tree in
    let text : Keyed (List ℕ)
    → List ℕ = λ visit. node_text frame row_text rows visit.key visit.tree in
    flat_map-map (table_text frame row_text) table visits
    ∙ sym (flat_map-map text (rekeyed key) visits)
    ∙ ap (flat_map text)
    (rekeyed-table_visits longer_path (joined frame.separator) key
    (joined_path-longer frame.separator bin_name) [] tree
    ∙ ap (λ first. table_visits (joined frame.separator) first tree) (append-nil bin_name))

-- the script of a tree, given its visits
script_of_visits : {Row : Type 0} (frame : Frame) (row_text : Row → List ℕ)
    (rows : Tree → List Row) (tree : Tree) (bin : List ℕ) → bin ≡ full_name tree.node →
    head_text frame bin ++ flat_map (λ visit. node_text frame row_text rows visit.key visit.tree)
    (table_visits (joined frame.separator) bin tree) ++ frame.tail
    ≡ tree_script frame row_text rows tree
unfolding script_text
script_of_visits frame row_text rows tree bin e =
    ap (λ name. head_text frame name
    ++ flat_map (λ visit. node_text frame row_text rows visit.key visit.tree)
    (table_visits (joined frame.separator) name tree) ++ frame.tail) e
    ∙ ap (λ text. head_text frame (full_name tree.node) ++ text ++ frame.tail)
    (sym (tables_of_visits frame row_text rows tree))

pub returns : goal.returns
returns g c =
    let frame = c.args.frame.now in
    let text = g.R.TableRows.text c.args.rows.now in
    let rows = g.R.TableRows.rows c.args.rows.now in
    let bin = c.full_name-bin_name.result.now in
    subst (λ written. Writes {S = g.row.W.Denot} g.W.Sink.taken g.W.Sink.failed c.write_frame.result c.args.sink.now c.write_frame.new.sink written)
    (ap (λ visits. head_text frame bin ++ flat_map (λ visit. node_text frame text rows visit.key visit.tree) visits ++ frame.tail)
    (c.in_ok-visits.ensures ∙ ap (table_visits (joined frame.separator) bin) c.in_ok-flat.ensures.root)
    ∙ script_of_visits frame text rows c.args.command.now bin c.full_name-bin_name.ensures)
    c.write_frame.ensures
