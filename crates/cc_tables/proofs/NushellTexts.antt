-- The lines of a Nushell script, as they are written.
use Rattle.std.proofs.Common.{◌≡◌, ◌==◌, ℕ, Bool, true, false, cond, List, [], ◌∷◌, ◌++◌, flat_map, codes, refl, ap₂, ◌∙◌}
use Rattle.std.proofs.lemmas.List.Concat.{flat_map-append}
use Rattle.std.proofs.lemmas.List.Folds.{flat_map-map}
use Rattle.cc_base.specs.Bytes.{line_feed}
use Rattle.cc_arg.specs.declared.parts.ArgParts.{ArgParts as Arg}
use Rattle.cc_command.specs.ArgumentLists.{options, flags}
use Rattle.cc_command.specs.Tree.{Tree}
use Rattle.cc_quote.specs.Escapes.{replace_byte}
use Rattle.cc_quote.specs.QuotedWord.{line_feeds_as_spaces}
use Rattle.cc_tables.specs.NushellScript.{argument_lines, line_text, node_lines, offer_line, offer_text}
use Rattle.cc_tables.specs.Offers.{argument_offers}

-- the lines of arguments
lines_of_arguments : (takes_value : Bool) (arguments : List Arg)
    → flat_map line_text (argument_lines takes_value arguments)
    ≡ flat_map (offer_text takes_value) (flat_map argument_offers arguments)
unfolding offer_text
lines_of_arguments takes_value arguments =
    flat_map-map line_text (offer_line takes_value) (flat_map argument_offers arguments)

-- the lines at a node
pub lines_of_node : (tree : Tree) → flat_map line_text (node_lines tree)
    ≡ flat_map (offer_text true) (flat_map argument_offers (options tree.node)) ++ flat_map
    (offer_text false) (flat_map argument_offers (flags tree.node))
unfolding node_lines
lines_of_node tree =
    flat_map-append line_text (argument_lines true (options tree.node))
    (argument_lines false (flags tree.node))
    ∙ ap₂ (λ first second. first ++ second) (lines_of_arguments true (options tree.node))
    (lines_of_arguments false (flags tree.node))

-- a help text on one line
pub line_feeds_replaced : (text : List ℕ) → replace_byte 10 (codes " ") text ≡ line_feeds_as_spaces text
line_feeds_replaced [] = refl
line_feeds_replaced (byte ∷ text) = ap₂ (λ first second. first ++ second) (by_test (byte == line_feed)) (line_feeds_replaced text)
  where
    by_test : (is : Bool) → cond is (codes " ") (byte ∷ []) ≡ cond is 32 byte ∷ []
    by_test true = refl
    by_test false = refl
