use Rattle.std.proofs.Common.{◌≡◌, List, refl, rules}
use Rattle.cc_arg.specs.declared.parts.ArgParts.{ArgParts as Arg}
use Rattle.cc_base.proofs.WrittenTexts.{writes_same, writes_then}
use Rattle.cc_command.specs.Tree.{Forest, Tree, forest_of}
use Rattle.cc_base.proofs.Stopped.{put_stopped, stops_before}
use Rattle.cc_bash.proofs.WordParts.{words_written}
use Rattle.cc_bash.proofs.words.write_words.Goals as goal

pub returns-in_err-write_part : goal.returns-in_err-write_part
returns-in_err-write_part g c =
    let tree : Tree = c.args.command.now in
    let arguments : List Arg = c.get_arguments-arguments.result.now in
    let same : arguments ≡ tree.node.arguments = search rules in
    put_stopped _ c.from_residual.ensures.1 (writes_same _ _ (words_written tree arguments tree.children _ _ _ same refl refl refl refl)
    (stops_before _ _ (stops_before _ _ (stops_before _ _ c.in_err-write_part.ensures.written))))

pub returns-in_err-write_part-2 : goal.returns-in_err-write_part-2
returns-in_err-write_part-2 g c =
    let tree : Tree = c.args.command.now in
    let arguments : List Arg = c.get_arguments-arguments.result.now in
    let same : arguments ≡ tree.node.arguments = search rules in
    put_stopped _ c.from_residual-in_err-write_part-2.ensures.1 (writes_same _ _ (words_written tree arguments tree.children _ _ _ same refl c.in_ok-write_part.ensures.begun refl refl)
    (stops_before _ _ (stops_before _ _ (writes_then _ _ c.in_ok-write_part.ensures.written c.in_err-write_part-2.ensures.written))))

pub returns-in_err-write_part-3 : goal.returns-in_err-write_part-3
returns-in_err-write_part-3 g c =
    let tree : Tree = c.args.command.now in
    let arguments : List Arg = c.get_arguments-arguments.result.now in
    let same : arguments ≡ tree.node.arguments = search rules in
    put_stopped _ c.from_residual-in_err-write_part-3.ensures.1 (writes_same _ _ (words_written tree arguments tree.children _ _ _ same refl c.in_ok-write_part.ensures.begun c.in_ok-write_part-2.ensures.begun refl)
    (stops_before _ _ (writes_then _ _ (writes_then _ _ c.in_ok-write_part.ensures.written c.in_ok-write_part-2.ensures.written) c.in_err-write_part-3.ensures.written)))

pub returns : goal.returns
returns g c =
    let arguments : List Arg = c.get_arguments-arguments.result.now in
    let children : Forest = forest_of c.get_subcommands.result.now in
    let same : arguments ≡ c.args.command.now.node.arguments = search rules in
    let below : children ≡ c.args.command.now.children = search rules in
    writes_same _ _ (words_written c.args.command.now arguments children _ _ _ same below
    c.in_ok-write_part.ensures.begun c.in_ok-write_part-2.ensures.begun c.in_ok-write_part-3.ensures.begun)
    (writes_then _ _
    (writes_then _ _
    (writes_then _ _ c.in_ok-write_part.ensures.written c.in_ok-write_part-2.ensures.written)
    c.in_ok-write_part-3.ensures.written) c.write_children.ensures)
