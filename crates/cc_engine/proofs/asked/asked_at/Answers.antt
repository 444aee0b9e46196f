use Rattle.std.proofs.Common.{◌≡◌, ◌∙◌, ap, rules, true, false, ℕ, List}
use Rattle.std.specs.Option.{option_copied}
use Rattle.std.specs.Prelude.{Option, find, is_some, option_to_list}
use Rattle.cc_arg.specs.declared.parts.ArgParts.{ArgParts as Arg}
use Rattle.cc_arg.specs.ValueSources.{has_source}
use Rattle.cc_command.specs.Tree.{Tree}
use Rattle.cc_engine.specs.declared.walking.state.State.{State}
use Rattle.cc_engine.specs.Lookup.{positional_at}
use Rattle.cc_engine.specs.Asked.{argument_within, arguments_of_lists, asked_argument, offered_positional, opened_argument, unless_dash}
use Rattle.cc_engine.specs.Completion.{offered_match}
use Rattle.cc_engine.specs.declared.open_lists.OpenLists.{OpenLists}
use Rattle.cc_engine.specs.OpenLists.{open_lists_by}
use Rattle.cc_engine.proofs.Asking.{is_some_copied, second_is, third_is}
use Rattle.cc_engine.proofs.asked.asked_at.Goals as goal

abbrev with_source : Option Arg → Option Arg
with_source argument = find has_source (option_to_list argument)

-- these arguments and lists are those at the node
at_node : (tree : Tree) (state : State) (word : List ℕ) (arguments : List Arg) (lists : OpenLists) → arguments ≡ tree.node.arguments
    → lists ≡ open_lists_by arguments state.position state.escaped state.pending
    → find has_source (arguments_of_lists arguments state.position lists state.pending word) ≡ asked_argument tree state word
at_node tree state word arguments lists are is =
    ap (λ (lists : OpenLists). find has_source (arguments_of_lists arguments state.position lists state.pending word)) is
    ∙ ap (λ (arguments : List Arg). find has_source (arguments_of_lists arguments state.position
    (open_lists_by arguments state.position state.escaped state.pending) state.pending word)) are

pub returns-then-is_some-2 : goal.returns-then-is_some-2
returns-then-is_some-2 c =
    let state = c.args.state.now in
    let arguments = c.get_arguments-arguments.result.now in
    let lists = c.new-lists.result in
    let word = c.args.word.now in
    let none : is_some c.with_source-opened.result ≡ false = search rules in
    let some : is_some c.with_source-within.result ≡ true = search rules in
    second_is has_source (unless_dash word (opened_argument state.pending)) (argument_within (offered_match lists.options arguments word))
    (unless_dash word (offered_positional (positional_at arguments state.position) lists.value))
    (option_copied c.with_source-opened.result) (option_copied c.with_source-within.result)
    (c.with_source-opened.ensures ∙ ap with_source (c.unless_dash.ensures ∙ ap (unless_dash word) c.opened_argument.ensures))
    (is_some_copied c.with_source-opened.result ∙ none)
    (c.with_source-within.ensures ∙ ap with_source c.in_ok-argument_within.ensures) (is_some_copied c.with_source-within.result ∙ some)
    ∙ at_node c.args.command.now state word arguments lists c.get_arguments-arguments.ensures c.new-lists.ensures

pub returns : goal.returns
returns c =
    let state = c.args.state.now in
    let arguments = c.get_arguments-arguments.result.now in
    let lists = c.new-lists.result in
    let word = c.args.word.now in
    let none : is_some c.with_source-opened.result ≡ false = search rules in
    let neither : is_some c.with_source-within.result ≡ false = search rules in
    third_is has_source (unless_dash word (opened_argument state.pending)) (argument_within (offered_match lists.options arguments word))
    (unless_dash word (offered_positional (positional_at arguments state.position) lists.value))
    (option_copied c.with_source-opened.result) (option_copied c.with_source-within.result) (option_copied c.with_source.result)
    (c.with_source-opened.ensures ∙ ap with_source (c.unless_dash.ensures ∙ ap (unless_dash word) c.opened_argument.ensures))
    (is_some_copied c.with_source-opened.result ∙ none)
    (c.with_source-within.ensures ∙ ap with_source c.in_ok-argument_within.ensures) (is_some_copied c.with_source-within.result ∙ neither)
    (c.with_source.ensures ∙ ap with_source (c.unless_dash-2.ensures ∙ ap (unless_dash word) c.offered_positional-positional.ensures))
    ∙ at_node c.args.command.now state word arguments lists c.get_arguments-arguments.ensures c.new-lists.ensures
