-- The candidates for the name of a tool.
use Rattle.std.proofs.Common.{◌≡◌, ◌∙◌, ap, inl, inr, refl, subst, sym, ℕ, List, [], ◌∷◌, ◌++◌, Bool, true, false, Result, Ok, Err, IfErr, IfOk, OnOk, codes, map}
use Rattle.std.proofs.lemmas.Bool.{cases_Bool}
use Rattle.std.proofs.lemmas.List.{append-nil}
use Rattle.std.specs.Prelude.{not, ◌==◌}
use Rattle.clap_complete.specs.cc_base.declared.numbers.ArgValueCompleter.{ArgValueCompleter}
use Rattle.clap_complete.specs.cc_arg.declared.parts.ArgParts.{ArgParts as Arg}
use Rattle.clap_complete.specs.cc_arg.Printed.{printed, printed_names, printed_values}
use Rattle.clap_complete.specs.cc_base.Sorting.{in_order}
use Rattle.clap_complete.specs.cc_base.declared.error.Error.{Error}
use Rattle.clap_complete.specs.cc_base.declared.error.Error.TheVariants as error
use Rattle.clap_complete.specs.cc_candidates.Candidate.{new_candidate}
use Rattle.clap_complete.specs.cc_candidates.declared.candidate.CompletionCandidate.{CompletionCandidate}
use Rattle.clap_complete.specs.cc_command.Built.{built_tree}
use Rattle.clap_complete.specs.cc_command.Generated.{help_argument}
use Rattle.clap_complete.specs.cc_command.Texts.{help_name}
use Rattle.clap_complete.specs.cc_command.Tree.{Tree}
use Rattle.clap_complete.specs.cc_engine.Completion.{Completes, Offers, Refuses, is_in_range, match_candidates}
use Rattle.clap_complete.specs.cc_engine.Children.{in_candidates_order, subcommand_candidates}
use Rattle.clap_complete.specs.cc_engine.Finished.{finish}
use Rattle.clap_complete.specs.cc_engine.declared.gathering.options.OptionMatch.TheVariants.{Listed}
use Rattle.clap_complete.specs.cc_engine.OptionMatches.{match_of}
use Rattle.clap_complete.specs.cc_engine.Parts.{front_length}
use Rattle.clap_complete.specs.cc_engine.Values.{MayReturn, as_value, gather, question, values}
use Rattle.clap_complete.specs.cc_engine.Blocks.{Block, Dashes, join, start, state_after}
use Rattle.clap_complete.specs.cc_engine.declared.walking.state.State.{State}
use Rattle.clap_complete.specs.cc_engine.Destination.{WordsLeadTo}
use Rattle.clap_complete.specs.cc_engine.Lookup.{positional_at}
use Rattle.clap_complete.specs.cc_engine.Reach.{Descend, Reach, Stay}
use Rattle.cc_caller.specs.KnownNames.{OffersTools, is_bare, names_beginning, runner, tool_candidate}
use Rattle.cc_caller.proofs.Finishing.{finished_same}

-- NO WORDS BEFORE

not_empty : {A : Type 0} (before : List A) (word : A) (after : List A) → [] ≡ before ++ word ∷ after → ⊥
not_empty [] word after e = cc
not_empty (other ∷ before) word after e = cc

no_descent : {root tree : Tree} {words tail : List (List ℕ)} {before : Bool} → Reach root words tree tail before → words ≡ []
    → (tree ≡ root) × (tail ≡ []) × (before ≡ false)
no_descent (Stay all) e = (refl, e, refl)
no_descent (Descend skipped name after cut all found reach) e = absurd (not_empty skipped name after (sym e ∙ cut))

no_blocks : (blocks : List Block) → join blocks ≡ [] → blocks ≡ []
no_blocks [] e = refl
no_blocks (Dashes word ∷ blocks) e = cc
no_blocks (block ∷ blocks) e = cc

-- without words, the walk stays at the root, and nothing is pending
no_words : (root tree : Tree) (state : State) → WordsLeadTo root [] tree state → (tree ≡ root) × (state ≡ start false)
no_words root tree state leads =
    let at : (tree ≡ root) × (leads.tail ≡ []) × (leads.before ≡ false) = no_descent leads.reach refl in
    (at.0, leads.ends ∙ ap (state_after tree.node.arguments (start leads.before)) (no_blocks leads.blocks (leads.joined ∙ at.1)) ∙ ap start at.2)

-- THE WORD

-- such a word matches no option
bare_match : (arguments : List Arg) (word : List ℕ) → is_bare word ≡ true → match_of arguments word ≡ Listed []
unfolding match_of
bare_match arguments [] bare = cc
bare_match arguments (byte ∷ bytes) bare =
    elim (cases_Bool (byte == 45)) [ inl t ↦ (let apart : false ≡ true = ap not (sym t) ∙ bare in cc) | inr f ↦ rw f refl ]

-- the candidates of names, as values of the argument
as_tools : (names : List (List ℕ)) → map (as_value [] (codes "[tool]")) (map new_candidate names) ≡ map tool_candidate names
as_tools [] = refl
as_tools (name ∷ names) = ap (λ cs. tool_candidate name ∷ cs) (as_tools names)

-- the candidates for the word at the root, if the completer returns these names
at_root : (sources : MayReturn) (completer : ArgValueCompleter) (names : List (List ℕ)) (word : List ℕ) (found : List CompletionCandidate)
    → ((list : List CompletionCandidate) → sources.completes completer.number 0 word list → list ≡ map new_candidate names)
    → Offers sources (built_tree (runner completer)) (start false) word found → is_bare word ≡ true → found ≡ map tool_candidate names
unfolding positional_at help_argument help_name question front_length values gather printed printed_names printed_values subcommand_candidates in_candidates_order in_order
at_root sources completer names word found returns (returned, allowed, is) bare =
    is
    ∙ ap (λ row. finish (map (as_value [] (codes "[tool]")) returned.positional ++ match_candidates row returned.within)) (bare_match (built_tree (runner completer)).node.arguments word bare)
    ∙ ap finish (append-nil (map (as_value [] (codes "[tool]")) returned.positional))
    ∙ ap (λ list. finish (map (as_value [] (codes "[tool]")) list)) (returns returned.positional allowed.positional)
    ∙ ap finish (as_tools names)
    ∙ finished_same names

-- THE CALL

-- the candidates of a call, if the completer of the argument returns these names
pub offers_tools : {A : Type 0} (items : A → List CompletionCandidate) (sources : MayReturn) (completer : ArgValueCompleter)
    (names : List (List ℕ)) (word : List ℕ) (words : List (List ℕ)) (old new : Tree) (result : Result A Error)
    → old ≡ runner completer → words ≡ codes "run" ∷ word ∷ []
    → OnOk result (new ≡ built_tree old)
    → IfOk result (λ found. Completes sources new words 1 (items found))
    → ((list : List CompletionCandidate) → sources.completes completer.number 0 word list → list ≡ map new_candidate (names_beginning names word))
    → IfOk result (λ found. OffersTools names word (items found))
offers_tools items sources completer names word words old new (Ok found) old_is words_are built completes returns =
    let at : Completes sources (built_tree (runner completer)) (codes "run" ∷ word ∷ []) 1 (items found) =
    subst (λ t. Completes sources t (codes "run" ∷ word ∷ []) 1 (items found)) (built ∙ ap built_tree old_is)
    (subst (λ ws. Completes sources new ws 1 (items found)) words_are completes) in
    let stays : (at.tree ≡ built_tree (runner completer)) × (at.state ≡ start false) = no_words (built_tree (runner completer)) at.tree at.state at.leads in
    at_root sources completer (names_beginning names word) word (items found) returns
    (subst (λ state. Offers sources (built_tree (runner completer)) state word (items found)) stays.1
    (subst (λ tree. Offers sources tree at.state word (items found)) stays.0 at.offers))
offers_tools items sources completer names word words old new (Err e) old_is words_are built completes returns = tt

-- the index is in range, so `Memory` is the only error
pub memory_alone : {A : Type 0} (completer : ArgValueCompleter) (old new : Tree) (count : ℕ) (result : Result A Error) → old ≡ runner completer → count ≡ 2
    → IfErr result (Refuses old new count 1) → IfErr result (λ e. e ≡ error.Memory)
memory_alone completer old new count (Ok found) old_is count_is refuses = tt
memory_alone completer old new count (Err error.Memory) old_is count_is refuses = refl
memory_alone completer old new count (Err error.NoCompletion) old_is count_is refuses =
    let out = subst (λ n. is_in_range new.node n 1 ≡ false) count_is refuses.1 in
    let apart : true ≡ false = subst (λ t. is_in_range t.node 2 1 ≡ false) (refuses.0 ∙ ap built_tree old_is) out in cc
memory_alone completer old new count (Err _) old_is count_is refuses = absurd refuses
