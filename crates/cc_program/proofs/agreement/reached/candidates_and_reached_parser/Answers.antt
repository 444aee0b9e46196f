use Rattle.std.proofs.Common.{◌≡◌, ◌∙◌, IsTrue, List, ℕ, ap, length, map, string_bytes, subst, sym, true, refl, suc, [], ◌∷◌, ◌++◌, Bool, false, cond, Some}
use Rattle.std.proofs.lemmas.List.{length-map, append-nil}
use Rattle.std.specs.List.{All, AllByRecursion, list_all}
use Rattle.std.specs.Prelude.{⊤, get_or, unwrap_or}
use Rattle.std.proofs.lemmas.List.Elements.{All-head, All-tail}
use Rattle.std.proofs.lemmas.Bool.{and_parts}
use Rattle.clap.specs.Words.{app_of}
use Rattle.cc_command.specs.Built.{built_tree, built_forest, propagated}
use Rattle.cc_command.specs.Tree.{Tree, Forest, none, more, join}
use Rattle.cc_engine.specs.Completion.{is_in_range, words_before, Completes}
use Rattle.cc_arg.specs.declared.parts.ArgParts.{ArgParts as Arg}
use Rattle.cc_candidates.specs.declared.candidate.CompletionCandidate.{CompletionCandidate}
use Rattle.cc_command.specs.Generated.{copies, help_child, help_command, needs_help_child}
use Rattle.cc_command.specs.Names.{find_child, full_name, has_name, joined_name}
use Rattle.cc_command.specs.Texts.{help_name}
use Rattle.cc_command.specs.declared.node.Node.{Node}
use Rattle.cc_engine.specs.Values.{MayReturn}
use Rattle.cc_parser.specs.Taken.{TakesOffered, fits_parser, has_index_or_name}
use Rattle.cc_engine.specs.Reach.{Descend, NamesNoChild, Reach, Stay}
use Rattle.clap.specs.Simple.{App}
use Rattle.cc_program.specs.Reached.{reached}
use Rattle.cc_program.specs.ParserAgreement.{AgreesWhereWordsLead, IsTaken, values_among}
use Rattle.cc_program.proofs.Offers.{completes_built, all_taken}
use Rattle.cc_program.proofs.agreement.reached.candidates_and_reached_parser.Goals as goal

-- ---- where the words lead

reached-skipped : (tree : Tree) (words rest : List (List ℕ)) → All (NamesNoChild tree) words
    → reached tree (words ++ rest) ≡ reached tree rest
reached-skipped tree [] rest all = refl
reached-skipped tree (word ∷ words) rest all =
    ap (λ found. reached (unwrap_or found tree) (words ++ rest)) (All-head (NamesNoChild tree) word words all)
    ∙ reached-skipped tree words rest (All-tail (NamesNoChild tree) word words all)

reached-is : {tree last : Tree} {words tail : List (List ℕ)} {before : Bool}
    → Reach tree words last tail before → reached tree words ≡ last
reached-is {tree} {last} {words} (Stay all) =
    ap (reached tree) (sym (append-nil words)) ∙ reached-skipped tree words [] all
reached-is {tree} (Descend skipped name after spell all leads way) =
    ap (reached tree) spell
    ∙ reached-skipped tree skipped (name ∷ after) all
    ∙ ap (λ found. reached (unwrap_or found tree) after) leads
    ∙ reached-is way

-- ---- each node of a built tree is built

abbrev AreBuilt : Forest → Type 0
AreBuilt none = ⊤
AreBuilt (more node below rest) = IsTrue node.built × AreBuilt below × AreBuilt rest

built_join : (one other : Forest) → AreBuilt one → AreBuilt other → AreBuilt (join one other)
built_join none other h k = k
built_join (more node below rest) other h k = (h.0, h.1, built_join rest other h.2 k)

built_copies : (parent : List ℕ) (order : ℕ) (forest : Forest) → AreBuilt (copies parent order forest)
built_copies parent order none = tt
built_copies parent order (more node below rest) =
    (refl, built_copies (joined_name parent node.name) 0 below, built_copies parent (suc order) rest)

built_help_child : (parent : List ℕ) (node : Node) (children : Forest) → AreBuilt (help_child parent node children)
built_help_child parent node children =
    let name : List ℕ = joined_name parent help_name in
    elim (needs_help_child node children) as (λ b.
    AreBuilt (cond b (help_command parent (join (copies name 0 children) (help_command name none))) none)) [
      | true ↦ (refl, built_join (copies name 0 children) (help_command name none) (built_copies name 0 children) (refl, tt, tt), tt)
      | false ↦ tt
    ]

built_siblings : (inherited : List Arg) (parent : List ℕ) (forest : Forest) → AreBuilt (built_forest inherited parent forest)
built_siblings inherited parent none = tt
built_siblings inherited parent (more node below rest) =
    let name : List ℕ = joined_name parent node.name in (
      refl,
      built_join (built_forest (propagated inherited node) name below) (help_child name node below)
          (built_siblings (propagated inherited node) name below) (built_help_child name node below),
      built_siblings inherited parent rest,
    )

abbrev IsBuilt : Tree → Type 0
IsBuilt tree = IsTrue tree.node.built × AreBuilt tree.children

built_whole : (tree : Tree) → IsBuilt (built_tree tree)
built_whole tree =
    let name : List ℕ = full_name tree.node in (
      refl,
      built_join (built_forest (propagated [] tree.node) name tree.children) (help_child name tree.node tree.children)
          (built_siblings (propagated [] tree.node) name tree.children) (built_help_child name tree.node tree.children),
    )

found_built : (tree : Tree) (forest : Forest) (word : List ℕ) → IsBuilt tree → AreBuilt forest
    → IsBuilt (unwrap_or (find_child forest word) tree)
found_built tree none word is h = is
found_built tree (more node below rest) word is h =
    elim (has_name node word) as (λ b.
    IsBuilt (unwrap_or (cond b (Some (record { node = node; children = below })) (find_child rest word)) tree)) [
      | true ↦ (h.0, h.1)
      | false ↦ found_built tree rest word is h.2
    ]

reached_built : (words : List (List ℕ)) (tree : Tree) → IsBuilt tree → IsBuilt (reached tree words)
reached_built [] tree is = is
reached_built (word ∷ words) tree is =
    reached_built words (unwrap_or (find_child tree.children word) tree)
    (found_built tree tree.children word is is.1)

-- the node to which words lead in a built tree is built
reached-built : (root : Tree) (words : List (List ℕ)) → IsTrue (reached (built_tree root) words).node.built
reached-built root words = (reached_built words (built_tree root) (built_whole root)).0

-- ---- what is offered at the node to which the words lead

agrees : (sources : MayReturn) (root tree : Tree) (app : App) (words : List (List ℕ)) (index : ℕ) (found : List CompletionCandidate)
    → tree ≡ reached root (words_before root.node words index)
    → (fits_parser tree ≡ true → TakesOffered tree app)
    → Completes sources root words index found → AgreesWhereWordsLead sources root tree app words index found
agrees sources root tree app words index found is takes completes =
    subst (λ (t : Tree). (fits_parser t ≡ true → TakesOffered t app) → AgreesWhereWordsLead sources root t app words index found)
    (sym (reached-is completes.leads.reach) ∙ sym is) (λ takes. record {
      state = completes.state;
      leads = completes.leads;
      only = completes.only;
      offers = completes.offers;
      taken = λ fits.
          subst (AllByRecursion (IsTaken completes.tree app (get_or words index []) (values_among completes.tree completes.state (get_or words index []) completes.offers.0)))
          (sym completes.offers.2)
          (all_taken completes.tree app (takes fits) (and_parts (list_all has_index_or_name completes.tree.node.arguments) _ fits).0 completes.state
          (get_or words index []) completes.offers.0);
    }) takes

-- the copies of the words are as many as the words
pub reached_command-reached-requires : goal.reached_command-reached-requires
reached_command-reached-requires g c =
    let root : Tree = c.complete_from.new.command in
    let texts = ap (map string_bytes) c.as_slice-2.ensures.value ∙ c.in_ok-line.ensures ∙ ap (map string_bytes) c.as_slice.ensures.value in
    let count : length c.as_slice-2.result.now ≡ length c.args.words.items =
    sym (length-map c.as_slice-2.result.now string_bytes) ∙ ap length texts ∙ length-map c.args.words.items string_bytes in
    ap (λ n. is_in_range root.node n c.args.index) count ∙ c.in_ok-found.ensures.in_range

pub local_parser-requires : goal.local_parser-requires
local_parser-requires g c =
    let words : List (List ℕ) = map string_bytes c.as_slice-2.result.now in
    subst (λ (tree : Tree). IsTrue tree.node.built)
    (sym (c.reached_command-reached.ensures
    ∙ ap (λ (tree : Tree). reached tree (words_before tree.node words c.args.index)) c.in_ok-found.ensures.built))
    (reached-built c.args.command.now (words_before (built_tree c.args.command.now).node words c.args.index))

pub returns : goal.returns
returns g c =
    let built = c.in_ok-found.ensures.built in
    let root : Tree = built_tree c.args.command.now in
    let words : List (List ℕ) = map string_bytes c.args.words.items in
    let texts = ap (map string_bytes) c.as_slice-2.ensures.value ∙ c.in_ok-line.ensures ∙ ap (map string_bytes) c.as_slice.ensures.value in
    let is : c.reached_command-reached.result.now ≡ reached root (words_before root.node words c.args.index) =
    c.reached_command-reached.ensures
    ∙ ap (λ (tree : Tree). reached tree (words_before tree.node (map string_bytes c.as_slice-2.result.now) c.args.index)) built
    ∙ ap (λ (line : List (List ℕ)). reached root (words_before root.node line c.args.index)) texts in
    let completes = completes_built _ _ _ _ _ _ built c.in_ok-found.ensures.candidates in record {
      candidates = completes;
      differ = c.in_ok-found.ensures.differ;
      in_range = subst (λ (tree : Tree). is_in_range tree.node (length c.args.words.items) c.args.index ≡ true) built c.in_ok-found.ensures.in_range;
      parser = record {
        is = c.in_ok-parser.ensures.app;
        no_globals = c.in_ok-parser.ensures.globals;
        taken = c.in_ok-parser.ensures.taken;
      };
      agree = agrees _ root _ (app_of c.in_ok-parser.parser) _ _ _ is c.in_ok-parser.ensures.taken completes;
      errors = tt;
    }
