-- The subcommands of a command as candidates.
use Rattle.std.specs.Prelude.{ℕ, List, [], ◌++◌, map, filter, Bool, true, Some, unwrap_or, codes, if◌then◌else◌}
use Rattle.std.specs.List.{dedup}
use Rattle.std.specs.Ordering.{eq_by_cmp}
use Rattle.cc_base.specs.Sorting.{in_order}
use Rattle.cc_candidates.specs.Beginning.{begins}
use Rattle.cc_command.specs.declared.node.Node.{Node}
use Rattle.cc_command.specs.Tree.{Forest, none, more, Tree}
use Rattle.cc_command.specs.Names.{visible_names}
use Rattle.cc_candidates.specs.declared.candidate.CompletionCandidate.{CompletionCandidate}
use Rattle.cc_candidates.specs.Candidate.{candidate_cmp, comes_before}

-- the candidate for a name of a child; its id contains the child's own name
abbrev pub child_candidate : Node → Node → Bool → List ℕ → CompletionCandidate
child_candidate parent node hidden name = record {
  value = name;
  help = node.about;
  id = Some (codes "command::" ++ node.name);
  tag = Some (unwrap_or parent.subcommand_help_heading (codes "Commands"));
  display_order = Some (unwrap_or node.display_order 999);
  hidden = hidden;
}

-- a child's visible names, then its hidden aliases as hidden candidates
abbrev pub child_candidates : Node → Node → List CompletionCandidate
child_candidates parent node =
    map (child_candidate parent node node.hide) (visible_names node)
    ++ map (child_candidate parent node true) node.aliases

-- the candidates of all siblings
abbrev pub children_candidates : Node → Forest → List CompletionCandidate
children_candidates parent none = []
children_candidates parent (more node below rest) =
    child_candidates parent node ++ children_candidates parent rest

-- the list of other programs, if the node accepts external subcommands
abbrev pub external : Node → List CompletionCandidate → List CompletionCandidate
external node programs = if node.allow_external_subcommands then programs else []

-- sorted, with equal candidates once
unfoldable pub in_candidates_order : List CompletionCandidate → List CompletionCandidate
in_candidates_order cs =
    dedup (eq_by_cmp candidate_cmp) (in_order comes_before cs)

-- the children's names and the other programs that begin with the word, sorted
unfoldable pub subcommand_candidates : Tree → List CompletionCandidate → List ℕ
    → List CompletionCandidate
subcommand_candidates tree programs word =
    in_candidates_order (filter (begins word)
    (children_candidates tree.node tree.children ++ external tree.node programs))
