use Rattle.std.proofs.Common.{◌≡◌, ◌∙◌, ap, refl, subst, length, map, rules, string_bytes}
use denote.Param.Object.{read_made}
use Rattle.clap_complete.specs.cc_candidates.Candidate.{new_candidate}
use Rattle.cc_caller.specs.KnownNames.{names_beginning}
use Rattle.cc_caller.proofs.Offering.{memory_alone, offers_tools}
use Rattle.cc_caller.proofs.known_names.tools.OwnLists.{own-1, at-1-1}
use Rattle.cc_caller.proofs.known_names.tools.Goals as goal

pub returns-clause-ok : goal.returns-clause-ok
returns-clause-ok g c =
    offers_tools (λ found. found.items) _ c.in_ok-known.known (map string_bytes c.args.names.items) (string_bytes c.args.word)
    (map string_bytes c.push-2.new.self.items) c.in_ok-command.command c.complete.new.command c.complete.result
    c.in_ok-command.ensures.ok (search rules) c.complete.ensures.built c.complete.ensures.candidates
    (λ list returned.
    let e = read_made own-1 (own-1.entry at-1-1) at-1-1 refl (Type 0) (λ j v. j.1.completes v 0 (string_bytes c.args.word) list)
    c.into_dyn_box.result.vtable c.into_dyn_box.result.value c.in_ok-new.field-0.value c.into_dyn_box.ensures.1 in
    let is : list ≡ map new_candidate (names_beginning (map string_bytes c.in_ok-new.field-0.value.names.items) (string_bytes c.args.word)) =
    subst (λ (P : Type 0). P) e (((c.in_ok-known.ensures.added 0 (string_bytes c.args.word)).is_item list).0 returned) in
    is ∙ ap (λ known. map new_candidate (names_beginning (map string_bytes known.names.items) (string_bytes c.args.word))) c.in_ok-new.ensures.ok)

pub returns-clause-memory : goal.returns-clause-memory
returns-clause-memory g c =
    memory_alone _ c.in_ok-command.command c.complete.new.command (length c.push-2.new.self.items) c.complete.result c.in_ok-command.ensures.ok (search rules) c.complete.ensures.errors
