use Rattle.std.proofs.Common.{◌≡◌, ◌-◌, ◌∙◌, ap, map, filter, length, arith, subst, sym}
use Rattle.std.specs.String.{string_bytes}
use Rattle.cc_base.specs.PlainName.{is_plain_name}
use Rattle.complgen_live.specs.KnownNames.{each_once, is_odd_name, is_other_name}
use Rattle.complgen_live.specs.TreeFiles.{stems}
use Rattle.complgen_live.specs.Registrations.{ArePlain}
use Rattle.complgen_live.proofs.Names.{counted}
use Rattle.complgen_live.proofs.PlainKnown.{known_plain}
use Rattle.complgen_live.proofs.known.known_names.Goals as goal

pub overflow_sub-passed_over : goal.overflow_sub-passed_over
overflow_sub-passed_over g c =
    omega (
      arith,
      c.len.ensures,
      c.len-count.ensures,
      counted string_bytes string_bytes c.in_ok-stems.stems.items c.in_ok-plain.plain.items c.in_ok-plain.ensures,
    )

pub new-requires : goal.new-requires
new-requires g c =
    subst ArePlain
    (sym (c.in_ok-each_once.ensures ∙ ap each_once (c.in_ok-names-2.ensures
    ∙ ap (filter is_other_name) c.in_ok-plain.ensures)))
    (known_plain (map string_bytes c.in_ok-stems.stems.items))

pub returns : goal.returns
returns g c =
    let listed = map string_bytes c.in_ok-names.names.items in
    let are_stems : map string_bytes c.in_ok-stems.stems.items ≡ stems listed =
    c.in_ok-stems.ensures
    ∙ ap (λ names. stems (map string_bytes names)) c.as_slice.ensures.value in
    let left_out : c.len-count.result - c.len.result
    ≡ length (filter is_odd_name (map string_bytes c.in_ok-stems.stems.items)) =
    omega (
      arith,
      c.len.ensures,
      c.len-count.ensures,
      counted string_bytes string_bytes c.in_ok-stems.stems.items c.in_ok-plain.plain.items c.in_ok-plain.ensures,
    ) in
    record {
      listed = listed;
      are_listed = c.in_ok-names.ensures;
      known_are = c.new.ensures ∙ c.in_ok-each_once.ensures
          ∙ ap each_once (c.in_ok-names-2.ensures ∙ ap (filter is_other_name) (c.in_ok-plain.ensures
          ∙ ap (filter is_plain_name) are_stems));
      passed_over_is = left_out ∙ ap (λ names. length (filter is_odd_name names)) are_stems;
    }
