use Rattle.std.proofs.Common.{◌∙◌, ap, sym, Some}
use Rattle.std.proofs.lemmas.Slice.Eq.{bytes_eq-Decides}
use Rattle.complgen_c.proofs.RequestLemmas.{same_texts}
use Rattle.complgen_c.proofs.listed.ListedFolder.names.Goals as goal

pub returns-then-eq-clause-ok : goal.returns-then-eq-clause-ok
returns-then-eq-clause-ok c = (
  sym c.as_bytes.ensures.value
      ∙ sym ((bytes_eq-Decides c.args.self.now.path.now c.as_bytes.result.now).0
      (sym c.eq.ensures ∙ c.if-eq.true)),
  ap Some (same_texts c.args.self.now.names.items c.in_ok-clone.field-0.items c.in_ok-clone.ensures.cases.0),
)
