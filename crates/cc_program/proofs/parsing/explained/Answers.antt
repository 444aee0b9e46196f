use Rattle.std.proofs.Common.{◌∙◌, List, ℕ, ap, refl, subst, sym}
use Rattle.std.proofs.lemmas.Result.{err_from_is_err_and}
use Rattle.clap.specs.declared.error.kind.ErrorKind.{ErrorKind}
use Rattle.cc_program.specs.Messages.{SaysText, explained, is_out_of_memory, unexplained}
use Rattle.cc_program.proofs.parsing.explained.Goals as goal

pub returns-then-is_out_of_memory : goal.returns-then-is_out_of_memory
returns-then-is_out_of_memory g c = unexplained refl

pub returns-in_err-text : goal.returns-in_err-text
returns-in_err-text g c =
    let p = err_from_is_err_and c.from_residual.result c.from_residual.ensures.1 in
    rw (p.1, p.2) (unexplained refl)

pub returns : goal.returns
returns g c =
    explained c.as_str.result.now _
    (sym (c.is_out_of_memory.ensures ∙ ap is_out_of_memory c.kind.ensures) ∙ c.if-is_out_of_memory.false)
    (subst (λ (text : List ℕ). g.P.WordParser.says c.args.parser.now c.args.error.now text) (sym c.as_str.ensures.value) c.in_ok-text.ensures)
    (subst (λ (kind : ErrorKind). SaysText g.O.Sink g.X.Sink kind c.args.streams.now c.say.new.streams c.as_str.result.now c.say.result)
    c.kind-2.ensures c.say.ensures)
