use Rattle.std.proofs.Common.{◌≡◌, ◌++◌, ◌-◌, ℕ, suc, ap, length, length-append, sym, ◌∙◌, append_assoc, rules, arith}
use Rattle.std.proofs.lemmas.Result.{err_from_is_err_and}
use Rattle.cc_base.proofs.Stopped.{stops_within}
use Rattle.cc_zsh.specs.Values.{one_value, times}
use Rattle.cc_zsh.proofs.values.write_times.Goals as goal

pub loop-left-preserved : goal.loop-left-preserved
loop-left-preserved g c =
    let left = c.loop-left.left in
    let one = one_value c.args.argument.now in
    let taken = g.W.Sink.taken c.loop-left.sink in
    let more : left ≡ suc (left - 1) = omega (arith, c.loop-left-test.true) in
    record {
      whole = ap (λ t. t ++ times (left - 1) one) c.in_ok-write_one.ensures.ok
          ∙ append_assoc taken one (times (left - 1) one)
          ∙ ap (λ n. taken ++ times n one) (sym more) ∙ c.loop-left.invariant.whole;
      least =
          let took = ap length c.in_ok-write_one.ensures.ok in
          omega (arith, length-append {A = ℕ}, took, c.loop-left.invariant.least);
      failures = search rules;
    }

pub returns-in_err-write_one : goal.returns-in_err-write_one
returns-in_err-write_one g c =
    let p = err_from_is_err_and c.from_residual.result c.from_residual.ensures.1 in
    let left = c.loop-left.left in
    let one = one_value c.args.argument.now in
    let more : left ≡ suc (left - 1) = omega (arith, c.loop-left-test.true) in
    rw (p.1, p.2) (stops_within _ one (times (left - 1) one)
    (record {
      whole = ap (λ n. g.W.Sink.taken c.loop-left.sink ++ times n one) (sym more)
          ∙ c.loop-left.invariant.whole;
      least = c.loop-left.invariant.least;
      failures = c.loop-left.invariant.failures;
    }) c.in_err-write_one.ensures)
