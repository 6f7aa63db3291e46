use Rattle.std.proofs.Common.{◌∙◌, ◌≤◌, ap, subst, ℕ, List, length, drop, arith, length-drop}
use Rattle.npp_stream.proofs.PieceLemmas.{behind_place}
use Rattle.npp_upgrade.specs.Splice.{line_end}
use Rattle.npp_upgrade.proofs.EndLemmas.{none_passed, one_passed, all_passed}
use Rattle.npp_upgrade.proofs.splice.lines_end.Goals as goal

pub loop-init : goal.loop-init
loop-init c = (omega arith, none_passed c.args.count c.args.bytes.now)

pub loop-preserved : goal.loop-preserved
loop-preserved c =
    let part = behind_place c.args.bytes.now c.loop.end in
    let within : c.line_end-end.result ≤ length (drop c.loop.end c.args.bytes.now) = subst (λ (p : List ℕ). c.line_end-end.result ≤ length p) part c.line_end-end.ensures.within in (
      omega (arith, within, length-drop c.loop.end c.args.bytes.now, c.loop.invariant.0),
      one_passed c.args.count c.args.bytes.now c.loop.counter c.loop.end c.line_end-end.result (omega (arith, c.loop-test.true)) (c.line_end-end.ensures.end ∙ ap line_end part) c.loop.invariant.1,
    )

pub returns-clause-end : goal.returns-clause-end
returns-clause-end c = all_passed c.args.count c.args.bytes.now c.loop.counter c.loop.end (omega (arith, c.loop-test.false)) c.loop.invariant.1
