use Rattle.std.proofs.Common.{ℕ, ◌+◌, ap, ◌∙◌}
use Rattle.npp_frac.specs.Rational.{Rational, negative}
use Rattle.npp_simplex.specs.Tableau.{cell}
use Rattle.npp_simplex.proofs.Gathering.{gathered_more}
use Rattle.npp_simplex.proofs.vectors.multipliers.Goals as goal

pub loop-k-preserved : goal.loop-k-preserved
loop-k-preserved g c =
    let new : ℕ → Rational = λ k. negative (cell c.args.tableau.now c.args.goal (c.args.tableau.now.columns + k)) in
    gathered_more g.N.Exact.rational c.loop-k.numbers.items _ new c.loop-k.k _ c.in-Ok.ensures.items c.loop-k.invariant (c.negated.ensures ∙ ap negative (c.entry.ensures ∙ ap (λ n. cell c.args.tableau.now c.args.goal (n + c.loop-k.k)) c.shape-shape.ensures.columns))
