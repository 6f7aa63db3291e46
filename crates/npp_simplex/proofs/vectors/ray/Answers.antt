use Rattle.std.proofs.Common.{ℕ}
use Rattle.npp_frac.specs.Rational.{Rational}
use Rattle.npp_simplex.specs.Vectors.{ray_value}
use Rattle.npp_simplex.proofs.Gathering.{gathered_more}
use Rattle.npp_simplex.proofs.vectors.ray.Goals as goal

pub loop-j-preserved : goal.loop-j-preserved
loop-j-preserved g c =
    let new : ℕ → Rational = ray_value c.args.tableau.now c.args.basis.now c.args.column in
    gathered_more g.N.Exact.rational c.loop-j.numbers.items _ new c.loop-j.j _ c.in-Ok.ensures.items c.loop-j.invariant (c.ray_number.ensures)
