use Rattle.std.proofs.Common.{ℕ, ◌+◌}
use Rattle.npp_frac.specs.Rational.{Rational}
use Rattle.npp_simplex.specs.Tableau.{cell}
use Rattle.npp_simplex.specs.Vectors.{basic_row, basic_value}
use Rattle.npp_simplex.proofs.Gathering.{gathered_more}
use Rattle.npp_simplex.proofs.vectors.point.Goals as goal

pub loop-j-preserved : goal.loop-j-preserved
loop-j-preserved g c =
    let new : ℕ → Rational = λ j. basic_value (λ i. cell c.args.tableau.now i (c.args.tableau.now.columns + c.args.tableau.now.rows + 1)) (basic_row c.args.basis.now j) in
    gathered_more g.N.Exact.rational c.loop-j.numbers.items _ new c.loop-j.j _ c.in-Ok.ensures.items c.loop-j.invariant (c.point_number.ensures)
