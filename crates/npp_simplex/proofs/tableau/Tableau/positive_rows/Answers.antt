use Rattle.std.proofs.Common.{ℕ, Bool, sym, ◌∙◌, arith}
use Rattle.npp_frac.specs.Rational.{zero_ℚ, is_less}
use Rattle.npp_simplex.specs.Tableau.{cell}
use Rattle.npp_simplex.proofs.Reading.{kept_yes, kept_no}
use Rattle.npp_simplex.proofs.tableau.Tableau.positive_rows.Goals as goal
use Rattle.npp_simplex.proofs.tableau.Tableau.positive_rows.Goals.{then-is_positive, else-is_positive}

pub loop-i-preserved : goal.loop-i-preserved
loop-i-preserved g c =
    let p : ℕ → Bool = λ i. is_less zero_ℚ (cell c.args.self.now i c.args.column) in
    let test = sym c.is_positive.ensures in
    elim c.if-is_positive.branch [
      | then-is_positive w ↦ record {
        within = omega arith;
        rows = kept_yes p c.loop-i.list c.if-is_positive.list c.loop-i.count c.if-is_positive.count c.loop-i.i c.loop-i.invariant.within (omega arith) c.loop-i.invariant.rows (test ∙ w.if-is_positive.true) w.list-is w.count-is;
      }
      | else-is_positive w ↦ record {
        within = omega arith;
        rows = kept_no p c.loop-i.list c.if-is_positive.list c.loop-i.count c.if-is_positive.count c.loop-i.i c.loop-i.invariant.rows (test ∙ w.if-is_positive.false) w.list-is w.count-is;
      }
    ]
