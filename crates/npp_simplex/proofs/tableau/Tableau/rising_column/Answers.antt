use Rattle.std.proofs.Common.{◌+◌, sym, ◌∙◌, arith}
use Rattle.npp_lp.specs.VerdictLaws.{first_below_found}
use Rattle.npp_simplex.specs.Ratio.{rising_at}
use Rattle.npp_simplex.proofs.Reading.{rises}
use Rattle.npp_simplex.proofs.tableau.Tableau.rising_column.Goals as goal

pub returns-then-is_positive-clause-column : goal.returns-then-is_positive-clause-column
returns-then-is_positive-clause-column g c =
    let t = c.args.self.now in
    let here = rises t c.args.goal c.loop-j.j (sym c.is_positive.ensures ∙ c.if-is_positive.true) in
    sym (first_below_found (rising_at t c.args.goal) (c.args.self.now.columns + c.args.self.now.rows) c.loop-j.j c.loop-j.j (omega arith) c.loop-j.invariant here)
