use Rattle.std.proofs.Common.{◌≡◌, ℕ, Bool, not, ap, ◌∙◌, arith}
use Rattle.npp_lp.specs.Programs.{at}
use Rattle.npp_simplex.specs.Steps.{is_nonzero}
use Rattle.npp_simplex.proofs.Reading.{kept_yes, kept_no}
use Rattle.npp_simplex.proofs.Nonzero.{test_nonzero}
use Rattle.npp_simplex.proofs.line.Line.nonzero_columns.Goals as goal
use Rattle.npp_simplex.proofs.line.Line.nonzero_columns.Goals.{then-not-is_zero, else-not-is_zero}

pub loop-j-preserved : goal.loop-j-preserved
loop-j-preserved g c =
    let p : ℕ → Bool = λ j. is_nonzero (at c.args.self.now j) in
    let test : p c.loop-j.j ≡ not c.is_zero.result = test_nonzero (at c.args.self.now c.loop-j.j) c.is_zero.result c.is_zero.ensures in
    elim c.if-not-is_zero.branch [
      | then-not-is_zero w ↦ record {
        within = omega arith;
        columns = kept_yes p c.loop-j.columns c.if-not-is_zero.columns c.loop-j.count c.if-not-is_zero.count c.loop-j.j c.loop-j.invariant.within (omega arith) c.loop-j.invariant.columns (test ∙ ap not w.if-not-is_zero.true) w.columns-is w.count-is;
      }
      | else-not-is_zero w ↦ record {
        within = omega arith;
        columns = kept_no p c.loop-j.columns c.if-not-is_zero.columns c.loop-j.count c.if-not-is_zero.count c.loop-j.j c.loop-j.invariant.columns (test ∙ ap not w.if-not-is_zero.false) w.columns-is w.count-is;
      }
    ]
