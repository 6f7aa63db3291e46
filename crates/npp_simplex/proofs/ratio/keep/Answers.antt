use Rattle.std.proofs.Common.{◌≡◌, ℕ, Bool, map, not, sym, ap, ◌∙◌, arith}
use Rattle.npp_frac.specs.Rational.{is_less}
use Rattle.npp_lp.specs.Programs.{at}
use Rattle.npp_simplex.proofs.Tables.{at_read}
use Rattle.npp_simplex.proofs.Comparing.{kept_row, passed_row, rest_kept, rest_same}
use Rattle.npp_simplex.proofs.ratio.keep.Goals as goal
use Rattle.npp_simplex.proofs.ratio.keep.Goals.{then-not-is_below, else-not-is_below}

pub loop-s-preserved : goal.loop-s-preserved
loop-s-preserved g c =
    let v = g.N.Exact.rational in
    let p : ℕ → Bool = λ k. not (is_less (v c.args.best) (at (map v c.args.numbers.now) k)) in
    let i = c.loop-s.s in
    let test : is_less (v c.args.best) (at (map v c.args.numbers.now) i) ≡ c.is_below.result = ap (is_less (v c.args.best)) (at_read v c.args.numbers.now i c.index-numbers-s.result (omega arith) c.index-numbers-s.is) ∙ sym c.is_below.ensures in
    elim c.if-not-is_below.branch [
      | then-not-is_below w ↦ record {
        within = omega arith;
        rest = rest_kept c.args.candidates.now p c.loop-s.candidates c.if-not-is_below.candidates c.loop-s.kept i _ c.loop-s.invariant.within c.loop-s.invariant.rest w.candidates-is;
        rows = kept_row c.args.candidates.now p c.loop-s.candidates c.if-not-is_below.candidates c.loop-s.kept c.if-not-is_below.kept i _ c.loop-s.invariant.within (omega arith) c.loop-s.invariant.rows (ap not (test ∙ w.if-not-is_below.true)) (c.loop-s.invariant.rest i (omega arith)) w.candidates-is w.kept-is;
      }
      | else-not-is_below w ↦ record {
        within = omega arith;
        rest = rest_same c.args.candidates.now p c.loop-s.candidates c.if-not-is_below.candidates i c.loop-s.invariant.rest w.candidates-is;
        rows = passed_row c.args.candidates.now p c.loop-s.candidates c.if-not-is_below.candidates c.loop-s.kept c.if-not-is_below.kept i c.loop-s.invariant.rows (ap not (test ∙ w.if-not-is_below.false)) w.candidates-is w.kept-is;
      }
    ]
