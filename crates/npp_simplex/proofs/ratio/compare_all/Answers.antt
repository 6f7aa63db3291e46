use Rattle.std.proofs.Common.{ℕ, slice_index, Some, sym, arith}
use Rattle.npp_frac.specs.Rational.{Rational}
use Rattle.npp_frac.specs.Fits.{limit_of}
use Rattle.npp_simplex.specs.Ratio.{compared}
use Rattle.npp_simplex.proofs.Rows.{filled_more}
use Rattle.npp_simplex.proofs.Comparing.{stop_found, stop_more}
use Rattle.npp_simplex.proofs.ratio.compare_all.Goals as goal

pub returns-in-None-clause-stop : goal.returns-in-None-clause-stop
returns-in-None-clause-stop g c =
    sym (stop_found (Some (limit_of g.N.Exact.WIDTH)) c.args.entering.stage c.args.tableau.now c.args.entering.column c.args.key c.args.candidates.now c.loop-s.s (omega arith) c.loop-s.invariant.stop c.in-None.ensures.fits)

pub loop-s-preserved : goal.loop-s-preserved
loop-s-preserved g c =
    let v = g.N.Exact.rational in
    let t = c.args.tableau.now in
    let new : ℕ → Rational = λ k. compared c.args.entering.stage t c.args.entering.column c.args.key (slice_index c.args.candidates.now k) in
    record {
      done = filled_more v c.loop-s.numbers new c.loop-s.s c.in-Some.number c.loop-s.invariant.done (omega arith) c.in-Some.ensures.exact;
      stop = stop_more (Some (limit_of g.N.Exact.WIDTH)) c.args.entering.stage t c.args.entering.column c.args.key c.args.candidates.now c.loop-s.s c.loop-s.invariant.stop c.in-Some.ensures.fits;
    }
