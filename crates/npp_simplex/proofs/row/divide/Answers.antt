use Rattle.std.proofs.Common.{ℕ, Bool, map, length, ap, sym, ◌∙◌, arith}
use Rattle.npp_frac.specs.Rational.{Rational, ◌/ℚ◌}
use Rattle.npp_frac.specs.Fits.{limit_of, fits_div}
use Rattle.npp_lp.specs.Programs.{at}
use Rattle.npp_simplex.proofs.Tables.{at_read}
use Rattle.npp_simplex.proofs.Rows.{replaced_more, stopped_at}
use Rattle.npp_simplex.proofs.row.divide.Goals as goal

pub returns-in-None-clause-stop : goal.returns-in-None-clause-stop
returns-in-None-clause-stop g c =
    let v = g.N.Exact.rational in
    let m = limit_of g.N.Exact.WIDTH in
    let read = sym (at_read v c.loop-j.row c.loop-j.j c.index-row-j.result (omega arith) c.index-row-j.is) ∙ c.loop-j.invariant.rest c.loop-j.j (omega arith) in
    let new : ℕ → Rational = λ k. at (map v c.args.row.now) k /ℚ v c.args.divisor in
    let fits : ℕ → Bool = λ k. fits_div m (at (map v c.args.row.now) k) (v c.args.divisor) in
    sym (stopped_at v (length c.args.row.now) c.args.row.now c.loop-j.row new fits c.loop-j.j c.loop-j.invariant (omega arith) (sym (ap (λ t. fits_div m t (v c.args.divisor)) read) ∙ sym c.in-None.ensures.fits))

pub loop-j-preserved : goal.loop-j-preserved
loop-j-preserved g c =
    let v = g.N.Exact.rational in
    let m = limit_of g.N.Exact.WIDTH in
    let read = sym (at_read v c.loop-j.row c.loop-j.j c.index-row-j.result (omega arith) c.index-row-j.is) ∙ c.loop-j.invariant.rest c.loop-j.j (omega arith) in
    let new : ℕ → Rational = λ k. at (map v c.args.row.now) k /ℚ v c.args.divisor in
    let fits : ℕ → Bool = λ k. fits_div m (at (map v c.args.row.now) k) (v c.args.divisor) in
    replaced_more v c.args.row.now c.loop-j.row new fits c.loop-j.j c.in-Some.quotient c.loop-j.invariant (omega arith) (c.in-Some.ensures.exact ∙ ap (λ t. t /ℚ v c.args.divisor) read) (sym (ap (λ t. fits_div m t (v c.args.divisor)) read) ∙ sym c.in-Some.ensures.fits)
