use Rattle.std.proofs.Common.{◌≡◌, Ok, map, get_or}
use Rattle.npp_frac.specs.Fits.{limit_of}
use Rattle.npp_lp.specs.Programs.{at}
use Rattle.npp_lp.specs.Sums.{checked_sum}
use Rattle.npp_lp.specs.Checked.{no_term}
use Rattle.npp_lp.specs.Meaning.{terms_of}
use Rattle.npp_lp.proofs.sums.row_sum.Given as goal

-- the entries so far give the sum so far
abbrev pub invariant-loop-entry : goal.invariant-loop-entry
invariant-loop-entry g l =
    let terms = terms_of g.N.Exact.rational l.row in
    checked_sum (limit_of g.N.Exact.WIDTH) l.entry-index (λ k. (get_or terms k no_term).value) (λ k. at (map g.N.Exact.rational l.x) (get_or terms k no_term).column) ≡ Ok (g.N.Exact.rational l.sum)
