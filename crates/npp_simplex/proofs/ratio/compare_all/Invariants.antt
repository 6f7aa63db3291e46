use Rattle.std.proofs.Common.{◌≡◌, ℕ, ◌<◌, map, slice_index, Some, None}
use Rattle.npp_frac.specs.Fits.{limit_of}
use Rattle.npp_lp.specs.Programs.{at}
use Rattle.npp_lp.specs.Verdict.{first_below}
use Rattle.npp_simplex.specs.Ratio.{compared}
use Rattle.npp_simplex.specs.Places.{quotient_stop}
use Rattle.npp_simplex.proofs.ratio.compare_all.Given as goal

abbrev pub invariant-loop-s : goal.invariant-loop-s
invariant-loop-s g l = record {
  done : (k : ℕ) → k < l.s → at (map g.N.Exact.rational l.numbers) k ≡ compared l.entering.stage l.tableau l.entering.column l.key (slice_index l.candidates k);
  stop : first_below l.s (λ k. quotient_stop (Some (limit_of g.N.Exact.WIDTH)) l.entering.stage l.tableau l.entering.column l.key (slice_index l.candidates k)) ≡ None;
}
