use Rattle.std.proofs.Common.{◌≡◌, ℕ, ◌<◌, ◌≤◌, take, slice_index, Some}
use Rattle.npp_frac.specs.Fits.{limit_of}
use Rattle.npp_simplex.specs.Ratio.{compared, keys}
use Rattle.npp_simplex.specs.Meaning.{IsCandidate}
use Rattle.npp_simplex.proofs.RowPairs.{IsFirst, AllFit}
use Rattle.npp_simplex.proofs.pairs.leaving_by_pairs.Given as goal

abbrev pub invariant-loop-s : goal.invariant-loop-s
invariant-loop-s g l = record {
  first : IsFirst (compared l.entering.stage l.tableau l.entering.column) (keys l.tableau) (take l.s l.candidates) l.best;
  fits : 2 ≤ l.s → (i : ℕ) → i < l.s → AllFit (Some (limit_of g.N.Exact.WIDTH)) l.entering.stage l.tableau l.entering.column (slice_index l.candidates i);
  best : IsCandidate l.tableau l.entering.column l.best;
  place : (i : ℕ) × (i < l.s) × (slice_index l.candidates i ≡ l.best);
}
