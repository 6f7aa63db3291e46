use Rattle.std.proofs.Common.{All, ◌≡◌, ◌<◌, map, length, slice_index_or}
use Rattle.npp_frac.specs.Rational.{◌-ℚ◌, ◌*ℚ◌}
use Rattle.npp_frac.specs.Fits.{limit_of}
use Rattle.npp_lp.specs.Programs.{at}
use Rattle.npp_simplex.specs.Places.{fits_less_product}
use Rattle.npp_simplex.proofs.Rows.{IsReplacedUpTo}
use Rattle.npp_simplex.proofs.row.eliminate.Given as goal

-- replaced up to the next of the columns, or the row's end where none is left
abbrev pub invariant-loop-s : goal.invariant-loop-s
invariant-loop-s g l = record {
  size : length l.row ≡ length l.initial.row;
  within : All (λ j. j < length l.initial.row) l.columns;
  replaced : IsReplacedUpTo g.N.Exact.rational l.initial.row l.row (λ k. at (map g.N.Exact.rational l.initial.row) k -ℚ g.N.Exact.rational l.factor *ℚ at l.other k) (λ k. fits_less_product (limit_of g.N.Exact.WIDTH) (at (map g.N.Exact.rational l.initial.row) k) (g.N.Exact.rational l.factor) (at l.other k)) (slice_index_or l.columns l.s (length l.initial.row));
}
