use Rattle.std.proofs.Common.{◌≡◌, ◌≤◌, take}
use Rattle.std.specs.List.{range_with_len, filter}
use Rattle.npp_frac.specs.Rational.{zero_ℚ, is_less}
use Rattle.npp_simplex.specs.Tableau.{cell}
use Rattle.npp_simplex.proofs.tableau.Tableau.positive_rows.Given as goal

abbrev pub invariant-loop-i : goal.invariant-loop-i
invariant-loop-i g l = record {
  within : l.count ≤ l.i;
  rows : take l.count l.list ≡ filter (λ i. is_less zero_ℚ (cell l.self i l.column)) (range_with_len 0 l.i);
}
