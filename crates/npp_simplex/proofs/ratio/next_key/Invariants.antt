use Rattle.std.proofs.Common.{◌≡◌, ℕ, ◌<◌, ◌≤◌, slice_index}
use Rattle.npp_frac.specs.Rational.{zero_ℚ}
use Rattle.npp_simplex.specs.Tableau.{cell}
use Rattle.npp_simplex.proofs.ratio.next_key.Given as goal

abbrev pub invariant-loop-s : goal.invariant-loop-s
invariant-loop-s g l = record {
  from : l.from ≤ l.next;
  end : l.next ≤ l.end;
  zeros : (k j : ℕ) → k < l.s → l.from ≤ j → j < l.next → cell l.tableau (slice_index l.candidates k) j ≡ zero_ℚ;
}
