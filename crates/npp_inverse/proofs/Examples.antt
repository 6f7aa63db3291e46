-- How the work on small programs ends, computed.
use Rattle.std.specs.Prelude.{◌≡◌, ℕ, ◌^◌, List, [], ◌∷◌, ℤ, pos, refl}
use Rattle.npp_frac.specs.Gcd.{gcd, gcd_within}
use Rattle.npp_frac.specs.Rational.{whole, ratio, negative, reciprocal, is_less, ◌+ℚ◌, ◌-ℚ◌, ◌*ℚ◌, ◌/ℚ◌}
use Rattle.npp_frac.specs.Fits.{fits_add, fits_sub, fits_mul, fits_div}
use Rattle.npp_frac.specs.Sums.{sum_by, sum_to}
use Rattle.npp_lp.specs.Sums.{checked_sum}
use Rattle.npp_cover.specs.Replaces.{CoverValue}
use Rattle.npp_rows.specs.PathModel.{PathModel}
use Rattle.npp_inverse.specs.Work.{Ending, AtPoint, WithoutPoint, AtMark, program_work, inverse_work}

-- a commodity with one toll arc of cost 2 beside a toll-free path
abbrev beside : ℕ → CoverValue
beside free = record {
  labels = [];
  paths = record { tolls = 1; cost = 2; arcs = [] } ∷ record { tolls = 0; cost = free; arcs = [] } ∷ [];
  free = free;
}

-- three commodities share the toll arc; the third has three travellers
abbrev three_model : PathModel
three_model = record { caps = 8 ∷ []; demands = 1 ∷ 1 ∷ 3 ∷ []; covers = beside 10 ∷ beside 8 ∷ beside 5 ∷ [] }

-- the goal at the point
abbrev goal_seen : Ending → List (ℤ × ℕ)
goal_seen (AtPoint x y v) = (v.num, v.den) ∷ []
goal_seen (WithoutPoint y) = []
goal_seen (AtMark k) = []

-- all three take the toll arc: a toll of 3 earns 15
inverse_of_three : goal_seen (inverse_work (2 ^ 63) three_model (0 ∷ 0 ∷ 0 ∷ [])) ≡ (pos 15, 1) ∷ []
unfolding gcd gcd_within whole ratio negative reciprocal is_less fits_add fits_sub fits_mul fits_div ◌+ℚ◌ ◌-ℚ◌ ◌*ℚ◌ ◌/ℚ◌ sum_by sum_to checked_sum program_work inverse_work
inverse_of_three = refl

-- no tolls keep the first off the toll arc and the third on it
none_for_two : goal_seen (inverse_work (2 ^ 63) three_model (1 ∷ 0 ∷ 0 ∷ [])) ≡ []
unfolding gcd gcd_within whole ratio negative reciprocal is_less fits_add fits_sub fits_mul fits_div ◌+ℚ◌ ◌-ℚ◌ ◌*ℚ◌ ◌/ℚ◌ sum_by sum_to checked_sum program_work inverse_work
none_for_two = refl
