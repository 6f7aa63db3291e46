-- Rows derived for three commodities, and each fault but an overflow, computed.
use Rattle.std.specs.Prelude.{◌≡◌, ◌^◌, ◌-◌, List, [], ◌∷◌, map, pos, refl}
use Rattle.npp_frac.specs.Gcd.{gcd, gcd_within}
use Rattle.npp_frac.specs.Rational.{whole, ratio, negative, reciprocal, is_less, ◌+ℚ◌, ◌-ℚ◌, ◌*ℚ◌, ◌/ℚ◌}
use Rattle.npp_frac.specs.Fits.{fits_add, fits_sub, fits_mul, fits_div}
use Rattle.npp_frac.specs.Floor.{floor}
use Rattle.npp_frac.specs.Sums.{sum_by, sum_to}
use Rattle.npp_lp.specs.Sums.{checked_sum}
use Rattle.npp_lp.specs.FarkasVerdict.{farkas_verdict}
use Rattle.npp_rows.specs.declared.names.RowName.TheVariants.{Cap, Follow, Below, One, Cut}
use Rattle.npp_rows.specs.Cuts.{Cut as CutRow, conflict_cut}
use Rattle.npp_rows.specs.declared.cut.Derivation.TheVariants.{Conflict, Pair, Round}
use Rattle.npp_rows.specs.Derivations.{Derived, derivation_verdict}
use Rattle.npp_rows.proofs.ThreeCommodities.{Seen, seen, three_model, times}
use Rattle.npp_rows.proofs.ThreeCommodities.Seen.{Gives, IsBadName, IsBadOrder, IsNotPositive, IsBelowZero, IsNotBelowZero, IsNoConflict, HasToll}

-- ---- derived rows, at 64 bits

abbrev derived : List CutRow → Derived → Seen
derived earlier d = seen (derivation_verdict (2 ^ 63) three_model earlier d)

-- a toll that keeps the first commodity off the toll arc keeps the third off too
conflict_of_two : derived [] (Conflict 0 1 2 0 (times (Follow 0 0) (whole (pos 1)) ∷ times (Follow 2 1) (whole (pos 1)) ∷ [])) ≡ Gives ((0, 1, pos 1) ∷ (2, 0, pos 1) ∷ [], pos 1)
unfolding gcd gcd_within whole ratio negative reciprocal is_less fits_add fits_sub fits_mul fits_div ◌+ℚ◌ ◌-ℚ◌ ◌*ℚ◌ ◌/ℚ◌ sum_by sum_to checked_sum farkas_verdict
conflict_of_two = refl

conflict_not_below : derived [] (Conflict 0 1 2 0 (times (Follow 0 0) (whole (pos 1)) ∷ times (Follow 2 1) (whole (pos 3)) ∷ [])) ≡ IsNotBelowZero
unfolding gcd gcd_within whole ratio negative reciprocal is_less fits_add fits_sub fits_mul fits_div ◌+ℚ◌ ◌-ℚ◌ ◌*ℚ◌ ◌/ℚ◌ sum_by sum_to checked_sum farkas_verdict
conflict_not_below = refl

-- a column sum of -1
conflict_below : derived [] (Conflict 0 1 2 0 (times (Follow 0 0) (whole (pos 1)) ∷ [])) ≡ IsBelowZero
unfolding gcd gcd_within whole ratio negative reciprocal is_less fits_add fits_sub fits_mul fits_div ◌+ℚ◌ ◌-ℚ◌ ◌*ℚ◌ ◌/ℚ◌ sum_by sum_to checked_sum farkas_verdict
conflict_below = refl

-- the program has no row of the second commodity; the commodities stand in the wrong order; the rows do; a multiplier is 0
conflict_bad_names : map (derived [])
    (Conflict 0 1 2 0 (times (Follow 1 0) (whole (pos 1)) ∷ []) ∷ Conflict 2 0 0 1 [] ∷ Conflict 0 2 1 0 []
    ∷ Conflict 0 1 2 0 (times (Follow 2 1) (whole (pos 1)) ∷ times (Follow 0 0) (whole (pos 0)) ∷ [])
    ∷ Conflict 0 1 2 0 (times (Follow 0 0) (whole (pos 0)) ∷ []) ∷ [])
    ≡ IsBadName ∷ IsBadName ∷ IsBadName ∷ IsBadOrder ∷ IsNotPositive ∷ []
unfolding gcd gcd_within whole ratio negative reciprocal is_less fits_add fits_sub fits_mul fits_div ◌+ℚ◌ ◌-ℚ◌ ◌*ℚ◌ ◌/ℚ◌ sum_by sum_to checked_sum farkas_verdict
conflict_bad_names = refl

-- path 1 of the first commodity against both paths of the second
abbrev two_cuts : List CutRow
two_cuts = conflict_cut 0 1 1 0 ∷ conflict_cut 0 1 1 1 ∷ []

pair_of_cuts : derived two_cuts (Pair 0 1 1 (0 ∷ 1 ∷ [])) ≡ Gives ((0, 1, pos 1) ∷ (1, 0, pos 1) ∷ (1, 1, pos 1) ∷ [], pos 1)
unfolding gcd gcd_within whole ratio
pair_of_cuts = refl

-- from the other side the two cuts name one path, which counts once
pair_of_same : map (derived (conflict_cut 0 0 1 1 ∷ conflict_cut 1 1 0 0 ∷ [])) (Pair 1 1 0 (0 ∷ 1 ∷ []) ∷ Pair 0 0 1 (0 ∷ 1 ∷ []) ∷ [])
    ≡ Gives ((0, 0, pos 1) ∷ (1, 1, pos 1) ∷ [], pos 1) ∷ Gives ((0, 0, pos 1) ∷ (1, 1, pos 1) ∷ [], pos 1) ∷ []
unfolding gcd gcd_within whole ratio
pair_of_same = refl

pair_faults : map (derived two_cuts)
    (Pair 1 0 0 (0 ∷ 1 ∷ []) ∷ Pair 0 1 0 (0 ∷ 1 ∷ []) ∷ Pair 0 1 1 (0 ∷ 2 ∷ []) ∷ Pair 0 1 1 (1 ∷ 0 ∷ []) ∷ Pair 0 1 1 (0 ∷ []) ∷ Pair 0 1 2 (0 ∷ 1 ∷ []) ∷ [])
    ≡ IsNoConflict 1 ∷ IsBadName ∷ IsBadName ∷ IsBadOrder ∷ IsBadOrder ∷ IsNoConflict 0 ∷ []
unfolding gcd gcd_within whole ratio
pair_faults = refl

-- no rows; a toll row; half of a sum of shares; half of two cuts and of the two rows of a third
round_of_rows : map (derived two_cuts)
    (Round [] ∷ Round (times (Cap 0) (whole (pos 1)) ∷ []) ∷ Round (times (One 0) (ratio (pos 1) 2) ∷ [])
    ∷ Round (times (Below 0 3) (whole (pos 1)) ∷ []) ∷ Round (times (Cut 2) (whole (pos 1)) ∷ [])
    ∷ Round (times (One 1) (ratio (pos 1) 2) ∷ times (Cut 0) (ratio (pos 1) 2) ∷ times (Cut 1) (ratio (pos 1) 2) ∷ []) ∷ [])
    ≡ Gives ([], pos 0) ∷ HasToll ∷ Gives ([], pos 0) ∷ IsBadName ∷ IsBadName
    ∷ Gives ((0, 1, pos 1) ∷ (1, 0, pos 1) ∷ (1, 1, pos 1) ∷ [], pos 1) ∷ []
unfolding gcd gcd_within whole ratio negative reciprocal is_less fits_add fits_sub fits_mul fits_div ◌+ℚ◌ ◌-ℚ◌ ◌*ℚ◌ ◌/ℚ◌ sum_by sum_to checked_sum floor
round_of_rows = refl
