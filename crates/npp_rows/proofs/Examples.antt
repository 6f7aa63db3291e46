-- The programs of three commodities, computed.
use Rattle.std.specs.Prelude.{◌≡◌, ℕ, ◌^◌, ◌-◌, List, [], ◌∷◌, map, true, Some, None, ℤ, pos, negsuc, refl}
use Rattle.std.specs.List.{list_all}
use Rattle.npp_frac.specs.Gcd.{gcd, gcd_within}
use Rattle.npp_frac.specs.Rational.{Rational, whole, ratio, negative, reciprocal, is_less, ◌+ℚ◌, ◌-ℚ◌, ◌*ℚ◌, ◌/ℚ◌}
use Rattle.npp_frac.specs.Fits.{fits_add, fits_sub, fits_mul, fits_div}
use Rattle.npp_frac.specs.Sums.{sum_by, sum_to}
use Rattle.npp_lp.specs.Sums.{checked_sum}
use Rattle.npp_lp.specs.DualVerdict.{dual_verdict}
use Rattle.npp_rows.specs.declared.names.RowName.TheVariants.{Cap, Follow, Below, Use, Link, One, OneLow}
use Rattle.npp_rows.specs.declared.names.ColumnName.TheVariants.{Toll, Share, Paid}
use Rattle.npp_rows.specs.declared.names.Multiplier.{Multiplier}
use Rattle.npp_rows.specs.Caps.{path_model}
use Rattle.npp_rows.specs.Parts.{all_paths}
use Rattle.npp_rows.specs.Named.{numbered}
use Rattle.npp_rows.specs.RowOrder.{multipliers_of}
use Rattle.npp_rows.specs.Relax.{relaxation, relaxation_columns}
use Rattle.npp_rows.specs.Inverse.{inverse}
use Rattle.npp_rows.specs.Basic.{basic_of}
use Rattle.npp_rows.specs.Response.{Reply, reply, reply_stop}
use Rattle.npp_rows.proofs.ThreeCommodities.{pair_of, seen_row, is_whole_row, dual_seen, dual_verdict_column, three_within, three_covers, three_model, times}

-- ---- caps and costs

cap_of_three : three_model.caps ≡ 8 ∷ []
cap_of_three = refl

-- a ceiling of 3 is the lesser, and one of 20 is not
cap_with_ceiling : (path_model (three_within (Some 3)) three_covers).caps ≡ 3 ∷ []
cap_with_ceiling = refl

cap_with_high_ceiling : (path_model (three_within (Some 20)) three_covers).caps ≡ 8 ∷ []
cap_with_high_ceiling = refl

basic_of_three : basic_of three_model (all_paths three_model) ≡ 23
basic_of_three = refl

-- the last commodity keeps to its toll-free path
basic_of_part : basic_of three_model ((0 ∷ 1 ∷ []) ∷ (0 ∷ 1 ∷ []) ∷ (1 ∷ []) ∷ []) ≡ 14
basic_of_part = refl

-- ---- the relaxation over all paths

columns_of_three : relaxation_columns three_model (all_paths three_model) ≡ Toll 0 ∷ Share 0 0 ∷ Share 0 1 ∷ Share 1 0 ∷ Share 1 1 ∷ Share 2 0 ∷ Share 2 1 ∷ Paid 0 0 ∷ Paid 0 1 ∷ Paid 0 2 ∷ []
columns_of_three = refl

rows_of_three : (relaxation three_model (all_paths three_model) []).rows ≡
    Cap 0 ∷ Follow 0 0 ∷ Follow 0 1 ∷ Follow 1 0 ∷ Follow 1 1 ∷ Follow 2 0 ∷ Follow 2 1
    ∷ Below 0 0 ∷ Below 0 1 ∷ Below 0 2 ∷ Use 0 0 ∷ Use 0 1 ∷ Use 0 2 ∷ Link 0 0 ∷ Link 0 1 ∷ Link 0 2
    ∷ One 0 ∷ One 1 ∷ One 2 ∷ OneLow 0 ∷ OneLow 1 ∷ OneLow 2 ∷ []
rows_of_three = refl

terms_of_three : map seen_row (numbered (relaxation three_model (all_paths three_model) [])).rows ≡
    ((0, pos 1) ∷ [], pos 8)
    ∷ ((0, negsuc 0) ∷ (1, pos 2) ∷ (2, pos 10) ∷ (7, pos 1) ∷ [], pos 2)
    ∷ ((1, pos 2) ∷ (2, pos 10) ∷ (7, pos 1) ∷ [], pos 10)
    ∷ ((0, negsuc 0) ∷ (3, pos 2) ∷ (4, pos 8) ∷ (8, pos 1) ∷ [], pos 2)
    ∷ ((3, pos 2) ∷ (4, pos 8) ∷ (8, pos 1) ∷ [], pos 8)
    ∷ ((0, negsuc 0) ∷ (5, pos 2) ∷ (6, pos 5) ∷ (9, pos 1) ∷ [], pos 2)
    ∷ ((5, pos 2) ∷ (6, pos 5) ∷ (9, pos 1) ∷ [], pos 5)
    ∷ ((0, negsuc 0) ∷ (7, pos 1) ∷ [], pos 0)
    ∷ ((0, negsuc 0) ∷ (8, pos 1) ∷ [], pos 0)
    ∷ ((0, negsuc 0) ∷ (9, pos 1) ∷ [], pos 0)
    ∷ ((1, negsuc 7) ∷ (7, pos 1) ∷ [], pos 0)
    ∷ ((3, negsuc 5) ∷ (8, pos 1) ∷ [], pos 0)
    ∷ ((5, negsuc 2) ∷ (9, pos 1) ∷ [], pos 0)
    ∷ ((0, pos 1) ∷ (1, pos 8) ∷ (7, negsuc 0) ∷ [], pos 8)
    ∷ ((0, pos 1) ∷ (3, pos 8) ∷ (8, negsuc 0) ∷ [], pos 8)
    ∷ ((0, pos 1) ∷ (5, pos 8) ∷ (9, negsuc 0) ∷ [], pos 8)
    ∷ ((1, pos 1) ∷ (2, pos 1) ∷ [], pos 1)
    ∷ ((3, pos 1) ∷ (4, pos 1) ∷ [], pos 1)
    ∷ ((5, pos 1) ∷ (6, pos 1) ∷ [], pos 1)
    ∷ ((1, negsuc 0) ∷ (2, negsuc 0) ∷ [], negsuc 0)
    ∷ ((3, negsuc 0) ∷ (4, negsuc 0) ∷ [], negsuc 0)
    ∷ ((5, negsuc 0) ∷ (6, negsuc 0) ∷ [], negsuc 0)
    ∷ []
unfolding gcd gcd_within whole ratio negative is_less ◌+ℚ◌ ◌*ℚ◌ sum_by sum_to
terms_of_three = refl

whole_of_three : list_all is_whole_row (numbered (relaxation three_model (all_paths three_model) [])).rows ≡ true
unfolding gcd gcd_within whole ratio negative is_less ◌+ℚ◌ ◌*ℚ◌ sum_by sum_to
whole_of_three = refl

goal_of_three : map (λ q. q.num) (numbered (relaxation three_model (all_paths three_model) [])).goal ≡ pos 0 ∷ pos 0 ∷ pos 0 ∷ pos 0 ∷ pos 0 ∷ pos 0 ∷ pos 0 ∷ pos 1 ∷ pos 1 ∷ pos 3 ∷ []
unfolding gcd gcd_within whole ratio
goal_of_three = refl

-- a part without the toll for the first commodity has no column for what it pays
columns_of_part : relaxation_columns three_model ((1 ∷ []) ∷ (0 ∷ 1 ∷ []) ∷ (0 ∷ []) ∷ []) ≡ Toll 0 ∷ Share 0 1 ∷ Share 1 0 ∷ Share 1 1 ∷ Share 2 0 ∷ Paid 0 1 ∷ Paid 0 2 ∷ []
columns_of_part = refl

-- ---- a dual answer

abbrev shared_toll : List (Multiplier Rational)
shared_toll =
    times (Below 0 0) (whole (pos 1)) ∷ times (Below 0 1) (ratio (pos 19) 20) ∷ times (Use 0 1) (ratio (pos 1) 5)
    ∷ times (Use 0 2) (ratio (pos 24) 5) ∷ times (Link 0 1) (ratio (pos 3) 20) ∷ times (Link 0 2) (ratio (pos 9) 5) ∷ []

-- no outcome earns more than 78/5
dual_of_three : dual_seen (dual_verdict (2 ^ 127) (numbered (relaxation three_model (all_paths three_model) [])) (multipliers_of (relaxation three_model (all_paths three_model) []).rows shared_toll)) ≡ (pos 78, 5) ∷ []
unfolding gcd gcd_within whole ratio negative reciprocal is_less fits_add fits_sub fits_mul fits_div ◌+ℚ◌ ◌-ℚ◌ ◌*ℚ◌ ◌/ℚ◌ sum_by sum_to checked_sum dual_verdict
dual_of_three = refl

-- with another last multiplier the column of what the last commodity pays is below its goal
dual_changed : dual_verdict_column (dual_verdict (2 ^ 127) (numbered (relaxation three_model (all_paths three_model) [])) (multipliers_of (relaxation three_model (all_paths three_model) []).rows
    (times (Below 0 0) (whole (pos 1)) ∷ times (Below 0 1) (ratio (pos 19) 20) ∷ times (Use 0 1) (ratio (pos 1) 5)
    ∷ times (Use 0 2) (ratio (pos 24) 5) ∷ times (Link 0 1) (ratio (pos 3) 20) ∷ times (Link 0 2) (ratio (pos 8) 5) ∷ []))) ≡ Some 0
unfolding gcd gcd_within whole ratio negative reciprocal is_less fits_add fits_sub fits_mul fits_div ◌+ℚ◌ ◌-ℚ◌ ◌*ℚ◌ ◌/ℚ◌ sum_by sum_to checked_sum dual_verdict
dual_changed = refl

-- ---- inverse programs

-- all three take the toll arc
inverse_of_three : map seen_row (numbered (inverse three_model (0 ∷ 0 ∷ 0 ∷ []))).rows ≡
    ((0, pos 1) ∷ [], pos 8)
    ∷ ([], pos 0) ∷ ((0, pos 1) ∷ [], pos 8)
    ∷ ([], pos 0) ∷ ((0, pos 1) ∷ [], pos 6)
    ∷ ([], pos 0) ∷ ((0, pos 1) ∷ [], pos 3) ∷ []
unfolding gcd gcd_within whole ratio negative is_less ◌+ℚ◌ ◌-ℚ◌ ◌*ℚ◌ sum_by sum_to
inverse_of_three = refl

inverse_goal : map pair_of (numbered (inverse three_model (0 ∷ 0 ∷ 0 ∷ []))).goal ≡ (pos 5, 1) ∷ []
unfolding gcd gcd_within whole ratio
inverse_goal = refl

-- the row of the third commodity proves that no tolls earn more than 15 so
inverse_dual : dual_seen (dual_verdict (2 ^ 127) (numbered (inverse three_model (0 ∷ 0 ∷ 0 ∷ []))) (multipliers_of (inverse three_model (0 ∷ 0 ∷ 0 ∷ [])).rows (times (Follow 2 1) (whole (pos 5)) ∷ []))) ≡ (pos 15, 1) ∷ []
unfolding gcd gcd_within whole ratio negative reciprocal is_less fits_add fits_sub fits_mul fits_div ◌+ℚ◌ ◌-ℚ◌ ◌*ℚ◌ ◌/ℚ◌ sum_by sum_to checked_sum dual_verdict
inverse_dual = refl

-- ---- what travellers do

abbrev reply_seen : Reply → List ℕ × List (ℤ × ℕ) × (ℤ × ℕ)
reply_seen r = (r.paths, map pair_of r.paid, pair_of r.revenue)

-- at 3 the third commodity may choose, and pays
reply_at_three : reply_seen (reply three_model (whole (pos 3) ∷ [])) ≡ (0 ∷ 0 ∷ 0 ∷ [], (pos 3, 1) ∷ (pos 3, 1) ∷ (pos 3, 1) ∷ [], (pos 15, 1))
unfolding gcd gcd_within whole ratio negative is_less ◌+ℚ◌ ◌*ℚ◌ sum_by sum_to
reply_at_three = refl

-- at 7/2 it does not
reply_above : reply_seen (reply three_model (ratio (pos 7) 2 ∷ [])) ≡ (0 ∷ 0 ∷ 1 ∷ [], (pos 7, 2) ∷ (pos 7, 2) ∷ (pos 0, 1) ∷ [], (pos 7, 1))
unfolding gcd gcd_within whole ratio negative is_less ◌+ℚ◌ ◌*ℚ◌ sum_by sum_to
reply_above = refl

-- with the greatest number of 128 bits as toll the price of the first commodity does not fit
reply_too_large : reply_stop (2 ^ 127) three_model (whole (pos (2 ^ 127 - 1)) ∷ []) ≡ Some 0
unfolding gcd gcd_within whole ratio negative is_less fits_add fits_sub fits_mul ◌+ℚ◌ ◌*ℚ◌ sum_by sum_to
reply_too_large = refl

reply_is_narrow : reply_stop (2 ^ 31) three_model (ratio (pos 7) 2 ∷ []) ≡ None
unfolding gcd gcd_within whole ratio negative is_less fits_add fits_sub fits_mul ◌+ℚ◌ ◌*ℚ◌ sum_by sum_to
reply_is_narrow = refl
