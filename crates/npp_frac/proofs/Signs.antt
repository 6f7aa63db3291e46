-- The sign of a rational number is that of its numerator.
use Rattle.std.proofs.Common.{◌≡◌, ◌↔◌, ◌<ℤ◌, ◌≤ℤ◌, ℤ, pos, negsuc, Bool, cond, true, false, Less, Equal, Greater, IsTrue, nat_eq, FitsSigned, to_z, of_z, to_z-of_z, refl, sym, ◌∙◌, ap, arith, eqb-true}
use Rattle.std.specs.Prelude.{int_lt}
use Rattle.std.specs.Int.{w128}
use Rattle.std.specs.Ordering.{is_lt}
use Rattle.std.proofs.lemmas.Bool.Decides.{nat_tests}
use Rattle.std.proofs.lemmas.Int.{ints}
use Rattle.npp_frac.specs.Rational.{Rational, zero_ℚ, is_less, rational_cmp}
use Rattle.npp_frac.specs.Order.{is_less_of_<ℚ, is_less_of_≤ℚ}
use Rattle.npp_frac.specs.Sign.{zero_of_num, num_of_zero, below_zero_of_num, nonneg_of_num, positive_of_num as positive_of_numerator, nonpositive_of_num}

-- a number of 128 bits is 0 where its bits are
zero_test : (z : ℤ) → FitsSigned w128 z → IsTrue (nat_eq (of_z w128 z) 0) ↔ (z ≡ pos 0)
zero_test z fits = (λ h. sym (to_z-of_z fits) ∙ ap (to_z w128) (eqb-true (of_z w128 z) 0 h), λ e. ap (λ t. nat_eq (of_z w128 t) 0) e)

pub zero_test_rational : (q : Rational) (z : ℤ) → FitsSigned w128 z → z ≡ q.num → IsTrue (nat_eq (of_z w128 z) 0) ↔ (q ≡ zero_ℚ)
zero_test_rational q z fits is = (λ h. zero_of_num q (sym is ∙ (zero_test z fits).0 h), λ e. (zero_test z fits).1 (is ∙ num_of_zero q e))

-- ---- below 0

below_of_test : (z : ℤ) → true ≡ int_lt z (pos 0) → z <ℤ pos 0
below_of_test (pos n) e = grind (arith, nat_tests)
below_of_test (negsuc n) e = omega (arith, ints)

at_least_of_test : (z : ℤ) → false ≡ int_lt z (pos 0) → pos 0 ≤ℤ z
at_least_of_test (pos n) e = omega (arith, ints)
at_least_of_test (negsuc n) e = cc

negative_of_num_at : (q : Rational) (b : Bool) → b ≡ int_lt q.num (pos 0) → b ≡ is_less q zero_ℚ
negative_of_num_at q true e = sym (is_less_of_<ℚ q zero_ℚ (below_zero_of_num q (below_of_test q.num e)))
negative_of_num_at q false e = sym (is_less_of_≤ℚ q zero_ℚ (nonneg_of_num q (at_least_of_test q.num e)))

pub negative_of_num : (q : Rational) → int_lt q.num (pos 0) ≡ is_less q zero_ℚ
negative_of_num q = negative_of_num_at q (int_lt q.num (pos 0)) refl

-- ---- above 0

above_of_test : (z : ℤ) → true ≡ int_lt (pos 0) z → pos 0 <ℤ z
above_of_test (pos n) e = grind (arith, nat_tests)
above_of_test (negsuc n) e = cc

at_most_of_test : (z : ℤ) → false ≡ int_lt (pos 0) z → z ≤ℤ pos 0
at_most_of_test (pos n) e = grind (arith, nat_tests)
at_most_of_test (negsuc n) e = omega (arith, ints)

positive_of_num_at : (q : Rational) (b : Bool) → b ≡ int_lt (pos 0) q.num → b ≡ is_less zero_ℚ q
positive_of_num_at q true e = sym (is_less_of_<ℚ zero_ℚ q (positive_of_numerator q (above_of_test q.num e)))
positive_of_num_at q false e = sym (is_less_of_≤ℚ zero_ℚ q (nonpositive_of_num q (at_most_of_test q.num e)))

pub positive_of_num : (q : Rational) → int_lt (pos 0) q.num ≡ is_less zero_ℚ q
positive_of_num q = positive_of_num_at q (int_lt (pos 0) q.num) refl

-- ---- the order

lt_of_cmp : (a b : Bool) → is_lt (cond a Less (cond b Greater Equal)) ≡ a
lt_of_cmp true b = refl
lt_of_cmp false true = refl
lt_of_cmp false false = refl

pub is_less_of_cmp : (q r : Rational) → is_lt (rational_cmp q r) ≡ is_less q r
unfolding rational_cmp is_less
is_less_of_cmp q r = lt_of_cmp (is_less q r) (is_less r q)
