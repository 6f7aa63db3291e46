-- The laws of sums, differences and products of rational numbers.
-- Each is shown by writing both sides with `Is`, where `omega` closes what is left on numerators and denominators.
use Rattle.std.specs.Prelude.{◌≡◌, ℤ, pos, ◌+ℤ◌, ◌*ℤ◌}
use Rattle.std.proofs.Common.{arith}
use borrow.Author.Differences.{product_is, sum_is_lem}
use Rattle.npp_frac.specs.Rational.{Rational, whole, zero_ℚ, one_ℚ, negative, ◌+ℚ◌, ◌*ℚ◌, ◌-ℚ◌, Is-self, Is-same, Is-add, Is-mul, Is-sub, Is-negative, Is-whole}

-- ---- sums

pub +ℚ_comm : (q r : Rational) → q +ℚ r ≡ r +ℚ q
+ℚ_comm q r = Is-same (Is-add (Is-self q) (Is-self r)) (Is-add (Is-self r) (Is-self q)) (omega arith)

pub +ℚ_assoc : (q r s : Rational) → (q +ℚ r) +ℚ s ≡ q +ℚ (r +ℚ s)
+ℚ_assoc q r s = Is-same (Is-add (Is-add (Is-self q) (Is-self r)) (Is-self s)) (Is-add (Is-self q) (Is-add (Is-self r) (Is-self s))) (omega arith)

pub zero-+ℚ : (q : Rational) → zero_ℚ +ℚ q ≡ q
zero-+ℚ q = Is-same (Is-add (Is-whole (pos 0)) (Is-self q)) (Is-self q) (omega arith)

pub +ℚ-zero : (q : Rational) → q +ℚ zero_ℚ ≡ q
+ℚ-zero q = Is-same (Is-add (Is-self q) (Is-whole (pos 0))) (Is-self q) (omega arith)

-- (a + b) + (c + d) is (a + c) + (b + d)
pub +ℚ_swap_inner : (a b c d : Rational) → (a +ℚ b) +ℚ (c +ℚ d) ≡ (a +ℚ c) +ℚ (b +ℚ d)
+ℚ_swap_inner a b c d =
    Is-same (Is-add (Is-add (Is-self a) (Is-self b)) (Is-add (Is-self c) (Is-self d))) (Is-add (Is-add (Is-self a) (Is-self c)) (Is-add (Is-self b) (Is-self d))) (omega arith)

-- ---- differences

pub -ℚ_self : (q : Rational) → q -ℚ q ≡ zero_ℚ
-ℚ_self q = Is-same (Is-sub (Is-self q) (Is-self q)) (Is-whole (pos 0)) (omega arith)

pub -ℚ-zero : (q : Rational) → q -ℚ zero_ℚ ≡ q
-ℚ-zero q = Is-same (Is-sub (Is-self q) (Is-whole (pos 0))) (Is-self q) (omega arith)

-- taking away and adding again
pub -ℚ-+ℚ : (q r : Rational) → (q -ℚ r) +ℚ r ≡ q
-ℚ-+ℚ q r = Is-same (Is-add (Is-sub (Is-self q) (Is-self r)) (Is-self r)) (Is-self q) (omega arith)

-- adding and taking away again
pub +ℚ--ℚ : (q r : Rational) → (q +ℚ r) -ℚ r ≡ q
+ℚ--ℚ q r = Is-same (Is-sub (Is-add (Is-self q) (Is-self r)) (Is-self r)) (Is-self q) (omega arith)

-- (a - b) + (c - d) is (a + c) - (b + d)
pub -ℚ_swap_inner : (a b c d : Rational) → (a -ℚ b) +ℚ (c -ℚ d) ≡ (a +ℚ c) -ℚ (b +ℚ d)
-ℚ_swap_inner a b c d =
    Is-same (Is-add (Is-sub (Is-self a) (Is-self b)) (Is-sub (Is-self c) (Is-self d))) (Is-sub (Is-add (Is-self a) (Is-self c)) (Is-add (Is-self b) (Is-self d))) (omega arith)

pub negative_is : (q : Rational) → negative q ≡ zero_ℚ -ℚ q
negative_is q = Is-same (Is-negative (Is-self q)) (Is-sub (Is-whole (pos 0)) (Is-self q)) (omega arith)

pub negative-negative : (q : Rational) → negative (negative q) ≡ q
negative-negative q = Is-same (Is-negative (Is-negative (Is-self q))) (Is-self q) (omega arith)

pub negative-+ℚ : (q r : Rational) → negative (q +ℚ r) ≡ negative q +ℚ negative r
negative-+ℚ q r = Is-same (Is-negative (Is-add (Is-self q) (Is-self r))) (Is-add (Is-negative (Is-self q)) (Is-negative (Is-self r))) (omega arith)

pub -ℚ-negative : (q r : Rational) → q -ℚ negative r ≡ q +ℚ r
-ℚ-negative q r = Is-same (Is-sub (Is-self q) (Is-negative (Is-self r))) (Is-add (Is-self q) (Is-self r)) (omega arith)

-- ---- products

pub *ℚ_comm : (q r : Rational) → q *ℚ r ≡ r *ℚ q
*ℚ_comm q r = Is-same (Is-mul (Is-self q) (Is-self r)) (Is-mul (Is-self r) (Is-self q)) (omega arith)

pub *ℚ_assoc : (q r s : Rational) → (q *ℚ r) *ℚ s ≡ q *ℚ (r *ℚ s)
*ℚ_assoc q r s = Is-same (Is-mul (Is-mul (Is-self q) (Is-self r)) (Is-self s)) (Is-mul (Is-self q) (Is-mul (Is-self r) (Is-self s))) (omega arith)

pub zero-*ℚ : (q : Rational) → zero_ℚ *ℚ q ≡ zero_ℚ
zero-*ℚ q = Is-same (Is-mul (Is-whole (pos 0)) (Is-self q)) (Is-whole (pos 0)) (omega arith)

pub *ℚ-zero : (q : Rational) → q *ℚ zero_ℚ ≡ zero_ℚ
*ℚ-zero q = Is-same (Is-mul (Is-self q) (Is-whole (pos 0))) (Is-whole (pos 0)) (omega arith)

pub one-*ℚ : (q : Rational) → one_ℚ *ℚ q ≡ q
one-*ℚ q = Is-same (Is-mul (Is-whole (pos 1)) (Is-self q)) (Is-self q) (omega arith)

pub *ℚ-one : (q : Rational) → q *ℚ one_ℚ ≡ q
*ℚ-one q = Is-same (Is-mul (Is-self q) (Is-whole (pos 1))) (Is-self q) (omega arith)

pub negative-*ℚ : (q r : Rational) → negative q *ℚ r ≡ negative (q *ℚ r)
negative-*ℚ q r = Is-same (Is-mul (Is-negative (Is-self q)) (Is-self r)) (Is-negative (Is-mul (Is-self q) (Is-self r))) (omega arith)

pub *ℚ-negative : (q r : Rational) → q *ℚ negative r ≡ negative (q *ℚ r)
*ℚ-negative q r = Is-same (Is-mul (Is-self q) (Is-negative (Is-self r))) (Is-negative (Is-mul (Is-self q) (Is-self r))) (omega arith)

-- ---- products of sums and differences

pub *ℚ-+ℚ : (q r s : Rational) → q *ℚ (r +ℚ s) ≡ q *ℚ r +ℚ q *ℚ s
*ℚ-+ℚ q r s = Is-same (Is-mul (Is-self q) (Is-add (Is-self r) (Is-self s))) (Is-add (Is-mul (Is-self q) (Is-self r)) (Is-mul (Is-self q) (Is-self s))) (omega arith)

pub +ℚ-*ℚ : (q r s : Rational) → (q +ℚ r) *ℚ s ≡ q *ℚ s +ℚ r *ℚ s
+ℚ-*ℚ q r s = Is-same (Is-mul (Is-add (Is-self q) (Is-self r)) (Is-self s)) (Is-add (Is-mul (Is-self q) (Is-self s)) (Is-mul (Is-self r) (Is-self s))) (omega arith)

pub *ℚ--ℚ : (q r s : Rational) → q *ℚ (r -ℚ s) ≡ q *ℚ r -ℚ q *ℚ s
*ℚ--ℚ q r s = Is-same (Is-mul (Is-self q) (Is-sub (Is-self r) (Is-self s))) (Is-sub (Is-mul (Is-self q) (Is-self r)) (Is-mul (Is-self q) (Is-self s))) (omega arith)

pub -ℚ-*ℚ : (q r s : Rational) → (q -ℚ r) *ℚ s ≡ q *ℚ s -ℚ r *ℚ s
-ℚ-*ℚ q r s = Is-same (Is-mul (Is-sub (Is-self q) (Is-self r)) (Is-self s)) (Is-sub (Is-mul (Is-self q) (Is-self s)) (Is-mul (Is-self r) (Is-self s))) (omega arith)

-- ---- whole numbers

pub whole-+ℤ : (m n : ℤ) → whole (m +ℤ n) ≡ whole m +ℚ whole n
whole-+ℤ m n = Is-same (Is-whole (m +ℤ n)) (Is-add (Is-whole m) (Is-whole n)) (omega (arith, sum_is_lem m n))

pub whole-*ℤ : (m n : ℤ) → whole (m *ℤ n) ≡ whole m *ℚ whole n
whole-*ℤ m n = Is-same (Is-whole (m *ℤ n)) (Is-mul (Is-whole m) (Is-whole n)) (omega (arith, product_is m n))
