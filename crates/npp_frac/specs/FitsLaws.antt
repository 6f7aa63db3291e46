-- The tests answer the rule, and what fits below a limit fits below each greater one.
use Rattle.std.specs.Prelude.{◌≡◌, ℕ, ◌^◌, true, false, nat_lt, ◌&&◌, ◌<◌, ◌≤◌}
use Rattle.std.proofs.Common.{arith, lt_of_lt_of_le, inl, inr}
use Rattle.std.proofs.lemmas.Bool.Decides.{nat_tests}
use Rattle.npp_frac.specs.Fits.{limit_of, IsWidth, FitsBelow, FitsAdd, FitsMul, fits_add, fits_sub, fits_mul, fits_div}
use Rattle.npp_frac.specs.Rational.{Rational, negative, reciprocal}

four_yes : (a b c d m : ℕ) → a < m → b < m → c < m → d < m → true ≡ (nat_lt a m && nat_lt b m && nat_lt c m && nat_lt d m)
four_yes a b c d m ha hb hc hd = grind (arith, nat_tests)

four_no : (a b c d m : ℕ) → (a < m → b < m → c < m → d < m → ⊥) → false ≡ (nat_lt a m && nat_lt b m && nat_lt c m && nat_lt d m)
four_no a b c d m h = grind (arith, nat_tests)

two_yes : (a b m : ℕ) → a < m → b < m → true ≡ (nat_lt a m && nat_lt b m)
two_yes a b m ha hb = grind (arith, nat_tests)

two_no : (a b m : ℕ) → (a < m → b < m → ⊥) → false ≡ (nat_lt a m && nat_lt b m)
two_no a b m h = grind (arith, nat_tests)

pub fits_add_yes : (m : ℕ) (q r : Rational) → FitsAdd m q r → true ≡ fits_add m q r
unfolding fits_add
fits_add_yes m q r h = four_yes _ _ _ _ m h.left h.right h.sum h.den

pub fits_add_no : (m : ℕ) (q r : Rational) → (FitsAdd m q r → ⊥) → false ≡ fits_add m q r
unfolding fits_add
fits_add_no m q r h = four_no _ _ _ _ m (λ a b c d. h (record { left = a; right = b; sum = c; den = d }))

pub fits_mul_yes : (m : ℕ) (q r : Rational) → FitsMul m q r → true ≡ fits_mul m q r
unfolding fits_mul
fits_mul_yes m q r h = two_yes _ _ m h.num h.den

pub fits_mul_no : (m : ℕ) (q r : Rational) → (FitsMul m q r → ⊥) → false ≡ fits_mul m q r
unfolding fits_mul
fits_mul_no m q r h = two_no _ _ m (λ a b. h (record { num = a; den = b }))

four_wider : (a b c d m n : ℕ) → m ≤ n → true ≡ (nat_lt a m && nat_lt b m && nat_lt c m && nat_lt d m) → true ≡ (nat_lt a n && nat_lt b n && nat_lt c n && nat_lt d n)
four_wider a b c d m n h e = grind (arith, nat_tests)

two_wider : (a b m n : ℕ) → m ≤ n → true ≡ (nat_lt a m && nat_lt b m) → true ≡ (nat_lt a n && nat_lt b n)
two_wider a b m n h e = grind (arith, nat_tests)

pub fits_add_wider : (m n : ℕ) (q r : Rational) → m ≤ n → true ≡ fits_add m q r → true ≡ fits_add n q r
unfolding fits_add
fits_add_wider m n q r h e = four_wider _ _ _ _ m n h e

pub fits_sub_wider : (m n : ℕ) (q r : Rational) → m ≤ n → true ≡ fits_sub m q r → true ≡ fits_sub n q r
unfolding fits_sub
fits_sub_wider m n q r h e = fits_add_wider m n q (negative r) h e

pub fits_mul_wider : (m n : ℕ) (q r : Rational) → m ≤ n → true ≡ fits_mul m q r → true ≡ fits_mul n q r
unfolding fits_mul
fits_mul_wider m n q r h e = two_wider _ _ m n h e

pub fits_div_wider : (m n : ℕ) (q r : Rational) → m ≤ n → true ≡ fits_div m q r → true ≡ fits_div n q r
unfolding fits_div
fits_div_wider m n q r h e = fits_mul_wider m n q (reciprocal r) h e

pub FitsBelow_wider : (m n : ℕ) (q : Rational) → m ≤ n → FitsBelow m q → FitsBelow n q
FitsBelow_wider m n q h f = record { num = lt_of_lt_of_le f.num h; den = lt_of_lt_of_le f.den h }

-- a number below 2 ^ 31 is below the limit of each width
pub limit_at_least : (w : ℕ) → IsWidth w → 2 ^ 31 ≤ limit_of w
limit_at_least w h = elim h [
  | inl e ↦ rw e (omega arith)
  | inr k ↦ elim k [ inl e ↦ rw e (omega arith) | inr e ↦ rw e (omega arith) ]
]

-- and no limit is above that of 128 bits
pub limit_at_most : (w : ℕ) → IsWidth w → limit_of w ≤ 2 ^ 127
limit_at_most w h = elim h [
  | inl e ↦ rw e (omega arith)
  | inr k ↦ elim k [ inl e ↦ rw e (omega arith) | inr e ↦ rw e (omega arith) ]
]

pub fits_wide : (q : Rational) (w : ℕ) → IsWidth w → FitsBelow (limit_of w) q → FitsBelow (limit_of 128) q
fits_wide q w h f = FitsBelow_wider (limit_of w) (limit_of 128) q (limit_at_most w h) f
