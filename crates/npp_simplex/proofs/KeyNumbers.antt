-- What lexicographically positive rows have at the columns at which rows are compared.
use Rattle.std.proofs.Common.{◌≡◌, ℕ, zero, suc, ◌+◌, ◌<◌, map, arith, sym, subst, inl, inr}
use Rattle.std.specs.List.{range_with_len}
use Rattle.npp_frac.specs.Rational.{Rational, zero_ℚ, ◌≤ℚ◌, ◌<ℚ◌}
use Rattle.npp_frac.specs.Order.{≤ℚ_of_≡, ≤ℚ_of_<ℚ}
use Rattle.npp_simplex.proofs.Invariant.{IsLexPositive, key_numbers}

-- the right side is not below 0
pub right_nonneg : (m n : ℕ) (row : ℕ → Rational) → IsLexPositive (key_numbers m n row) → zero_ℚ ≤ℚ row (n + m + 1)
right_nonneg m n row h = elim h [ inl above ↦ ≤ℚ_of_<ℚ above | inr rest ↦ ≤ℚ_of_≡ (sym rest.0) ]

-- some number is above 0
pub some_positive : (row : ℕ → Rational) (a c : ℕ) → IsLexPositive (map row (range_with_len a c)) → (k : ℕ) × (k < c) × (zero_ℚ <ℚ row (a + k))
some_positive row a zero h = absurd h
some_positive row a (suc c) h = elim h [
  | inl above ↦ (0, omega arith, let e : a ≡ a + 0 = omega arith in subst (λ j. zero_ℚ <ℚ row j) e above)
  | inr rest ↦
      let found : (k : ℕ) × (k < c) × (zero_ℚ <ℚ row (a + 1 + k)) = some_positive row (a + 1) c rest.1 in
      let e : a + 1 + found.0 ≡ a + suc found.0 = omega arith in
      (suc found.0, omega (arith, found.1), subst (λ j. zero_ℚ <ℚ row j) e found.2)
]
