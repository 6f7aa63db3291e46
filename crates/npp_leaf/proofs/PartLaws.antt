-- A row at a vector, place by place: where no part is below 0, none is above the whole.
use Rattle.std.proofs.Common.{◌≡◌, ℕ, zero, suc, ◌+◌, ◌<◌, Bool, true, false, cond, List, [], ◌∷◌, length, get_or, refl, sym, ap, ◌∙◌, arith}
use Rattle.npp_frac.specs.Rational.{Rational, zero_ℚ, ◌+ℚ◌, ◌*ℚ◌, ◌≤ℚ◌}
use Rattle.npp_frac.specs.Ring.{+ℚ-zero, zero-+ℚ, zero-*ℚ}
use Rattle.npp_frac.specs.Order.{≤ℚ_refl, +ℚ_mono}
use Rattle.npp_frac.specs.Sign.{is_zero, is_zero_yes}
use Rattle.npp_frac.specs.Sums.{sum_by-nil, sum_by-cons, sum_by-append}
use Rattle.npp_lp.specs.Programs.{Term, at, terms_at}
use Rattle.npp_lp.specs.Building.{term_at}
use Rattle.npp_rows.specs.declared.names.ColumnName.{ColumnName}
use Rattle.npp_rows.specs.declared.names.ColumnName.TheVariants.{Toll}
use Rattle.npp_rows.specs.Named.{terms_from}

module _ (n : ℕ) (q : Rational) (x : List Rational) where
  one_by : (b : Bool) → is_zero q ≡ b → terms_at (cond b [] (record { column = n; value = q } ∷ [])) x ≡ q *ℚ at x n
  one_by true h = sum_by-nil (λ (t : Term). t.value *ℚ at x t.column) ∙ sym (ap (λ z. z *ℚ at x n) (is_zero_yes q h) ∙ zero-*ℚ (at x n))
  one_by false h =
      sum_by-cons (λ (t : Term). t.value *ℚ at x t.column) (record { column = n; value = q }) []
      ∙ ap (λ z. q *ℚ at x n +ℚ z) (sum_by-nil (λ (t : Term). t.value *ℚ at x t.column))
      ∙ +ℚ-zero (q *ℚ at x n)

  one_term : terms_at (term_at n q) x ≡ q *ℚ at x n
  one_term = one_by (is_zero q) refl

more_than : {p q r : Rational} → p ≤ℚ q → zero_ℚ ≤ℚ r → p ≤ℚ (q +ℚ r)
more_than {p} {q} {r} h k = rw +ℚ-zero at (+ℚ_mono h k)

module _ (e : ColumnName → Rational) (x : List Rational) where
  -- the first column, and the others
  first_part : (n : ℕ) (c : ColumnName) (cs : List ColumnName) → terms_at (terms_from n e (c ∷ cs)) x ≡ e c *ℚ at x n +ℚ terms_at (terms_from (n + 1) e cs) x
  first_part n c cs =
      sum_by-append (λ (t : Term). t.value *ℚ at x t.column) (term_at n (e c)) (terms_from (n + 1) e cs)
      ∙ ap (λ z. z +ℚ terms_at (terms_from (n + 1) e cs) x) (one_term n (e c) x)

  -- no part of the columns from n on is below 0
  abbrev pub NoneBelow : ℕ → List ColumnName → Type 0
  NoneBelow n cs = (j : ℕ) → j < length cs → zero_ℚ ≤ℚ (e (get_or cs j (Toll 0)) *ℚ at x (n + j))

  here : (n : ℕ) (c : ColumnName) (cs : List ColumnName) → NoneBelow n (c ∷ cs) → zero_ℚ ≤ℚ (e c *ℚ at x n)
  here n c cs h = let s : n + 0 ≡ n = omega arith in rw s at (h 0 (omega arith))

  behind : (n : ℕ) (c : ColumnName) (cs : List ColumnName) → NoneBelow n (c ∷ cs) → NoneBelow (n + 1) cs
  behind n c cs h j l = let s : n + suc j ≡ n + 1 + j = omega arith in rw s at (h (suc j) (omega (arith, l)))

  pub whole_not_below : (n : ℕ) (cs : List ColumnName) → NoneBelow n cs → zero_ℚ ≤ℚ terms_at (terms_from n e cs) x
  whole_not_below n [] h = rw (sum_by-nil (λ (t : Term). t.value *ℚ at x t.column)) (≤ℚ_refl zero_ℚ)
  whole_not_below n (c ∷ cs) h = rw (first_part n c cs) (more_than (here n c cs h) (whole_not_below (n + 1) cs (behind n c cs h)))

  pub part_within : (n : ℕ) (cs : List ColumnName) → NoneBelow n cs → (j : ℕ) → j < length cs → (e (get_or cs j (Toll 0)) *ℚ at x (n + j)) ≤ℚ terms_at (terms_from n e cs) x
  part_within n [] h j l = absurd (omega (arith, l))
  part_within n (c ∷ cs) h zero l =
      let s : n + 0 ≡ n = omega arith in
      rw (first_part n c cs, s) (more_than (≤ℚ_refl (e c *ℚ at x n)) (whole_not_below (n + 1) cs (behind n c cs h)))
  part_within n (c ∷ cs) h (suc j) l =
      let s : n + suc j ≡ n + 1 + j = omega arith in
      let rest = part_within (n + 1) cs (behind n c cs h) j (omega (arith, l)) in
      rw (first_part n c cs, s) (rw zero-+ℚ at (+ℚ_mono (here n c cs h) rest))
