-- What holds of the rows at the start: of the first rows, after the extra variable entered, and of the first tableau of a program.
use Rattle.std.proofs.Common.{◌≡◌, ◌≢◌, ℕ, ◌+◌, ◌<◌, ◌≤◌, inl, inr, Bool, true, false, cond, nat_eq, nat_lt, length, refl, arith, ap, ap₂, sym, ◌∙◌, eq-eqb, ne_eqb}
use Rattle.std.proofs.lemmas.Bool.{cases_eq, cases_lt}
use Rattle.npp_frac.specs.Rational.{Rational, zero_ℚ, one_ℚ, negative, ◌+ℚ◌, ◌-ℚ◌, ◌*ℚ◌, ◌/ℚ◌}
use Rattle.npp_frac.specs.Ring.{+ℚ-zero, zero-+ℚ, one-*ℚ, negative-*ℚ, -ℚ-negative}
use Rattle.npp_frac.specs.Sums.{unit, unit_other, unit_same}
use Rattle.npp_lp.specs.Programs.{LinearProgram, at}
use Rattle.npp_simplex.specs.Run.{has_phase_one, extra_entry, first_cell}
use Rattle.npp_simplex.proofs.Starting.{lt_true, lt_false}
use Rattle.npp_simplex.proofs.Invariant.{AreRows, IsGoalRow, IsExtraRow, turned_cell, turned_basis, without}
use Rattle.npp_simplex.proofs.KeptRows.{without_here, without_other}
use Rattle.npp_simplex.proofs.RowTurns.{turned_here, turned_other, basis_here}
use Rattle.npp_simplex.proofs.Sums.{unit_swap, unit_shift, product_sum_same, product_sum_unit, product_sum_zero}

-- ---- the first rows

pub AreRows-first : (m n : ℕ) (first : ℕ → ℕ → Rational) → ((i k : ℕ) → i < m → k < m → first i (n + k) ≡ unit k one_ℚ i) → AreRows m n first first (λ k. n + k)
AreRows-first m n first slacks = record {
  combined = λ i j l jl.
      sym (product_sum_unit m i (λ k. first k j) l)
      ∙ product_sum_same m (unit i one_ℚ) (λ k. first i (n + k)) (λ k. first k j) (λ k. first k j) (λ k kl. unit_swap i k one_ℚ ∙ sym (slacks i k l kl)) (λ k kl. refl);
  solves = λ w s. s;
  units = slacks;
  in_range = λ k kl. omega arith;
}

pub IsGoalRow-first : (m n : ℕ) (first : ℕ → ℕ → Rational) (g : ℕ) → ((k : ℕ) → k < m → first g (n + k) ≡ zero_ℚ) → IsGoalRow m n first first (λ k. n + k) g
IsGoalRow-first m n first g none = record {
  combined = λ j jl. sym (+ℚ-zero (first g j)) ∙ ap (λ t. first g j +ℚ t) (sym (product_sum_zero m (λ k. first g (n + k)) (λ k. first k j) none));
  basic = none;
}

-- ---- the extra variable entered

-- where a row whose entry is -1 loses its multiple, what is left is the divided row
minus_times : (a q : Rational) → a ≡ zero_ℚ → a -ℚ negative one_ℚ *ℚ q ≡ q
minus_times a q e = ap₂ ◌-ℚ◌ e (negative-*ℚ one_ℚ q ∙ ap negative (one-*ℚ q)) ∙ -ℚ-negative zero_ℚ q ∙ zero-+ℚ q

pub IsExtraRow-entered : (m n : ℕ) (first : ℕ → ℕ → Rational) (r : ℕ) → r < m → ((i : ℕ) → i < m → first i (n + m) ≡ negative one_ℚ) → ((j : ℕ) → j < n + m + 2 → first m j ≡ unit (n + m) (negative one_ℚ) j) → IsExtraRow m n (turned_cell first r (n + m)) (turned_basis (λ k. n + k) r (n + m)) r
IsExtraRow-entered m n first r rl extra goal = record {
  row = rl;
  basic = basis_here (λ k. n + k) r (n + m);
  same = λ j jl apart.
      let other : m ≢ r = λ is. omega (arith, is, rl) in
      let entry : first m (n + m) ≡ negative one_ℚ = goal (n + m) (omega arith) ∙ unit_same (n + m) (negative one_ℚ) in
      let none : first m j ≡ zero_ℚ = goal j jl ∙ unit_other (n + m) j (negative one_ℚ) (λ is. apart (sym is)) in
      turned_other first r (n + m) m j other
      ∙ ap (λ t. first m j -ℚ t *ℚ (first r j /ℚ first r (n + m))) entry
      ∙ minus_times (first m j) (first r j /ℚ first r (n + m)) none
      ∙ sym (turned_here first r (n + m) j);
}

-- ---- the first tableau

either : (b : Bool) {q : Rational} → q ≡ zero_ℚ → cond b q zero_ℚ ≡ zero_ℚ
either true e = e
either false e = refl

module _ (p : LinearProgram) where
  entry_is : has_phase_one p ≡ true → extra_entry p ≡ negative one_ℚ
  entry_is h = rw h refl

  pub entry_none : has_phase_one p ≡ false → extra_entry p ≡ zero_ℚ
  entry_none h = rw h refl

  -- the slack of row k has 1 in row k alone
  pub first_slacks : (i k : ℕ) → i < length p.rows → k < length p.rows → first_cell p i (p.columns + k) ≡ unit k one_ℚ i
  first_slacks i k l kl =
      rw (lt_true i (length p.rows) l, lt_false (p.columns + k) p.columns (omega arith), lt_true (p.columns + k) (p.columns + length p.rows) (omega arith))
      (unit_shift p.columns i k one_ℚ ∙ unit_swap i k one_ℚ)

  -- the goal rows have 0 at the slacks
  pub first_goals : (g : ℕ) → length p.rows ≤ g → (k : ℕ) → k < length p.rows → first_cell p g (p.columns + k) ≡ zero_ℚ
  first_goals g gl k kl =
      rw (lt_false g (length p.rows) gl, lt_false (p.columns + k) p.columns (omega arith))
      (either (nat_eq g (length p.rows)) (unit_other (p.columns + length p.rows) (p.columns + k) (extra_entry p) (λ e. omega (arith, e, kl))))

  -- the extra column of a row of the program
  pub first_extra : (i : ℕ) → i < length p.rows → first_cell p i (p.columns + length p.rows) ≡ extra_entry p
  first_extra i l =
      let extra : ℕ = p.columns + length p.rows in
      rw (lt_true i (length p.rows) l, lt_false extra p.columns (omega arith), lt_false extra extra (omega arith), eq-eqb extra extra refl) refl

  -- the goal row of phase one
  pub first_goal_one : (j : ℕ) → first_cell p (length p.rows) j ≡ unit (p.columns + length p.rows) (extra_entry p) j
  first_goal_one j = rw (lt_false (length p.rows) (length p.rows) (omega arith), eq-eqb (length p.rows) (length p.rows) refl) refl

  -- the goal row of phase two: the goal, and 0 past the columns
  pub first_goal_two : (j : ℕ) → first_cell p (length p.rows + 1) j ≡ cond (nat_lt j p.columns) (at p.goal j) zero_ℚ
  first_goal_two j = rw (lt_false (length p.rows + 1) (length p.rows) (omega arith), ne_eqb (length p.rows + 1) (length p.rows) (λ e. omega (arith, e))) refl

  -- where phase one stands, the extra column is -1 in each row of the program
  pub first_extra_rows : has_phase_one p ≡ true → (i : ℕ) → i < length p.rows → first_cell p i (p.columns + length p.rows) ≡ negative one_ℚ
  first_extra_rows h i l = first_extra i l ∙ entry_is h

  -- and its goal row is -1 there alone
  pub first_extra_goal : has_phase_one p ≡ true → (j : ℕ) → j < p.columns + length p.rows + 2 → first_cell p (length p.rows) j ≡ unit (p.columns + length p.rows) (negative one_ℚ) j
  first_extra_goal h j l = first_goal_one j ∙ ap (λ t. unit (p.columns + length p.rows) t j) (entry_is h)

  -- where phase one does not stand, the extra column is 0
  pub none_extra : has_phase_one p ≡ false → (i : ℕ) → i < length p.rows + 2 → first_cell p i (p.columns + length p.rows) ≡ zero_ℚ
  none_extra h i l = elim (cases_lt i (length p.rows)) [
    | inl inside ↦ first_extra i inside ∙ entry_none h
    | inr outside ↦ elim (cases_eq i (length p.rows)) [
      | inl is ↦ rw is (first_goal_one (p.columns + length p.rows) ∙ unit_same (p.columns + length p.rows) (extra_entry p) ∙ entry_none h)
      | inr apart ↦
          let next : i ≡ length p.rows + 1 = omega (arith, l, outside, apart) in
          rw next (first_goal_two (p.columns + length p.rows) ∙ rw (lt_false (p.columns + length p.rows) p.columns (omega arith)) refl)
    ]
  ]

  pub first_without : has_phase_one p ≡ false → (i j : ℕ) → i < length p.rows + 2 → without (p.columns + length p.rows) (first_cell p) i j ≡ first_cell p i j
  first_without h i j l = elim (cases_eq j (p.columns + length p.rows)) [
    | inr apart ↦ without_other (p.columns + length p.rows) (first_cell p) i j apart
    | inl is ↦ rw is (without_here (p.columns + length p.rows) (first_cell p) i ∙ sym (none_extra h i l))
  ]
