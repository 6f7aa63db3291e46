-- A pivot within a phase, and the one that ends phase one.
use Rattle.std.proofs.Common.{◌≡◌, ◌≢◌, ℕ, ◌+◌, ◌<◌, ◌≤◌, List, set, slice_index, arith, ap, sym, ◌∙◌, refl, subst, inl, inr}
use Rattle.std.proofs.lemmas.Bool.{cases_eq}
use Rattle.std.proofs.lemmas.List.{length-set}
use Rattle.npp_frac.specs.Rational.{Rational, zero_ℚ}
use Rattle.npp_simplex.specs.Tableau.{Tableau, cell, pivoted, without_extra}
use Rattle.npp_simplex.proofs.CellLaws.{cell_of_pivoted, cell_of_without, basis_of_turned}
use Rattle.npp_simplex.proofs.Invariant.{AreRows, IsGoalRow, turned_cell, turned_basis, without, IsLexPositive, ArePositive}
use Rattle.npp_simplex.proofs.KeptRows.{AreRows-same, IsGoalRow-same, AreRows-agree, IsGoalRow-agree, IsExtraRow-same, AreRows-without, IsGoalRow-without, without_other}
use Rattle.npp_simplex.proofs.RowTurns.{AreRows-turned, IsGoalRow-turned, IsExtraRow-turned, basis_here, basis_other}
use Rattle.npp_simplex.proofs.LexLemmas.{key_numbers_besides}
use Rattle.npp_simplex.proofs.Directions.{basis_different}
use Rattle.npp_simplex.proofs.Reached.{IsSized, IsInPhaseOne, IsInPhaseTwo}

-- the extra column is no column at which rows are compared
pub positive_agree : (m n : ℕ) (e d : ℕ → ℕ → Rational) → ((i j : ℕ) → i < m → j < n + m + 2 → j ≢ n + m → e i j ≡ d i j) → ArePositive m n e → ArePositive m n d
positive_agree m n e d same positive i l = subst IsLexPositive (key_numbers_besides m n (e i) (d i) (λ j jl apart. same i j l jl apart)) (positive i l)

-- ---- a pivot

module _ (m n : ℕ) (first : ℕ → ℕ → Rational) (t : Tableau) (basis : List ℕ) (r c : ℕ) (inside : r < m) (column : c < n + m + 1) (nonzero : cell t r c ≢ zero_ℚ) where
  pub sizes_turned : IsSized m n t basis → IsSized m n (pivoted t r c) (set basis r c)
  sizes_turned s = record { rows = s.rows; columns = s.columns; basic = length-set basis r c ∙ s.basic }

  pub basis_turned : IsSized m n t basis → (k : ℕ) → k < m → turned_basis (slice_index basis) r c k ≡ slice_index (set basis r c) k
  basis_turned s k l = sym (basis_of_turned basis r c k (let many = s.basic in omega arith))

  pub rows_turned : IsSized m n t basis → AreRows m n first (cell t) (slice_index basis) → AreRows m n first (cell (pivoted t r c)) (slice_index (set basis r c))
  rows_turned s rows =
      AreRows-same m n first first (turned_cell (cell t) r c) (cell (pivoted t r c)) (turned_basis (slice_index basis) r c) (slice_index (set basis r c))
      (λ i j l jl. refl) (λ i j l jl. sym (cell_of_pivoted t m n s.rows s.columns r c i j l jl)) (basis_turned s)
      (AreRows-turned m n first (cell t) (slice_index basis) r c inside column nonzero rows)

  pub goal_turned : (g : ℕ) → m ≤ g → g < m + 2 → IsSized m n t basis → AreRows m n first (cell t) (slice_index basis) → IsGoalRow m n first (cell t) (slice_index basis) g → IsGoalRow m n first (cell (pivoted t r c)) (slice_index (set basis r c)) g
  goal_turned g low high s rows goal =
      IsGoalRow-same m n first first (turned_cell (cell t) r c) (cell (pivoted t r c)) (turned_basis (slice_index basis) r c) (slice_index (set basis r c)) g high
      (λ i j l jl. refl) (λ i j l jl. sym (cell_of_pivoted t m n s.rows s.columns r c i j l jl)) (basis_turned s)
      (AreRows-turned m n first (cell t) (slice_index basis) r c inside column nonzero rows)
      (IsGoalRow-turned m n first (cell t) (slice_index basis) r c g inside column low nonzero rows goal)

  pub positive_turned : IsSized m n t basis → ArePositive m n (turned_cell (cell t) r c) → ArePositive m n (cell (pivoted t r c))
  positive_turned s positive = positive_agree m n (turned_cell (cell t) r c) (cell (pivoted t r c)) (λ i j l jl apart. sym (cell_of_pivoted t m n s.rows s.columns r c i j (omega arith) jl)) positive

  -- a pivot in phase one, in another row than that of the extra variable
  pub phase_one_goes_on : (x : IsInPhaseOne m n first t basis) → c < n + m → slice_index basis r ≢ n + m → ArePositive m n (turned_cell (cell t) r c) → IsInPhaseOne m n first (pivoted t r c) (set basis r c)
  phase_one_goes_on x low apart positive = record {
    sizes = sizes_turned x.sizes;
    rows = rows_turned x.sizes x.rows;
    first_goal = goal_turned m (omega arith) (omega arith) x.sizes x.rows x.first_goal;
    second_goal = goal_turned (m + 1) (omega arith) (omega arith) x.sizes x.rows x.second_goal;
    extra_row = x.extra_row;
    extra = IsExtraRow-same m n (turned_cell (cell t) r c) (cell (pivoted t r c)) (turned_basis (slice_index basis) r c) (slice_index (set basis r c)) x.extra_row
        (λ i j l jl. sym (cell_of_pivoted t m n x.sizes.rows x.sizes.columns r c i j l jl)) (basis_turned x.sizes)
        (IsExtraRow-turned m n first (cell t) (slice_index basis) x.extra_row r c inside low (λ same. apart (ap (slice_index basis) same ∙ x.extra.basic)) nonzero x.rows x.extra);
    positive = positive_turned x.sizes positive;
  }

  -- a pivot in phase two
  pub phase_two_goes_on : (x : IsInPhaseTwo m n first t basis) → c < n + m → ArePositive m n (turned_cell (cell t) r c) → IsInPhaseTwo m n first (pivoted t r c) (set basis r c)
  phase_two_goes_on x low positive = record {
    sizes = sizes_turned x.sizes;
    rows = rows_turned x.sizes x.rows;
    goal = goal_turned (m + 1) (omega arith) (omega arith) x.sizes x.rows x.goal;
    positive = positive_turned x.sizes positive;
    basic = λ k l. subst (λ b. b < n + m) (basis_turned x.sizes k l) (elim (cases_eq k r) [
      | inl same ↦ subst (λ b. b < n + m) (sym (ap (turned_basis (slice_index basis) r c) same ∙ basis_here (slice_index basis) r c)) low
      | inr apart ↦ subst (λ b. b < n + m) (sym (basis_other (slice_index basis) r c k apart)) (x.basic k l)
    ]);
  }

  module _ (x : IsInPhaseOne m n first t basis) (low : c < n + m) (leaves : slice_index basis r ≡ n + m) where
    -- the extra variable has left the basis
    extra_left : (k : ℕ) → k < m → slice_index (set basis r c) k ≢ n + m
    extra_left k l = subst (λ b. b ≢ n + m) (basis_turned x.sizes k l) (elim (cases_eq k r) [
      | inl same ↦ subst (λ b. b ≢ n + m) (sym (ap (turned_basis (slice_index basis) r c) same ∙ basis_here (slice_index basis) r c)) (λ e. omega arith)
      | inr apart ↦ subst (λ b. b ≢ n + m) (sym (basis_other (slice_index basis) r c k apart)) (λ e. apart (basis_different m n first (cell t) (slice_index basis) x.rows k r l inside (e ∙ sym leaves)))
    ])

    dropped : (i j : ℕ) → i < m + 2 → i ≢ m → j < n + m + 2 → without (n + m) (cell (pivoted t r c)) i j ≡ cell (without_extra (pivoted t r c)) i j
    dropped i j l apart jl = sym (cell_of_without (pivoted t r c) m n x.sizes.rows x.sizes.columns i j l apart jl)

    -- the pivot with which phase one ends
    pub phase_one_ends : ArePositive m n (turned_cell (cell t) r c) → IsInPhaseTwo m n (without (n + m) first) (without_extra (pivoted t r c)) (set basis r c)
    phase_one_ends positive =
        let rows = rows_turned x.sizes x.rows in
        let goal = goal_turned (m + 1) (omega arith) (omega arith) x.sizes x.rows x.second_goal in
        let sizes = sizes_turned x.sizes in
        record {
          sizes = record { rows = sizes.rows; columns = sizes.columns; basic = sizes.basic };
          rows = AreRows-agree m n (without (n + m) first) (without (n + m) first) (without (n + m) (cell (pivoted t r c))) (cell (without_extra (pivoted t r c))) (slice_index (set basis r c)) (slice_index (set basis r c))
              (λ i j l jl. refl) (λ i j l jl. dropped i j (omega arith) (λ e. omega arith) jl) (λ k l. refl)
              (AreRows-without m n first (cell (pivoted t r c)) (slice_index (set basis r c)) extra_left rows);
          goal = IsGoalRow-agree m n (without (n + m) first) (without (n + m) first) (without (n + m) (cell (pivoted t r c))) (cell (without_extra (pivoted t r c))) (slice_index (set basis r c)) (slice_index (set basis r c)) (m + 1)
              (λ i j l jl. refl) (λ j jl. refl) (λ j jl. dropped (m + 1) j (omega arith) (λ e. omega arith) jl) (λ k l. refl) (AreRows-without m n first (cell (pivoted t r c)) (slice_index (set basis r c)) extra_left rows)
              (IsGoalRow-without m n first (cell (pivoted t r c)) (slice_index (set basis r c)) (m + 1) extra_left goal);
          positive = positive_agree m n (cell (pivoted t r c)) (cell (without_extra (pivoted t r c)))
              (λ i j l jl apart. sym (without_other (n + m) (cell (pivoted t r c)) i j apart) ∙ dropped i j (omega arith) (λ e. omega arith) jl)
              (positive_turned x.sizes positive);
          basic = λ k l. (let within = rows.in_range k l in let apart = extra_left k l in omega arith);
        }
