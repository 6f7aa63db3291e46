-- What holds of a state holds of the next.
use Rattle.std.proofs.Common.{◌≡◌, ◌≢◌, ℕ, ◌+◌, ◌<◌, List, [], length, set, slice_index, Bool, true, false, cond, nat_eq, Some, arith, ap, ap₂, sym, ◌∙◌, refl, subst, eqb-true, eq-eqb}
use Rattle.std.proofs.lemmas.Bool.{both_ways}
use Rattle.std.specs.List.{range_with_len}
use Rattle.npp_frac.specs.Rational.{Rational, zero_ℚ, ◌<ℚ◌}
use Rattle.npp_frac.specs.Division.{not-zero_of_pos}
use Rattle.npp_lp.specs.Programs.{LinearProgram}
use Rattle.npp_simplex.specs.declared.stage.Stage.{Stage}
use Rattle.npp_simplex.specs.declared.stage.Stage.TheVariants.{Entry, PhaseOne, PhaseTwo}
use Rattle.npp_simplex.specs.Tableau.{Tableau, cell, extra_column, pivoted}
use Rattle.npp_simplex.specs.Ratio.{entering, positive_rows, leaving}
use Rattle.npp_simplex.specs.Run.{State, has_phase_one, PivotOn, next, stage_after, handed_on, state_after, first_cell, first_tableau}
use Rattle.npp_simplex.proofs.Choices.{IsChosen, pivot_chosen}
use Rattle.npp_simplex.proofs.CellLaws.{cell_of_first}
use Rattle.npp_simplex.proofs.FirstPlaces.{one_rises}
use Rattle.npp_simplex.proofs.Invariant.{AreRows, turned_cell, ArePositive}
use Rattle.npp_simplex.proofs.RowStarts.{first_slacks, first_extra_rows}
use Rattle.npp_simplex.proofs.LexStarts.{some_right_negative}
use Rattle.npp_simplex.proofs.LexTurns.{leaving_entry, leaving_first, ArePositive-turned_leaving, ArePositive-entered_leaving}
use Rattle.npp_simplex.proofs.Reached.{IsAtEntry, IsInPhaseOne, IsInPhaseTwo, IsReachedAt, IsReached, first_cell_without}
use Rattle.npp_simplex.proofs.ReachedFirst.{entered}
use Rattle.npp_simplex.proofs.PhaseSteps.{phase_one_goes_on, phase_one_ends, phase_two_goes_on}

-- what the choice of a pivot says of its row and column, in a phase
pub record IsPivot (m n goal : ℕ) (t : Tableau) (r c : ℕ) : Type 0 where
  pub column : c < n + m
  pub row : r < m
  pub rises : zero_ℚ <ℚ cell t goal c
  pub entry : zero_ℚ <ℚ cell t r c

pub pivot_one : (m n : ℕ) (t : Tableau) (r c : ℕ) → t.rows ≡ m → t.columns ≡ n → IsChosen PhaseOne t r c → IsPivot m n m t r c
pivot_one m n t r c rows columns chosen =
    let rise = one_rises t m n rows columns t.rows c chosen.column in
    let leaves = leaving_entry PhaseOne t c (λ e. cc) chosen.some in
    record {
      column = rise.0;
      row = subst (λ k. k < m) (sym chosen.row) (omega (arith, leaves.0));
      rises = subst (λ k. zero_ℚ <ℚ cell t k c) rows rise.1;
      entry = subst (λ k. zero_ℚ <ℚ cell t k c) (sym chosen.row) leaves.1;
    }

pub pivot_two : (m n : ℕ) (t : Tableau) (r c : ℕ) → t.rows ≡ m → t.columns ≡ n → IsChosen PhaseTwo t r c → IsPivot m n (m + 1) t r c
pivot_two m n t r c rows columns chosen =
    let rise = one_rises t m n rows columns (t.rows + 1) c chosen.column in
    let leaves = leaving_entry PhaseTwo t c (λ e. cc) chosen.some in
    record {
      column = rise.0;
      row = subst (λ k. k < m) (sym chosen.row) (omega (arith, leaves.0));
      rises = subst (λ k. zero_ℚ <ℚ cell t k c) (ap (λ k. k + 1) rows) rise.1;
      entry = subst (λ k. zero_ℚ <ℚ cell t k c) (sym chosen.row) leaves.1;
    }

-- the rows stay lexicographically positive
positive_after : (m n : ℕ) (first : ℕ → ℕ → Rational) (basis : ℕ → ℕ) (s : Stage) (t : Tableau) (r c : ℕ) → t.rows ≡ m → t.columns ≡ n → s ≢ Entry → AreRows m n first (cell t) basis → ArePositive m n (cell t) → c < n + m → positive_rows t c ≢ [] → r ≡ leaving s t c → ArePositive m n (turned_cell (cell t) r c)
positive_after m n first basis s t r c rows columns later kept positive low some row =
    subst (λ k. ArePositive m n (turned_cell (cell t) k c)) (sym row) (ArePositive-turned_leaving m n first basis s t c rows columns later kept positive low some)

-- ---- stage by stage

module _ (p : LinearProgram) (t : Tableau) (basis : List ℕ) (r c : ℕ) where
  after_one_by : (b : Bool) → nat_eq (slice_index basis r) (extra_column t) ≡ b → IsInPhaseOne (length p.rows) p.columns (first_cell p) t basis → IsChosen PhaseOne t r c → IsReachedAt p (cond b PhaseTwo PhaseOne) (handed_on PhaseOne (cond b PhaseTwo PhaseOne) (pivoted t r c)) (set basis r c)
  after_one_by true test x chosen =
      let pivot = pivot_one (length p.rows) p.columns t r c x.sizes.rows x.sizes.columns chosen in
      let leaves : slice_index basis r ≡ extra_column t = eqb-true (slice_index basis r) (extra_column t) test in
      let rows = x.sizes.rows in
      let columns = x.sizes.columns in
      let extra : extra_column t ≡ p.columns + length p.rows = omega arith in
      phase_one_ends (length p.rows) p.columns (first_cell p) t basis r c pivot.row (omega (arith, pivot.column)) (not-zero_of_pos pivot.entry) x pivot.column (leaves ∙ extra)
      (positive_after (length p.rows) p.columns (first_cell p) (slice_index basis) PhaseOne t r c rows columns (λ e. cc) x.rows x.positive pivot.column chosen.some chosen.row)
  after_one_by false test x chosen =
      let pivot = pivot_one (length p.rows) p.columns t r c x.sizes.rows x.sizes.columns chosen in
      let rows = x.sizes.rows in
      let columns = x.sizes.columns in
      let extra : extra_column t ≡ p.columns + length p.rows = omega arith in
      phase_one_goes_on (length p.rows) p.columns (first_cell p) t basis r c pivot.row (omega (arith, pivot.column)) (not-zero_of_pos pivot.entry) x pivot.column
      (λ e. both_ways (nat_eq (slice_index basis r) (extra_column t)) test (eq-eqb (slice_index basis r) (extra_column t) (e ∙ sym extra)))
      (positive_after (length p.rows) p.columns (first_cell p) (slice_index basis) PhaseOne t r c rows columns (λ e. cc) x.rows x.positive pivot.column chosen.some chosen.row)

  after_two : IsInPhaseTwo (length p.rows) p.columns (first_cell_without p) t basis → IsChosen PhaseTwo t r c → IsInPhaseTwo (length p.rows) p.columns (first_cell_without p) (pivoted t r c) (set basis r c)
  after_two x chosen =
      let pivot = pivot_two (length p.rows) p.columns t r c x.sizes.rows x.sizes.columns chosen in
      phase_two_goes_on (length p.rows) p.columns (first_cell_without p) t basis r c pivot.row (omega (arith, pivot.column)) (not-zero_of_pos pivot.entry) x pivot.column
      (positive_after (length p.rows) p.columns (first_cell_without p) (slice_index basis) PhaseTwo t r c x.sizes.rows x.sizes.columns (λ e. cc) x.rows x.positive pivot.column chosen.some chosen.row)

entry_column : (t : Tableau) (c : ℕ) → entering Entry t ≡ Some c → c ≡ extra_column t
entry_column t c e = cc

-- at phase one's first pivot
first_pivot : (p : LinearProgram) (stands : has_phase_one p ≡ true) (r : ℕ) → r ≡ leaving Entry (first_tableau p) (p.columns + length p.rows) → IsInPhaseOne (length p.rows) p.columns (first_cell p) (pivoted (first_tableau p) r (p.columns + length p.rows)) (set (range_with_len p.columns (length p.rows)) r (p.columns + length p.rows))
first_pivot p stands r row =
    let (h, l, below) = some_right_negative p stands in
    let inside : r < length p.rows = subst (λ k. k < length p.rows) (sym row) (leaving_first (first_tableau p) (p.columns + length p.rows) h l) in
    entered p stands r inside (subst (λ k. ArePositive (length p.rows) p.columns (turned_cell (cell (first_tableau p)) k (p.columns + length p.rows))) (sym row)
    (ArePositive-entered_leaving (length p.rows) p.columns (first_tableau p) h refl refl
    (λ i k il kl. cell_of_first p i (p.columns + k) (omega arith) (omega arith) ∙ first_slacks p i k il kl)
    (λ i il. cell_of_first p i (p.columns + length p.rows) (omega arith) (omega arith) ∙ first_extra_rows p stands i il)
    l (subst (λ q. q <ℚ zero_ℚ) (sym (cell_of_first p h (p.columns + length p.rows + 1) (omega arith) (omega arith))) below)))

after_entry : (p : LinearProgram) (t : Tableau) (basis : List ℕ) (r c : ℕ) → IsAtEntry p t basis → IsChosen Entry t r c → IsInPhaseOne (length p.rows) p.columns (first_cell p) (pivoted t r c) (set basis r c)
after_entry p t basis r c x chosen =
    let extra : extra_column t ≡ p.columns + length p.rows = ap extra_column x.tableau in
    let column : c ≡ p.columns + length p.rows = entry_column t c chosen.column ∙ extra in
    let row : r ≡ leaving Entry (first_tableau p) (p.columns + length p.rows) = chosen.row ∙ ap₂ (leaving Entry) x.tableau column in
    let slacks : List ℕ = range_with_len p.columns (length p.rows) in
    let T : Tableau → List ℕ → ℕ → Type 0 = λ u b d. IsInPhaseOne (length p.rows) p.columns (first_cell p) (pivoted u r d) (set b r d) in
    subst (λ u. T u basis c) (sym x.tableau) (subst (λ b. T (first_tableau p) b c) (sym x.slacks) (subst (λ d. T (first_tableau p) slacks d) (sym column) (first_pivot p x.stands r row)))

pub reached_at : (p : LinearProgram) (s : Stage) (t : Tableau) (basis : List ℕ) (r c : ℕ) → IsReachedAt p s t basis → IsChosen s t r c → IsReachedAt p (stage_after s t basis r) (handed_on s (stage_after s t basis r) (pivoted t r c)) (set basis r c)
reached_at p Entry t basis r c x chosen = after_entry p t basis r c x chosen
reached_at p PhaseOne t basis r c x chosen = after_one_by p t basis r c (nat_eq (slice_index basis r) (extra_column t)) refl x chosen
reached_at p PhaseTwo t basis r c x chosen = after_two p t basis r c x chosen

pub reached_next : (p : LinearProgram) (x : State) (r c : ℕ) → IsReached p x → next x ≡ PivotOn r c → IsReached p (state_after x r c)
reached_next p x r c reached e = reached_at p x.stage x.tableau x.basis r c reached (pivot_chosen x r c e)
