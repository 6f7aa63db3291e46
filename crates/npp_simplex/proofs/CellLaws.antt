-- The tableaus and bases of a run, cell by cell.
use Rattle.std.proofs.Common.{◌≡◌, ◌≢◌, ℕ, ◌+◌, ◌<◌, List, length, set, slice_index, true, false, cond, ◌||◌, nat_eq, arith, ap, sym, ◌∙◌, inl, inr, eq-eqb, ne_eqb, get_or-set_same, get_or-set_other}
use Rattle.std.proofs.lemmas.Bool.{cases_eq}
use Rattle.npp_frac.specs.Rational.{zero_ℚ}
use Rattle.npp_lp.specs.Programs.{LinearProgram}
use Rattle.npp_simplex.specs.Tableau.{Tableau, cell, pivoted_cell, pivoted, cell_without_extra, without_extra}
use Rattle.npp_simplex.specs.Run.{first_cell, first_tableau}
use Rattle.npp_simplex.proofs.Tables.{table_cell}
use Rattle.npp_simplex.proofs.Invariant.{turned_cell, turned_basis, without}

-- a cell of the first tableau
pub cell_of_first : (p : LinearProgram) (i j : ℕ) → i < length p.rows + 2 → j < p.columns + length p.rows + 2 → cell (first_tableau p) i j ≡ first_cell p i j
cell_of_first p i j l k = table_cell (length p.rows + 2) (p.columns + length p.rows + 2) (first_cell p) i j l k

module _ (t : Tableau) (m n : ℕ) (rows : t.rows ≡ m) (columns : t.columns ≡ n) where
  -- a cell after a pivot
  pub cell_of_pivoted : (r c i j : ℕ) → i < m + 2 → j < n + m + 2 → cell (pivoted t r c) i j ≡ turned_cell (cell t) r c i j
  cell_of_pivoted r c i j l k = table_cell (t.rows + 2) (t.columns + t.rows + 2) (pivoted_cell t r c) i j (omega arith) (omega arith)

  -- a cell after the extra column was dropped
  pub cell_of_without : (i j : ℕ) → i < m + 2 → i ≢ m → j < n + m + 2 → cell (without_extra t) i j ≡ without (n + m) (cell t) i j
  cell_of_without i j l apart k =
      let no : nat_eq i t.rows ≡ false = ne_eqb i t.rows (λ e. apart (e ∙ rows)) in
      let extra : t.columns + t.rows ≡ n + m = omega arith in
      table_cell (t.rows + 2) (t.columns + t.rows + 2) (cell_without_extra t) i j (omega arith) (omega arith)
      ∙ ap (λ b. cond (b || nat_eq j (t.columns + t.rows)) zero_ℚ (cell t i j)) no
      ∙ ap (λ c. cond (nat_eq j c) zero_ℚ (cell t i j)) extra

-- the basic column of a row after a pivot
pub basis_of_turned : (basis : List ℕ) (r c k : ℕ) → r < length basis → slice_index (set basis r c) k ≡ turned_basis (slice_index basis) r c k
basis_of_turned basis r c k l = elim (cases_eq k r) [
  | inl same ↦ (let yes : nat_eq k r ≡ true = eq-eqb k r same in ap (slice_index (set basis r c)) same ∙ get_or-set_same basis r c 0 l ∙ ap (λ b. cond b c (slice_index basis k)) (sym yes))
  | inr apart ↦ (let no : nat_eq k r ≡ false = ne_eqb k r apart in get_or-set_other basis r k c 0 apart ∙ ap (λ b. cond b c (slice_index basis k)) (sym no))
]
