-- Tableaus cell by cell.
use Rattle.std.proofs.Common.{◌≡◌, ℕ, zero, suc, ◌<◌, List, [], ◌∷◌, map, length, cond, nat_eq, arith, ap, sym, ◌∙◌}
use Rattle.npp_frac.specs.Rational.{Rational}
use Rattle.npp_frac.specs.Fits.{FitsBelow}
use Rattle.npp_lp.specs.Programs.{at}
use Rattle.npp_simplex.specs.Tableau.{Tableau, cell, height, width, with_cells, with_row}
use Rattle.npp_simplex.proofs.Tables.{table_cell, table_same}

pub with_same : (t : Tableau) (f g : ℕ → ℕ → Rational) → ((i j : ℕ) → i < height t → j < width t → f i j ≡ g i j) → with_cells t f ≡ with_cells t g
with_same t f g e = ap (λ z. record { rows = t.rows; columns = t.columns; cells = z }) (table_same (height t) (width t) f g e)

pub row_same : (t : Tableau) (i : ℕ) (f g : ℕ → Rational) → ((j : ℕ) → j < width t → f j ≡ g j) → with_row t i f ≡ with_row t i g
row_same t i f g e = with_same t (λ k j. cond (nat_eq k i) (f j) (cell t k j)) (λ k j. cond (nat_eq k i) (g j) (cell t k j)) (λ k j kl jl. ap (λ q. cond (nat_eq k i) q (cell t k j)) (e j jl))

-- a tableau with these cells is one with the cells that are read in it
pub whole_with : (t u : Tableau) (f : ℕ → ℕ → Rational) → u ≡ with_cells t f → u ≡ with_cells u (cell u)
whole_with t u f e =
    e ∙ with_same t f (cell u) (λ i j l k. sym (ap (λ z. cell z i j) e ∙ table_cell (height t) (width t) f i j l k)) ∙ sym (ap (λ z. with_cells z (cell u)) e)

-- ---- numbers of a list

module _ {N : Type 0} (v : N → Rational) (m : ℕ) (fits : (x : N) → FitsBelow m (v x)) where
  pub at_fits : (xs : List N) (k : ℕ) → k < length xs → FitsBelow m (at (map v xs) k)
  at_fits [] k l = absurd (omega arith)
  at_fits (x ∷ xs) zero l = fits x
  at_fits (x ∷ xs) (suc k) l = at_fits xs k (omega arith)
