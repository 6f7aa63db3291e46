-- A tableau whose rows are replaced one after the other.
use Rattle.std.proofs.Common.{◌≡◌, ◌≢◌, ℕ, ◌+◌, ◌<◌, ◌≤◌, true, false, cond, nat_eq, arith, ap, sym, ◌∙◌, refl, inl, inr, eq-eqb, ne_eqb, eq-or-lt_of_le}
use Rattle.npp_frac.specs.Rational.{Rational}
use Rattle.npp_simplex.specs.Tableau.{Tableau, cell, height, width, with_cells, with_row}
use Rattle.npp_simplex.proofs.Tables.{table_cell}
use Rattle.npp_simplex.proofs.Grids.{with_same, whole_with}

-- ---- the cells of a tableau in which a row was replaced

row_cell : (t u : Tableau) (i : ℕ) (f : ℕ → Rational) (k j : ℕ) → u ≡ with_row t i f → k < height t → j < width t → cell u k j ≡ cond (nat_eq k i) (f j) (cell t k j)
row_cell t u i f k j is l m = ap (λ z. cell z k j) is ∙ table_cell (height t) (width t) (λ k j. cond (nat_eq k i) (f j) (cell t k j)) k j l m

pub row_here : (t u : Tableau) (i : ℕ) (f : ℕ → Rational) (k j : ℕ) → u ≡ with_row t i f → k ≡ i → k < height t → j < width t → cell u k j ≡ f j
row_here t u i f k j is e l m = let yes : nat_eq k i ≡ true = eq-eqb k i e in row_cell t u i f k j is l m ∙ ap (λ b. cond b (f j) (cell t k j)) yes

pub row_other : (t u : Tableau) (i : ℕ) (f : ℕ → Rational) (k j : ℕ) → u ≡ with_row t i f → k ≢ i → k < height t → j < width t → cell u k j ≡ cell t k j
row_other t u i f k j is e l m = let no : nat_eq k i ≡ false = ne_eqb k i e in row_cell t u i f k j is l m ∙ ap (λ b. cond b (f j) (cell t k j)) no

-- ---- row after row

-- the rows of t below i have the numbers g, and the others have not changed
pub record IsChangedUpTo (t now : Tableau) (g : ℕ → ℕ → Rational) (i : ℕ) : Type 0 where
  pub whole : now ≡ with_cells t (cell now)
  pub done : (k j : ℕ) → k < i → k < height t → j < width t → cell now k j ≡ g k j
  pub rest : (k j : ℕ) → i ≤ k → k < height t → j < width t → cell now k j ≡ cell t k j

pub unchanged : (t : Tableau) (g : ℕ → ℕ → Rational) → t ≡ with_cells t (cell t) → IsChangedUpTo t t g 0
unchanged t g whole = record { whole = whole; done = λ k j kl kh jl. absurd (omega arith); rest = λ k j kl kh jl. refl }

module _ (t now : Tableau) (g : ℕ → ℕ → Rational) (i : ℕ) (h : IsChangedUpTo t now g i) where
  rows_is : now.rows ≡ t.rows
  rows_is = ap (λ u. u.rows) h.whole

  columns_is : now.columns ≡ t.columns
  columns_is = ap (λ u. u.columns) h.whole

  -- a row that has its numbers already
  pub row_passed : ((j : ℕ) → j < width t → cell t i j ≡ g i j) → IsChangedUpTo t now g (i + 1)
  row_passed same = record {
    whole = h.whole;
    done = λ k j kl kh jl. elim (eq-or-lt_of_le (let le : k ≤ i = omega arith in le)) [
      | inl e ↦ h.rest k j (omega arith) kh jl ∙ ap (λ r. cell t r j) e ∙ same j jl ∙ ap (λ r. g r j) (sym e)
      | inr less ↦ h.done k j less kh jl
    ];
    rest = λ k j kl kh jl. h.rest k j (omega arith) kh jl;
  }

  -- and one that gets them
  pub row_replaced : (next : Tableau) (f : ℕ → Rational) → next ≡ with_row now i f → ((j : ℕ) → j < width t → f j ≡ g i j) → IsChangedUpTo t next g (i + 1)
  row_replaced next f is new = record {
    whole =
        whole_with now next (λ k j. cond (nat_eq k i) (f j) (cell now k j)) is
        ∙ ap (λ u. with_cells u (cell next)) (is ∙ ap (λ u. with_row u i f) h.whole);
    done = λ k j kl kh jl. elim (eq-or-lt_of_le (let le : k ≤ i = omega arith in le)) [
      | inl e ↦ row_here now next i f k j is e (omega (arith, kh, rows_is)) (omega (arith, jl, rows_is, columns_is)) ∙ new j jl ∙ ap (λ r. g r j) (sym e)
      | inr less ↦ row_other now next i f k j is (λ e. omega arith) (omega (arith, kh, rows_is)) (omega (arith, jl, rows_is, columns_is)) ∙ h.done k j less kh jl
    ];
    rest = λ k j kl kh jl. row_other now next i f k j is (λ e. omega arith) (omega (arith, kh, rows_is)) (omega (arith, jl, rows_is, columns_is)) ∙ h.rest k j (omega arith) kh jl;
  }

  pub all_changed : i ≡ height t → now ≡ with_cells t g
  all_changed e = h.whole ∙ with_same t (cell now) g (λ k j kl jl. h.done k j (omega arith) kl jl)
