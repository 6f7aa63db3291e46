-- A row without the extra column, and the goal row of phase one, which is dropped.
use Rattle.std.proofs.Common.{◌≡◌, ◌≢◌, ℕ, ◌+◌, List, false, true, cond, ◌||◌, nat_eq, ap, ap₂, sym, ◌∙◌, refl, inl, inr, eq-eqb, ne_eqb}
use Rattle.std.proofs.lemmas.Bool.{cases_eq}
use Rattle.npp_frac.specs.Rational.{Rational, zero_ℚ}
use Rattle.npp_lp.specs.Programs.{at}
use Rattle.npp_simplex.specs.Tableau.{Tableau, cell, extra_column, cell_without_extra}

pub goal_cleared : (t : Tableau) (i j : ℕ) → i ≡ t.rows → zero_ℚ ≡ cell_without_extra t i j
goal_cleared t i j e = let yes : nat_eq i t.rows ≡ true = eq-eqb i t.rows e in sym (ap (λ b. cond (b || nat_eq j (extra_column t)) zero_ℚ (cell t i j)) yes)

-- a row y that is the row x of the table but for 0 in the extra column
pub extra_cleared : (t : Tableau) (x y : List Rational) (i j k : ℕ) → i ≢ t.rows → k ≡ extra_column t → at y k ≡ zero_ℚ → ((m : ℕ) → m ≢ k → at y m ≡ at x m) → at x j ≡ cell t i j → at y j ≡ cell_without_extra t i j
extra_cleared t x y i j k apart e none others read =
    let no : nat_eq i t.rows ≡ false = ne_eqb i t.rows apart in
    elim (cases_eq j k) [
      | inl same ↦
          let yes : nat_eq j (extra_column t) ≡ true = eq-eqb j (extra_column t) (same ∙ e) in
          ap (at y) same ∙ none ∙ rw (no, yes) refl
      | inr other ↦
          let not : nat_eq j (extra_column t) ≡ false = ne_eqb j (extra_column t) (λ f. other (f ∙ sym e)) in
          others j other ∙ read ∙ rw (no, not) refl
    ]

pub without_same : (t now : Tableau) (i j : ℕ) → now.rows ≡ t.rows → now.columns ≡ t.columns → cell now i j ≡ cell t i j → cell_without_extra now i j ≡ cell_without_extra t i j
without_same t now i j e f same = ap₂ (λ m n. cond (nat_eq i m || nat_eq j (n + m)) zero_ℚ (cell now i j)) e f ∙ ap (λ q. cond (nat_eq i t.rows || nat_eq j (extra_column t)) zero_ℚ q) same
