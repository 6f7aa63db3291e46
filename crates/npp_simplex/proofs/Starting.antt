-- The first tableau, number by number.
use Rattle.std.proofs.Common.{◌≡◌, ◌≢◌, ℕ, ◌+◌, ◌<◌, ◌≤◌, List, [], ◌∷◌, map, length, get_or, true, false, cond, nat_eq, nat_lt, pos, negsuc, arith, ap, sym, ◌∙◌, refl, eq-eqb, ne_eqb, ◌||◌}
use Rattle.std.specs.List.{list_any}
use Rattle.std.proofs.lemmas.Bool.Decides.{nat_tests}
use Rattle.npp_frac.specs.Gcd.{gcd, gcd_within}
use Rattle.npp_frac.specs.Rational.{Rational, whole, ratio, zero_ℚ, one_ℚ, negative, is_less}
use Rattle.npp_lp.specs.declared.program.Entry.{Entry}
use Rattle.npp_lp.specs.ProgramOver.{RowOver, ProgramOver, lists_of, rights_of}
use Rattle.npp_lp.specs.Programs.{LinearProgram}
use Rattle.npp_lp.specs.Duals.{coefficient}
use Rattle.npp_lp.specs.Meaning.{terms_of, row_meant, linear_program, IsProgram}
use Rattle.npp_lp.specs.ReadingLaws.{length-rows_of, length-rights_of, terms_of_row, right_of_row}
use Rattle.npp_simplex.specs.Tableau.{cell}
use Rattle.npp_simplex.specs.Run.{has_phase_one, first_cell, first_tableau}
use Rattle.npp_simplex.proofs.Tables.{table_cell, at_read}

pub lt_true : (a b : ℕ) → a < b → nat_lt a b ≡ true
lt_true a b l = grind (arith, nat_tests)

pub lt_false : (a b : ℕ) → b ≤ a → nat_lt a b ≡ false
lt_false a b l = grind (arith, nat_tests)

module _ {N : Type 0} (value : N → Rational) where
  pub phase_one_is : (rows : List (RowOver N)) → list_any (λ q. is_less q zero_ℚ) (map value (map (λ r. r.right) rows)) ≡ list_any (λ r. is_less r.right zero_ℚ) (map (row_meant value) rows)
  phase_one_is [] = refl
  phase_one_is (r ∷ rs) = ap (λ z. is_less (value r.right) zero_ℚ || z) (phase_one_is rs)

  pub rows_agree : (p : ProgramOver N) (n : ℕ) → IsProgram value p → n ≡ length p.rows → n ≡ length (linear_program value p).rows
  rows_agree p n h e = e ∙ sym (length-rows_of value p)

  pub row_coefficient : (p : ProgramOver N) (i j : ℕ) (es : List (Entry N)) → IsProgram value p → i < length p.rows → es ≡ get_or (lists_of p) i [] → j < p.columns → coefficient (terms_of value es) j ≡ first_cell (linear_program value p) i j
  row_coefficient p i j es h l is m =
      let rows : length p.rows ≡ length (linear_program value p).rows = rows_agree p (length p.rows) h refl in
      let inside : nat_lt i (length (linear_program value p).rows) ≡ true = lt_true i (length (linear_program value p).rows) (omega arith) in
      let before : nat_lt j p.columns ≡ true = lt_true j p.columns m in
      ap (λ t. coefficient t j) (sym (terms_of_row value p i es is)) ∙ sym (rw (inside, before) refl)

  pub row_right : (p : ProgramOver N) (i j : ℕ) (x : N) → IsProgram value p → i < length p.rows → x ≡ get_or (rights_of p) i x → p.columns + length p.rows < j → value x ≡ first_cell (linear_program value p) i j
  row_right p i j x h l is after =
      let rows : length p.rows ≡ length (linear_program value p).rows = rows_agree p (length p.rows) h refl in
      let inside : nat_lt i (length (linear_program value p).rows) ≡ true = lt_true i (length (linear_program value p).rows) (omega arith) in
      let no : nat_lt j p.columns ≡ false = lt_false j p.columns (omega arith) in
      let none : nat_lt j (p.columns + length (linear_program value p).rows) ≡ false = lt_false j (p.columns + length (linear_program value p).rows) (omega arith) in
      let other : nat_eq j (p.columns + length (linear_program value p).rows) ≡ false = ne_eqb j (p.columns + length (linear_program value p).rows) (λ e. omega arith) in
      let size : length (rights_of p) ≡ length p.rows = length-rights_of value p in
      sym (at_read value (rights_of p) i x (omega arith) is) ∙ sym (right_of_row value p i) ∙ sym (rw (inside, no, none, other) refl)

-- ---- phase one can begin

pub one_apart : negative one_ℚ ≢ zero_ℚ
unfolding whole ratio gcd gcd_within negative
one_apart e = let num : negsuc 0 ≡ pos 0 = ap (λ q. q.num) e in cc

pub extra_apart : (p : LinearProgram) → true ≡ has_phase_one p → (i : ℕ) → i < length p.rows → cell (first_tableau p) i (p.columns + length p.rows) ≢ zero_ℚ
extra_apart p e i l =
    let inside : nat_lt i (length p.rows) ≡ true = lt_true i (length p.rows) l in
    let no : nat_lt (p.columns + length p.rows) p.columns ≡ false = lt_false (p.columns + length p.rows) p.columns (omega arith) in
    let none : nat_lt (p.columns + length p.rows) (p.columns + length p.rows) ≡ false = lt_false (p.columns + length p.rows) (p.columns + length p.rows) (omega arith) in
    let here : nat_eq (p.columns + length p.rows) (p.columns + length p.rows) ≡ true = eq-eqb (p.columns + length p.rows) (p.columns + length p.rows) refl in
    let value : cell (first_tableau p) i (p.columns + length p.rows) ≡ negative one_ℚ =
    table_cell (length p.rows + 2) (p.columns + length p.rows + 2) (first_cell p) i (p.columns + length p.rows) (omega arith) (omega arith) ∙ rw (inside, no, none, here) (ap (λ b. cond b (negative one_ℚ) zero_ℚ) (sym e)) in
    λ f. one_apart (sym value ∙ f)
