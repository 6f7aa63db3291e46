-- The first table: where no right side is negative its rows are lexicographically positive, and where phase one stands one is.
use Rattle.std.proofs.Common.{◌≡◌, ℕ, zero, suc, ◌+◌, ◌-◌, ◌<◌, ◌≤◌, map, length, true, false, inl, inr, arith, ap, sym, ◌∙◌, subst, eq-or-lt_of_le}
use Rattle.std.specs.Prelude.{pos}
use Rattle.std.specs.List.{range_with_len}
use Rattle.std.proofs.lemmas.Bool.{false_from_ne_true}
use Rattle.std.proofs.lemmas.List.{get_or_default}
use Rattle.std.proofs.lemmas.List.Folds.{Any-from_list_any, list_any_at}
use Rattle.npp_frac.specs.Rational.{Rational, zero_ℚ, one_ℚ, is_less, Is-lt, Is-whole, ◌≤ℚ◌, ◌<ℚ◌}
use Rattle.npp_frac.specs.Order.{≤ℚ_or_>, ≤ℚ_antisymm, is_less_yes, is_less_no}
use Rattle.npp_frac.specs.Sums.{unit, unit_same, unit_other}
use Rattle.npp_lp.specs.Programs.{LinearProgram, row_of, no_row}
use Rattle.npp_simplex.specs.Run.{has_phase_one, first_cell}
use Rattle.npp_simplex.proofs.FirstCells.{cell_of_right}
use Rattle.npp_simplex.proofs.Invariant.{IsLexPositive, ArePositive}

-- ---- phase two's first table

one_positive : zero_ℚ <ℚ one_ℚ
one_positive = Is-lt (Is-whole (pos 0)) (Is-whole (pos 1)) (omega arith)

-- zeros, and then 1
leads_with_one : (row : ℕ → Rational) (a n c : ℕ) → a ≤ c → c < a + n → row c ≡ one_ℚ → ((k : ℕ) → a ≤ k → k < c → row k ≡ zero_ℚ) → IsLexPositive (map row (range_with_len a n))
leads_with_one row a zero c low high one zeros = omega arith
leads_with_one row a (suc n) c low high one zeros = elim (eq-or-lt_of_le low) [
  | inl here ↦ inl (subst (λ z. zero_ℚ <ℚ z) (sym one ∙ ap row (sym here)) one_positive)
  | inr later ↦
      let next : suc a ≡ a + 1 = omega arith in
      inr (zeros a (omega arith) later, subst (λ b. IsLexPositive (map row (range_with_len b n))) next (leads_with_one row (suc a) n c later (omega arith) one (λ k al kl. zeros k (omega arith) kl)))
]

pub ArePositive-first : (m n : ℕ) (first : ℕ → ℕ → Rational) → ((i k : ℕ) → i < m → k < m → first i (n + k) ≡ unit k one_ℚ i) → ((i : ℕ) → i < m → zero_ℚ ≤ℚ first i (n + m + 1)) → ArePositive m n first
ArePositive-first m n first slacks right i l = elim (≤ℚ_or_> (first i (n + m + 1)) zero_ℚ) [
  | inr above ↦ inl above
  | inl low ↦ inr (
    ≤ℚ_antisymm low (right i l),
    leads_with_one (first i) n m (n + i) (omega arith) (omega arith) (slacks i i l l ∙ unit_same i one_ℚ)
        (λ k nk ki. let e : k ≡ n + (k - n) = omega arith in ap (first i) e ∙ slacks i (k - n) l (omega arith) ∙ unit_other (k - n) i one_ℚ (λ same. omega arith)),
  )
]

-- ---- the right sides of a program

-- with phase one some right side is negative
pub some_right_negative : (p : LinearProgram) → has_phase_one p ≡ true → (h : ℕ) × (h < length p.rows) × (first_cell p h (p.columns + length p.rows + 1) <ℚ zero_ℚ)
some_right_negative p e =
    let any = Any-from_list_any (λ r. is_less r.right zero_ℚ) p.rows e in
    let is : row_of p any.0 ≡ any.1 = get_or_default p.rows any.0 no_row any.1 any.2 ∙ any.3 in
    (any.0, any.2, subst (λ q. q <ℚ zero_ℚ) (sym (cell_of_right p any.0 any.2 ∙ ap (λ r. r.right) is)) (is_less_yes any.1.right zero_ℚ any.4))

-- without it none is
pub no_right_negative : (p : LinearProgram) → has_phase_one p ≡ false → (i : ℕ) → i < length p.rows → zero_ℚ ≤ℚ first_cell p i (p.columns + length p.rows + 1)
no_right_negative p e i l = subst (λ q. zero_ℚ ≤ℚ q) (sym (cell_of_right p i l)) (is_less_no (row_of p i).right zero_ℚ
    (false_from_ne_true (is_less (row_of p i).right zero_ℚ) (λ yes. let clash : true ≡ false = sym (list_any_at (λ r. is_less r.right zero_ℚ) p.rows i no_row l yes) ∙ e in cc)))
