-- The columns at which a row is not 0, and what lies between two of them.
use Rattle.std.proofs.Common.{◌≡◌, ℕ, zero, suc, ◌+◌, ◌<◌, ◌≤◌, List, [], ◌∷◌, length, get_or, Bool, false, arith, not, ◌↔◌, pos, All, ap, sym, ◌∙◌, refl, inl, inr, eq-or-lt_of_le, add-one}
use Rattle.std.specs.List.{range_with_len, filter}
use Rattle.std.specs.Bool.{IsTrue}
use Rattle.std.specs.Ordering.{int_eq}
use Rattle.std.proofs.lemmas.Bool.{cases_Bool, not-false}
use Rattle.std.proofs.lemmas.Bool.Decides.{Decides-int_eq, same_from_decides}
use Rattle.std.proofs.lemmas.List.{get_or_default}
use Rattle.npp_frac.specs.Rational.{Rational, zero_ℚ}
use Rattle.npp_frac.specs.Sign.{zero_of_num, num_of_zero}
use Rattle.npp_simplex.specs.Steps.{is_nonzero, nonzero_columns}

-- no number from l on and below k passes
pub record IsGap (p : ℕ → Bool) (l k : ℕ) : Type 0 where
  pub order : l ≤ k
  pub none : (j : ℕ) → l ≤ j → j < k → p j ≡ false

empty_gap : (p : ℕ → Bool) (l k : ℕ) → l ≡ k → IsGap p l k
empty_gap p l k e = record { order = omega arith; none = λ j a b. absurd (omega arith) }

longer_gap : (p : ℕ → Bool) (a k : ℕ) → p a ≡ false → IsGap p (suc a) k → IsGap p a k
longer_gap p a k fails h = record {
  order = let le = h.order in omega arith;
  none = λ j l m. elim (eq-or-lt_of_le l) [
    | inl same ↦ ap p (sym same) ∙ fails
    | inr less ↦ h.none j less m
  ];
}

-- the numbers from a on that pass, one after the other, up to an end
abbrev pub AreSteps : (ℕ → Bool) → ℕ → ℕ → List ℕ → Type 0
AreSteps p e a [] = IsGap p a e
AreSteps p e a (x ∷ xs) = IsGap p a x × (x < e) × AreSteps p e (suc x) xs

module _ (p : ℕ → Bool) (e : ℕ) where
  later_steps : (a : ℕ) (xs : List ℕ) → p a ≡ false → AreSteps p e (suc a) xs → AreSteps p e a xs
  later_steps a [] fails h = longer_gap p a e fails h
  later_steps a (x ∷ xs) fails h = (longer_gap p a x fails h.0, h.1, h.2)

  pub filter_steps : (a n : ℕ) → e ≡ a + n → AreSteps p e a (filter p (range_with_len a n))
  filter_steps a zero h = empty_gap p a e (omega arith)
  filter_steps a (suc n) h = elim (cases_Bool (p a)) [
    | inl passes ↦ (let rest = filter_steps (suc a) n (omega arith) in rw (passes, add-one) (empty_gap p a a refl, omega arith, rest))
    | inr fails ↦ (let rest = filter_steps (suc a) n (omega arith) in rw (fails, add-one) (later_steps a _ fails rest))
  ]

  first_step : (a : ℕ) (xs : List ℕ) → AreSteps p e a xs → IsGap p a (get_or xs 0 e)
  first_step a [] h = h
  first_step a (x ∷ xs) h = h.0

  step_within : (a s : ℕ) (xs : List ℕ) → AreSteps p e a xs → s < length xs → get_or xs s e < e
  step_within a s [] h l = absurd (omega arith)
  step_within a zero (x ∷ xs) h l = h.1
  step_within a (suc s) (x ∷ xs) h l = step_within (suc x) s xs h.2 (omega arith)

  next_step : (a s : ℕ) (xs : List ℕ) → AreSteps p e a xs → s < length xs → IsGap p (suc (get_or xs s e)) (get_or xs (suc s) e)
  next_step a s [] h l = absurd (omega arith)
  next_step a zero (x ∷ xs) h l = first_step (suc x) xs h.2
  next_step a (suc s) (x ∷ xs) h l = next_step (suc x) s xs h.2 (omega arith)

-- ---- the columns at which a row is not 0

pub zero_if : (q : Rational) → is_nonzero q ≡ false → q ≡ zero_ℚ
zero_if q h = zero_of_num q ((Decides-int_eq q.num (pos 0)).0 (not-false (int_eq q.num (pos 0)) h))

pub test_nonzero : (q : Rational) (b : Bool) → IsTrue b ↔ (q ≡ zero_ℚ) → is_nonzero q ≡ not b
test_nonzero q b h = ap not (same_from_decides (int_eq q.num (pos 0)) b (Decides-int_eq q.num (pos 0)) (λ e. num_of_zero q (h.0 e), λ e. h.1 (zero_of_num q e)))

module _ (d : ℕ → Rational) (n : ℕ) (xs : List ℕ) (e : xs ≡ nonzero_columns d n) where
  columns_step : AreSteps (λ j. is_nonzero (d j)) n 0 xs
  columns_step = rw e (filter_steps (λ j. is_nonzero (d j)) n 0 n (omega arith))

  -- each column is below n
  pub columns_within : All (λ j. j < n) xs
  columns_within s x l = rw (get_or_default xs s x n l) (step_within (λ j. is_nonzero (d j)) n 0 s xs columns_step l)

  -- before the first column, or the end, there are only zeros
  pub first_column : IsGap (λ j. is_nonzero (d j)) 0 (get_or xs 0 n)
  first_column = first_step (λ j. is_nonzero (d j)) n 0 xs columns_step

  -- and between a column and the next, or the end
  pub next_column : (s : ℕ) → s < length xs → IsGap (λ j. is_nonzero (d j)) (suc (get_or xs s n)) (get_or xs (suc s) n)
  next_column s l = next_step (λ j. is_nonzero (d j)) n 0 s xs columns_step l
