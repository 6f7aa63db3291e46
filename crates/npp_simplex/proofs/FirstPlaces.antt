-- The first place that is there, the column that rises, and rows of which none is positive.
use Rattle.std.proofs.Common.{◌≡◌, ◌⊎◌, ℕ, zero, suc, ◌+◌, ◌<◌, List, [], ◌∷◌, Bool, true, false, cond, Option, Some, None, arith, ap, sym, ◌∙◌, refl, inl, inr}
use Rattle.std.specs.List.{range_with_len, filter}
use Rattle.npp_frac.specs.Rational.{zero_ℚ, is_less, ◌≤ℚ◌, ◌<ℚ◌}
use Rattle.npp_frac.specs.Order.{is_less_yes, is_less_no}
use Rattle.npp_lp.specs.Verdict.{or_else, first_below}
use Rattle.npp_lp.specs.VerdictLaws.{first_below_none, cond_none}
use Rattle.npp_simplex.specs.Tableau.{Tableau, cell}
use Rattle.npp_simplex.specs.Ratio.{rising_at, rising_column, positive_rows}

pub first_below_same : {F : Type 0} (f g : ℕ → Option F) (n : ℕ) → ((j : ℕ) → j < n → f j ≡ g j) → first_below n f ≡ first_below n g
first_below_same f g zero h = refl
first_below_same f g (suc n) h = rw (first_below_same f g n (λ j l. h j (omega arith)), h n (omega arith)) refl

either : {F : Type 0} (o next : Option F) (x : F) → or_else o next ≡ Some x → (o ≡ Some x) ⊎ (next ≡ Some x)
either None next x e = inr e
either (Some y) next x e = inl e

-- what is found stands at some place
pub first_found : {F : Type 0} (f : ℕ → Option F) (n : ℕ) (x : F) → first_below n f ≡ Some x → (i : ℕ) × (i < n) × (f i ≡ Some x)
first_found f zero x e = cc
first_found f (suc n) x e = elim (either (first_below n f) (f n) x e) [
  | inl before ↦ let found : (i : ℕ) × (i < n) × (f i ≡ Some x) = first_found f n x before in (found.0, omega (arith, found.1), found.2)
  | inr here ↦ (n, omega arith, here)
]

-- a place that is given where a test holds
pub some_if : (b : Bool) (j c : ℕ) → cond b (Some j) None ≡ Some c → (b ≡ true) × (j ≡ c)
some_if true j c e = (refl, cc)
some_if false j c e = cc

dropped : (b : Bool) (x : ℕ) (xs : List ℕ) → cond b (x ∷ xs) xs ≡ [] → (b ≡ false) × (xs ≡ [])
dropped true x xs e = cc
dropped false x xs e = (refl, e)

none_kept : (p : ℕ → Bool) (a c k : ℕ) → filter p (range_with_len a c) ≡ [] → k < c → p (a + k) ≡ false
none_kept p a zero k e l = absurd (omega arith)
none_kept p a (suc c) zero e l = ap p (omega arith) ∙ (dropped (p a) a (filter p (range_with_len (a + 1) c)) e).0
none_kept p a (suc c) (suc k) e l = ap p (omega arith) ∙ none_kept p (a + 1) c k (dropped (p a) a (filter p (range_with_len (a + 1) c)) e).1 (omega arith)

module _ (t : Tableau) (m n : ℕ) (rows : t.rows ≡ m) (columns : t.columns ≡ n) where
  -- where no column rises, no reduced cost is above 0
  pub none_rises : (goal : ℕ) → rising_column t goal ≡ None → (j : ℕ) → j < n + m → cell t goal j ≤ℚ zero_ℚ
  none_rises goal none j l =
      is_less_no zero_ℚ (cell t goal j) (cond_none (is_less zero_ℚ (cell t goal j)) j (first_below_none (rising_at t goal) (t.columns + t.rows) j none (omega (arith, rows, columns))))

  -- the reduced cost of the column that rises is
  pub one_rises : (goal c : ℕ) → rising_column t goal ≡ Some c → (c < n + m) × (zero_ℚ <ℚ cell t goal c)
  one_rises goal c e =
      let found : (j : ℕ) × (j < t.columns + t.rows) × (rising_at t goal j ≡ Some c) = first_found (rising_at t goal) (t.columns + t.rows) c e in
      let here : (is_less zero_ℚ (cell t goal found.0) ≡ true) × (found.0 ≡ c) = some_if (is_less zero_ℚ (cell t goal found.0)) found.0 c found.2 in
      (omega (arith, found.1, here.1, rows, columns), is_less_yes zero_ℚ (cell t goal c) (ap (λ j. is_less zero_ℚ (cell t goal j)) (sym here.1) ∙ here.0))

  -- where no row has a positive entry in a column, none there is above 0
  pub none_positive : (c : ℕ) → positive_rows t c ≡ [] → (i : ℕ) → i < m → cell t i c ≤ℚ zero_ℚ
  none_positive c none i l =
      is_less_no zero_ℚ (cell t i c) (ap (λ k. is_less zero_ℚ (cell t k c)) (omega arith) ∙ none_kept (λ i. is_less zero_ℚ (cell t i c)) 0 t.rows i none (omega (arith, rows)))
