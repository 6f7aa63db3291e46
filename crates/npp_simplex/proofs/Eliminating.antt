-- A row that loses a multiple of another one, at each column in turn where the other one is not 0.
use Rattle.std.proofs.Common.{◌≡◌, ℕ, ◌+◌, ◌<◌, ◌≤◌, List, map, length, set, get_or, Bool, true, false, Some, arith, ap, sym, ◌∙◌, refl, inl, inr, suc, add-one}
use Rattle.std.proofs.lemmas.Bool.{cases_lt}
use Rattle.std.proofs.Math.ListN.{get_or-eq_default}
use Rattle.npp_frac.specs.Rational.{Rational, ◌-ℚ◌, ◌*ℚ◌}
use Rattle.npp_frac.specs.Fits.{IsWidth, FitsBelow, limit_of}
use Rattle.npp_lp.specs.Programs.{at}
use Rattle.npp_lp.specs.Verdict.{first_below}
use Rattle.npp_lp.specs.VerdictLaws.{first_below_none, first_below_clear}
use Rattle.npp_simplex.specs.Places.{column_unless, fits_less_product}
use Rattle.npp_simplex.specs.Steps.{is_nonzero, nonzero_columns}
use Rattle.npp_frac.specs.ZeroLaws.{less_product-zero}
use Rattle.npp_simplex.proofs.Zeros.{fits_less_product-zero}
use Rattle.npp_simplex.proofs.Rows.{IsReplacedUpTo, replaced_more, stopped_at}
use Rattle.npp_simplex.proofs.Grids.{at_fits}
use Rattle.npp_simplex.proofs.Nonzero.{IsGap, zero_if, columns_within, first_column, next_column}

-- what the row becomes at a column, and whether it fits
abbrev pub less_multiple : {N : Type 0} → (N → Rational) → List N → Rational → (ℕ → Rational) → ℕ → Rational
less_multiple v first q d k = at (map v first) k -ℚ q *ℚ d k

abbrev pub fits_multiple : {N : Type 0} → (N → Rational) → ℕ → List N → Rational → (ℕ → Rational) → ℕ → Bool
fits_multiple v m first q d k = fits_less_product m (at (map v first) k) q (d k)

-- the first column that does not fit
pub stops : {N : Type 0} (v : N → Rational) (m : ℕ) (first : List N) (q : Rational) (d : ℕ → Rational) (now : List N) (j k : ℕ) → IsReplacedUpTo v first now (less_multiple v first q d) (fits_multiple v m first q d) k → j ≡ k → j < length first → fits_multiple v m first q d j ≡ false
    → Some j ≡ first_below (length first) (λ i. column_unless (fits_multiple v m first q d i) i)
stops v m first q d now j k h is l fails =
    sym (rw is (stopped_at v (length first) first now (less_multiple v first q d) (fits_multiple v m first q d) k h (rw (sym is) l) (rw (sym is) fails)))

module _ {N : Type 0} (v : N → Rational) (u : ℕ) (wide : IsWidth u) (fits : (x : N) → FitsBelow (limit_of u) (v x)) (first : List N) (q : Rational) (d : ℕ → Rational) where
  stays : (i : ℕ) → is_nonzero (d i) ≡ false → at (map v first) i ≡ less_multiple v first q d i
  stays i h = less_product-zero (at (map v first) i) q (d i) (zero_if (d i) h)

  fits_there : (i : ℕ) → i < length first → is_nonzero (d i) ≡ false → true ≡ fits_multiple v (limit_of u) first q d i
  fits_there i l h = fits_less_product-zero u (at (map v first) i) q (d i) wide (at_fits v (limit_of u) fits first i l) (zero_if (d i) h)

  -- zeros of the other row are passed over
  past_zeros : (now : List N) (j k : ℕ) → IsReplacedUpTo v first now (less_multiple v first q d) (fits_multiple v (limit_of u) first q d) j → IsGap (λ j. is_nonzero (d j)) j k → k ≤ length first → IsReplacedUpTo v first now (less_multiple v first q d) (fits_multiple v (limit_of u) first q d) k
  past_zeros now j k h gap le = record {
    done = λ i l. elim (cases_lt i j) [
      | inl before ↦ h.done i before
      | inr after ↦ h.rest i after ∙ stays i (gap.none i after l)
    ];
    rest = λ i l. h.rest i (let order = gap.order in omega arith);
    stop = first_below_clear (λ i. column_unless (fits_multiple v (limit_of u) first q d i) i) k (λ i l. elim (cases_lt i j) [
      | inl before ↦ first_below_none (λ i. column_unless (fits_multiple v (limit_of u) first q d i) i) j i h.stop before
      | inr after ↦ ap (λ b. column_unless b i) (sym (fits_there i (omega arith) (gap.none i after l)))
    ]);
  }

  module _ (xs : List ℕ) (e : xs ≡ nonzero_columns d (length first)) where
    end_within : (s : ℕ) → get_or xs s (length first) ≤ length first
    end_within s = elim (cases_lt s (length xs)) [
      | inl less ↦ (let h : get_or xs s (length first) < length first = columns_within d (length first) xs e s (length first) less in omega arith)
      | inr more ↦ (let h = get_or-eq_default xs (length first) more in omega arith)
    ]

    pub begins : IsReplacedUpTo v first first (less_multiple v first q d) (fits_multiple v (limit_of u) first q d) (get_or xs 0 (length first))
    begins = past_zeros first 0 (get_or xs 0 (length first)) (record { done = λ k l. absurd (omega arith); rest = λ k l. refl; stop = refl }) (first_column d (length first) xs e) (end_within 0)

    pub goes_on : (now : List N) (s j : ℕ) (x : N) → IsReplacedUpTo v first now (less_multiple v first q d) (fits_multiple v (limit_of u) first q d) (get_or xs s (length first)) → s < length xs → length now ≡ length first → j ≡ get_or xs s (length first)
        → v x ≡ less_multiple v first q d j → fits_multiple v (limit_of u) first q d j ≡ true → IsReplacedUpTo v first (set now j x) (less_multiple v first q d) (fits_multiple v (limit_of u) first q d) (get_or xs (s + 1) (length first))
    goes_on now s j x h l size is exact holds =
        let k = get_or xs s (length first) in
        let less : k < length first = columns_within d (length first) xs e s (length first) l in
        let more : IsReplacedUpTo v first (set now k x) (less_multiple v first q d) (fits_multiple v (limit_of u) first q d) (k + 1) =
        replaced_more v first now (less_multiple v first q d) (fits_multiple v (limit_of u) first q d) k x h (omega arith) (exact ∙ ap (less_multiple v first q d) is) (sym (ap (fits_multiple v (limit_of u) first q d) is) ∙ holds) in
        rw (is, add-one) (past_zeros (set now k x) (k + 1) (get_or xs (suc s) (length first)) more (rw add-one (next_column d (length first) xs e s l)) (end_within (suc s)))
