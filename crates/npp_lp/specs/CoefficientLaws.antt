-- The coefficient of a row in a column, by a search in its entries.
use Rattle.std.proofs.Common.{◌≡◌, ◌≢◌, ℕ, zero, suc, ◌<◌, List, [], ◌∷◌, length, get_or, refl, sym, ◌∙◌, ap, ap₂, arith, inl, inr, eq-or-lt_of_le, Less, Equal, Greater}
use Rattle.std.proofs.lemmas.Bool.{cases_lt}
use Rattle.std.specs.Prelude.{All}
use Rattle.std.specs.List.{AllPairs, HoldsAt}
use Rattle.std.specs.List.Sorted.{IsPartitionPoint, IsNonDecreasingBy}
use Rattle.std.specs.Ordering.{nat_cmp, ordering_index}
use Rattle.std.proofs.lemmas.Cmp.{ranked}
use Rattle.std.proofs.lemmas.List.Elements.{All-head, All-tail}
use Rattle.std.proofs.lemmas.Bool.Decides.{nat_tests}
use Rattle.npp_frac.specs.Rational.{Rational, zero_ℚ, ◌+ℚ◌}
use Rattle.npp_frac.specs.Ring.{zero-+ℚ, +ℚ-zero}
use Rattle.npp_frac.specs.Sums.{sum_by, unit, unit_other, unit_same}
use Rattle.npp_lp.specs.declared.program.Entry.{Entry}
use Rattle.npp_lp.specs.Duals.{coefficient}
use Rattle.npp_lp.specs.Meaning.{terms_of}

-- the columns rise
abbrev pub Rise : {N : Type 0} → List (Entry N) → Type 0
Rise es = AllPairs (λ s t. s.column < t.column) es

rise_tail : {N : Type 0} → (e : Entry N) (es : List (Entry N)) → Rise (e ∷ es) → Rise es
rise_tail e es h i j d l k = h (suc i) (suc j) d (omega arith) (omega arith)

above_head : {N : Type 0} → (e : Entry N) (es : List (Entry N)) → Rise (e ∷ es) → All (λ t. e.column < t.column) es
above_head e es h k d l = h 0 (suc k) d (omega arith) (omega arith)

module _ {N : Type 0} (value : N → Rational) where
  pub coefficient_absent : (es : List (Entry N)) (j : ℕ) → All (λ e. e.column ≢ j) es → coefficient (terms_of value es) j ≡ zero_ℚ
  unfolding sum_by
  coefficient_absent [] j h = refl
  coefficient_absent (e ∷ es) j h =
      ap₂ ◌+ℚ◌ (unit_other e.column j (value e.value) (All-head (λ s. s.column ≢ j) e es h)) (coefficient_absent es j (All-tail (λ s. s.column ≢ j) e es h))
      ∙ zero-+ℚ zero_ℚ

  pub coefficient_present : (es : List (Entry N)) (k j : ℕ) (d : Entry N) → Rise es → k < length es → (get_or es k d).column ≡ j → coefficient (terms_of value es) j ≡ value (get_or es k d).value
  unfolding sum_by
  coefficient_present [] k j d h l e = absurd (omega arith)
  coefficient_present (x ∷ es) zero j d h l e =
      ap₂ ◌+ℚ◌ (ap (unit x.column (value x.value)) (sym e) ∙ unit_same x.column (value x.value))
      (coefficient_absent es j (λ k f m same. omega (arith, above_head x es h k f m, e, same)))
      ∙ +ℚ-zero (value x.value)
  coefficient_present (x ∷ es) (suc k) j d h l e =
      ap₂ ◌+ℚ◌ (unit_other x.column j (value x.value) (λ same. omega (arith, above_head x es h k d (omega arith), e, same)))
      (coefficient_present es k j d (rise_tail x es h) (omega arith) e)
      ∙ zero-+ℚ (value (get_or es k d).value)

module _ {N : Type 0} (es : List (Entry N)) (rise : Rise es) (j : ℕ) where
  comparisons_rise : IsNonDecreasingBy (λ e. ordering_index (nat_cmp e.column j)) es
  comparisons_rise a b d le within = elim (eq-or-lt_of_le le) [
    | inl same ↦ rw same (omega arith)
    | inr lt ↦ let up : (get_or es a d).column < (get_or es b d).column = rise a b d lt within in grind (arith, nat_tests)
  ]

  -- where the search ends at a place, the entry there is of the column
  pub found_column : (place : ℕ) → HoldsAt (λ e. nat_cmp e.column j ≡ Equal) es place → (d : Entry N) → (get_or es place d).column ≡ j
  found_column place equal d = ranked _ j _ (sym (equal d))

  -- where it ends at a gap, no entry is
  pub missed_column : (gap : ℕ) → (IsNonDecreasingBy (λ e. ordering_index (nat_cmp e.column j)) es → IsPartitionPoint (λ e. nat_cmp e.column j ≡ Less) (λ e. nat_cmp e.column j ≡ Greater) es gap) → All (λ e. e.column ≢ j) es
  missed_column gap parted k d within same =
      let parts = parted comparisons_rise in
      elim (cases_lt k gap) [
        | inl below ↦ let less : (get_or es k d).column < j = ranked _ j _ (sym (parts.0 k d (omega arith) below)) in omega (arith, less, same)
        | inr above ↦ let more : j < (get_or es k d).column = ranked _ j _ (sym (parts.1 k d above within)) in omega (arith, more, same)
      ]
