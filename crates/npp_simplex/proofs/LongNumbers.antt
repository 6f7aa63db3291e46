-- A long whole number from its quotient by 2^62 and the rest.
use Rattle.std.specs.Prelude.{int_div, int_rem}
use Rattle.std.proofs.Common.{◌≡◌, ℕ, ◌<◌, ◌^◌, ℤ, pos, ◌+ℤ◌, ◌*ℤ◌, nat_abs, true, w64, FitsSigned, to_z, of_z, to_z-of_z, arith, ap, ap₂, sym, ◌∙◌}
use Rattle.std.specs.Int.{w128}
use Rattle.std.proofs.lemmas.Int.{ints, rem_below, quot-rem, quot_fits, fits_signed_from_abs}
use Rattle.npp_frac.specs.Rational.{whole, Is-same, Is-whole, Is-ratio, ◌*ℚ◌}
use Rattle.npp_frac.specs.Ring.{whole-*ℤ}
use Rattle.npp_frac.specs.Fits.{fits_add, fits_mul}
use Rattle.npp_frac.specs.AnyForm.{HasForm, fits_mul-form, fits_add-forms}

whole_form : (x : ℤ) → HasForm (whole x) x 1
whole_form x = record { above = omega arith; value = Is-same (Is-whole x) (Is-ratio x 1 (omega arith)) (omega arith) }

module _ (m : ℕ) (a b : ℤ) (above : 1 < m) where
  pub whole_product_fits : nat_abs (a *ℤ b) < m → true ≡ fits_mul m (whole a) (whole b)
  whole_product_fits small =
      let form : HasForm (whole a *ℚ whole b) (a *ℤ b) 1 = record { above = omega arith; value = sym (whole-*ℤ a b) ∙ (whole_form (a *ℤ b)).value } in
      fits_mul-form m (whole a) (whole b) (a *ℤ b) 1 form small above

  pub whole_sum_fits : nat_abs a < m → nat_abs b < m → nat_abs (a +ℤ b) < m → true ≡ fits_add m (whole a) (whole b)
  whole_sum_fits first second both = fits_add-forms m (whole a) (whole b) a b 1 (whole_form a) (whole_form b) above first second both

module _ (n : ℤ) (fits : FitsSigned w128 n) where
  own : to_z w128 (of_z w128 n) ≡ n
  own = to_z-of_z fits

  rest_small : nat_abs (int_rem n (pos (2 ^ 62))) < 2 ^ 62
  rest_small = rem_below n (pos (2 ^ 62)) (omega arith)

  quotient_word : to_z w128 (of_z w128 (int_div (to_z w128 (of_z w128 n)) (pos (2 ^ 62)))) ≡ int_div n (pos (2 ^ 62))
  quotient_word =
      let narrow : FitsSigned w128 (int_div n (pos (2 ^ 62))) = quot_fits w128 n (pos (2 ^ 62)) fits (omega (arith, ints)) in
      ap (λ t. to_z w128 (of_z w128 (int_div t (pos (2 ^ 62))))) own ∙ to_z-of_z narrow

  rest_word : to_z w64 (of_z w64 (to_z w128 (of_z w128 (int_rem (to_z w128 (of_z w128 n)) (pos (2 ^ 62)))))) ≡ int_rem n (pos (2 ^ 62))
  rest_word =
      let small = rest_small in
      let long : FitsSigned w128 (int_rem n (pos (2 ^ 62))) = fits_signed_from_abs w128 (int_rem n (pos (2 ^ 62))) (omega arith) in
      let short : FitsSigned w64 (int_rem n (pos (2 ^ 62))) = fits_signed_from_abs w64 (int_rem n (pos (2 ^ 62))) (omega arith) in
      ap (λ t. to_z w64 (of_z w64 (to_z w128 (of_z w128 (int_rem t (pos (2 ^ 62))))))) own ∙ ap (λ t. to_z w64 (of_z w64 t)) (to_z-of_z long) ∙ to_z-of_z short

  -- a long word from its parts as they are computed
  pub parts_are : (to_z w128 (of_z w128 (int_div (to_z w128 (of_z w128 n)) (pos (2 ^ 62)))) *ℤ pos (2 ^ 62)) +ℤ to_z w64 (of_z w64 (to_z w128 (of_z w128 (int_rem (to_z w128 (of_z w128 n)) (pos (2 ^ 62)))))) ≡ n
  parts_are = ap₂ (λ q r. (q *ℤ pos (2 ^ 62)) +ℤ r) quotient_word rest_word ∙ quot-rem n (pos (2 ^ 62))
