-- Choices among rows by numbers that agree at the rows and keys that are looked at.
use Rattle.std.proofs.Common.{◌≡◌, ℕ, zero, suc, ◌+◌, ◌<◌, ◌≤◌, List, [], ◌∷◌, length, slice_index, Bool, true, false, cond, not, Option, arith, ap, ap₂, ◌∙◌, refl}
use Rattle.std.specs.Bool.{⊤}
use Rattle.std.specs.List.{range_with_len, filter, list_all}
use Rattle.npp_frac.specs.Rational.{Rational, is_less}
use Rattle.npp_simplex.specs.declared.place.Place.{Place}
use Rattle.npp_simplex.specs.Ratio.{least_rows, refined}
use Rattle.npp_simplex.specs.Places.{first_row}
use Rattle.npp_simplex.proofs.FirstPlaces.{first_below_same}

abbrev pub Each : (ℕ → Type 0) → List ℕ → Type 0
Each P [] = ⊤
Each P (x ∷ xs) = P x × Each P xs

pub each_range : (P : ℕ → Type 0) (a n : ℕ) → ((k : ℕ) → a ≤ k → k < a + n → P k) → Each P (range_with_len a n)
each_range P a zero h = tt
each_range P a (suc n) h = (h a (omega arith) (omega arith), each_range P (a + 1) n (λ k l m. h k (omega arith) (omega arith)))

each_kept : (P : ℕ → Type 0) (b : Bool) (x : ℕ) (xs : List ℕ) → P x → Each P xs → Each P (cond b (x ∷ xs) xs)
each_kept P true x xs h k = (h, k)
each_kept P false x xs h k = k

pub each_filter : (P : ℕ → Type 0) (p : ℕ → Bool) (xs : List ℕ) → Each P xs → Each P (filter p xs)
each_filter P p [] h = tt
each_filter P p (x ∷ xs) h = each_kept P (p x) x (filter p xs) h.0 (each_filter P p xs h.1)

each_at : (P : ℕ → Type 0) (xs : List ℕ) (k : ℕ) → Each P xs → k < length xs → P (slice_index xs k)
each_at P [] k h l = absurd (omega arith)
each_at P (x ∷ xs) zero h l = h.0
each_at P (x ∷ xs) (suc k) h l = each_at P xs k h.1 (omega arith)

module _ (P : ℕ → Type 0) where
  pub filter_agrees : (p q : ℕ → Bool) (xs : List ℕ) → Each P xs → ((i : ℕ) → P i → p i ≡ q i) → filter p xs ≡ filter q xs
  filter_agrees p q [] h e = refl
  filter_agrees p q (x ∷ xs) h e = ap₂ (λ b ys. cond b (x ∷ ys) ys) (e x h.0) (filter_agrees p q xs h.1 e)

  all_agree : (p q : ℕ → Bool) (xs : List ℕ) → Each P xs → ((i : ℕ) → P i → p i ≡ q i) → list_all p xs ≡ list_all q xs
  all_agree p q [] h e = refl
  all_agree p q (x ∷ xs) h e = rw (e x h.0, all_agree p q xs h.1 e) refl

  pub least_agree : (a b : ℕ → Rational) (rows : List ℕ) → Each P rows → ((i : ℕ) → P i → a i ≡ b i) → least_rows a rows ≡ least_rows b rows
  least_agree a b rows h e =
      filter_agrees (λ i. list_all (λ k. not (is_less (a k) (a i))) rows) (λ i. list_all (λ k. not (is_less (b k) (b i))) rows) rows h (λ i l.
      all_agree (λ k. not (is_less (a k) (a i))) (λ k. not (is_less (b k) (b i))) rows h (λ k m. ap₂ (λ x y. not (is_less x y)) (e k m) (e i l)))

  pub each_least : (a : ℕ → Rational) (rows : List ℕ) → Each P rows → Each P (least_rows a rows)
  each_least a rows h = each_filter P (λ i. list_all (λ k. not (is_less (a k) (a i))) rows) rows h

  pub first_row_agrees : (f g : ℕ → Option Place) (rows : List ℕ) → Each P rows → ((i : ℕ) → P i → f i ≡ g i) → first_row f rows ≡ first_row g rows
  first_row_agrees f g rows h e = first_below_same (λ k. f (slice_index rows k)) (λ k. g (slice_index rows k)) (length rows) (λ k l. e (slice_index rows k) (each_at P rows k h l))

  pub refined_agrees : (K : ℕ → Type 0) (f g : ℕ → ℕ → Rational) (ks rows : List ℕ) → Each K ks → Each P rows → ((k i : ℕ) → K k → P i → f k i ≡ g k i) → refined f ks rows ≡ refined g ks rows
  refined_agrees K f g ks [] hk h e = refl
  refined_agrees K f g ks (i ∷ []) hk h e = refl
  refined_agrees K f g [] (i ∷ j ∷ rows) hk h e = refl
  refined_agrees K f g (k ∷ ks) (i ∷ j ∷ rows) hk h e =
      ap (refined f ks) (least_agree (f k) (g k) (i ∷ j ∷ rows) h (λ x l. e k x hk.0 l))
      ∙ refined_agrees K f g ks (least_rows (g k) (i ∷ j ∷ rows)) hk.1 (each_least (g k) (i ∷ j ∷ rows) h) e
