-- Lists of the columns and rows that pass a test.
use Rattle.std.proofs.Common.{◌≡◌, ℕ, zero, suc, ◌+◌, ◌<◌, ◌≤◌, List, [], ◌∷◌, ◌++◌, length, take, set, Bool, true, false, cond, Some, None, arith, ap, ap₂, sym, ◌∙◌, refl, add-one}
use Rattle.std.specs.List.{range_with_len, filter}
use Rattle.std.proofs.lemmas.List.{append-nil}
use Rattle.std.proofs.lemmas.List.Elements.{filter-append}
use Rattle.std.proofs.lemmas.Grind.{take-set_at}
use Rattle.npp_frac.specs.Rational.{zero_ℚ, is_less}
use Rattle.npp_simplex.specs.Tableau.{Tableau, cell}
use Rattle.npp_simplex.specs.Ratio.{rising_at}

pub range_more : (a n : ℕ) → range_with_len a (n + 1) ≡ range_with_len a n ++ (a + n) ∷ []
range_more a zero = ap (λ t. t ∷ []) (omega arith)
range_more a (suc n) = rw (add-one, add-one) (ap (λ t. a ∷ t) (rw add-one at (range_more (suc a) n) ∙ ap (λ t. range_with_len (suc a) n ++ t ∷ []) (omega arith)))

pub range_upto : (n : ℕ) → range_with_len 0 (n + 1) ≡ range_with_len 0 n ++ n ∷ []
range_upto n = range_more 0 n ∙ ap (λ t. range_with_len 0 n ++ t ∷ []) (omega arith)

pub taken_more : (xs : List ℕ) (i : ℕ) → i < length xs → take i xs ≡ range_with_len 0 i → take (i + 1) (set xs i i) ≡ range_with_len 0 (i + 1)
taken_more xs i l e = take-set_at xs i (i + 1) i refl l ∙ ap (λ t. t ++ i ∷ []) e ∙ sym (range_upto i)

pub filter_yes : (p : ℕ → Bool) (i : ℕ) → p i ≡ true → filter p (range_with_len 0 (i + 1)) ≡ filter p (range_with_len 0 i) ++ i ∷ []
filter_yes p i e = rw (range_upto i, filter-append p (range_with_len 0 i) (i ∷ [])) (ap (λ b. filter p (range_with_len 0 i) ++ cond b (i ∷ []) []) e)

pub filter_no : (p : ℕ → Bool) (i : ℕ) → p i ≡ false → filter p (range_with_len 0 (i + 1)) ≡ filter p (range_with_len 0 i)
filter_no p i e = rw (range_upto i, filter-append p (range_with_len 0 i) (i ∷ [])) (ap (λ b. filter p (range_with_len 0 i) ++ cond b (i ∷ []) []) e ∙ append-nil (filter p (range_with_len 0 i)))

pub kept_yes : (p : ℕ → Bool) (xs ys : List ℕ) (k l i : ℕ) → k ≤ i → i < length xs → take k xs ≡ filter p (range_with_len 0 i) → p i ≡ true → ys ≡ set xs k i → l ≡ k + 1 → take l ys ≡ filter p (range_with_len 0 (i + 1))
kept_yes p xs ys k l i le lt e holds is more =
    ap (take l) is ∙ take-set_at xs k l i more (omega arith) ∙ ap (λ t. t ++ i ∷ []) e ∙ sym (filter_yes p i holds)

pub kept_no : (p : ℕ → Bool) (xs ys : List ℕ) (k l i : ℕ) → take k xs ≡ filter p (range_with_len 0 i) → p i ≡ false → ys ≡ xs → l ≡ k → take l ys ≡ filter p (range_with_len 0 (i + 1))
kept_no p xs ys k l i e fails is same = ap₂ take same is ∙ e ∙ sym (filter_no p i fails)

pub rises : (t : Tableau) (goal j : ℕ) → is_less zero_ℚ (cell t goal j) ≡ true → rising_at t goal j ≡ Some j
rises t goal j e = ap (λ b. cond b (Some j) None) e

pub stays : (t : Tableau) (goal j : ℕ) → is_less zero_ℚ (cell t goal j) ≡ false → rising_at t goal j ≡ None
stays t goal j e = ap (λ b. cond b (Some j) None) e
