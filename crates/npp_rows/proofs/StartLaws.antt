-- Sums of the first sizes of a list of pieces.
use Rattle.std.proofs.Common.{◌≡◌, ℕ, zero, suc, ◌+◌, ◌<◌, ◌≤◌, List, [], ◌∷◌, ◌++◌, length, map, get_or, sum_by, refl, sym, ap, ◌∙◌, arith, inl, inr, eq-or-lt_of_le, le_of_suc-le-suc}
use Rattle.std.specs.List.{range_with_len}
use Rattle.std.proofs.lemmas.List.FromFn.{map-range_with_len_more, get_or-map-range_with_len, length-map-range_with_len}
use Rattle.std.proofs.lemmas.List.Sums.{sum_by-cons}
use Rattle.npp_cover.specs.Replaces.{sum_below}
use Rattle.npp_rows.specs.Starts.{starts_of}

pub sum_push : (f : ℕ → ℕ) (n : ℕ) → sum_below f (n + 1) ≡ sum_below f n + f n
sum_push f n = let e : n + 1 ≡ suc n = omega arith in rw e refl

pub starts_push : (f : ℕ → ℕ) (n j total : ℕ) (xs : List ℕ) → n ≡ j → xs ≡ map (sum_below f) (range_with_len 0 n) → total ≡ sum_below f n
    → xs ++ total ∷ [] ≡ map (sum_below f) (range_with_len 0 (j + 1))
starts_push f n j total xs same e t = rw (map-range_with_len_more (sum_below f) 0 j j (omega arith), e, t, same) refl

pub sum_below_rises : (f : ℕ → ℕ) (i n : ℕ) → i ≤ n → sum_below f i ≤ sum_below f n
sum_below_rises f i zero h = let e : i ≡ 0 = omega arith in rw e (omega arith)
sum_below_rises f i (suc n) h = elim (eq-or-lt_of_le h) [
  | inl e ↦ rw e (omega arith)
  | inr l ↦ omega (arith, sum_below_rises f i n (le_of_suc-le-suc l))
]

-- a piece ends within the whole
pub piece_within : (f : ℕ → ℕ) (i n : ℕ) → i < n → sum_below f i + f i ≤ sum_below f n
piece_within f i n h = omega (arith, sum_below_rises f (suc i) n (omega arith))

sum_first : (f : ℕ → ℕ) (n : ℕ) → sum_below f (suc n) ≡ f 0 + sum_below (λ k. f (suc k)) n
sum_first f zero = omega arith
sum_first f (suc n) = omega (arith, sum_first f n)

-- the sum over a list, by its places
pub sum_by_places : {X : Type 0} (g : X → ℕ) (d : X) (xs : List X) → sum_by g xs ≡ sum_below (λ k. g (get_or xs k d)) (length xs)
sum_by_places g d [] = refl
sum_by_places g d (x ∷ xs) = sum_by-cons g x xs ∙ ap (λ (t : ℕ). g x + t) (sum_by_places g d xs) ∙ sym (sum_first (λ k. g (get_or (x ∷ xs) k d)) (length xs))

pub sum_below_same : (f g : ℕ → ℕ) (n : ℕ) → ((k : ℕ) → k < n → f k ≡ g k) → sum_below f n ≡ sum_below g n
sum_below_same f g zero h = refl
sum_below_same f g (suc n) h = omega (arith, sum_below_same f g n (λ k l. h k (omega arith)), h n (omega arith))

pub sum_below_mono : (f g : ℕ → ℕ) (n : ℕ) → ((k : ℕ) → k < n → f k ≤ g k) → sum_below f n ≤ sum_below g n
sum_below_mono f g zero h = omega arith
sum_below_mono f g (suc n) h = omega (arith, sum_below_mono f g n (λ k l. h k (omega arith)), h n (omega arith))

-- where a piece begins
pub start_at : (f : ℕ → ℕ) (n k d : ℕ) → k ≤ n → get_or (starts_of f n) k d ≡ sum_below f k
start_at f n k d h = get_or-map-range_with_len (sum_below f) 0 (n + 1) k k d (omega arith) (omega arith)

pub starts_size : (f : ℕ → ℕ) (n : ℕ) → length (starts_of f n) ≡ n + 1
starts_size f n = length-map-range_with_len (sum_below f) 0 (n + 1)

-- what is read among the starts
pub start_read : (f : ℕ → ℕ) (n k r : ℕ) (xs : List ℕ) → xs ≡ starts_of f n → k ≤ n → r ≡ get_or xs k r → r ≡ sum_below f k
start_read f n k r xs e h is = is ∙ ap (λ (l : List ℕ). get_or l k r) e ∙ start_at f n k r h
