-- The greatest gap of a toll, and sums over tolls that are lowered to it or kept.
use Rattle.std.specs.Prelude.{◌≡◌, ◌⊎◌, ℕ, zero, suc, ◌+◌, ◌*◌, ◌<◌, ◌≤◌, max, List, [], ◌∷◌, ◌++◌, length, map, flat_map, fold, slice_index_or, refl}
use Rattle.std.specs.Int.{bit_at}
use Rattle.std.proofs.Common.{arith, sym, ap, ap₂, inl, inr, eq-or-lt_of_le, le_of_suc-le-suc}
use Rattle.std.proofs.lemmas.Nat.Bits.{bit_at-zero, bit_at-lt}
use Rattle.npp_cover.specs.Paths.{PathValue}
use Rattle.npp_cover.specs.Replaces.{CoverValue, sum_below, path_at, no_path}
use Rattle.npp_rows.specs.Caps.{toll_gap}

-- ---- the greatest gap

above_start : (xs : List ℕ) (a : ℕ) → a ≤ fold max a xs
above_start [] a = omega arith
above_start (x ∷ xs) a = omega (arith, above_start xs (max a x))

above_each : (xs : List ℕ) (a i d : ℕ) → i < length xs → slice_index_or xs i d ≤ fold max a xs
above_each [] a i d h = absurd (omega (arith, h))
above_each (x ∷ xs) a zero d h = omega (arith, above_start xs (max a x))
above_each (x ∷ xs) a (suc i) d h = above_each xs (max a x) i d (omega (arith, h))

pub fold_more : (xs ys : List ℕ) (a : ℕ) → fold max a (xs ++ ys) ≡ fold max (fold max a xs) ys
fold_more [] ys a = refl
fold_more (x ∷ xs) ys a = fold_more xs ys (max a x)

map_at : (f : PathValue → ℕ) (ps : List PathValue) (q d : ℕ) (p : PathValue) → q < length ps → slice_index_or (map f ps) q d ≡ f (slice_index_or ps q p)
map_at f [] q d p h = absurd (omega (arith, h))
map_at f (x ∷ ps) zero d p h = refl
map_at f (x ∷ ps) (suc q) d p h = map_at f ps q d p (omega (arith, h))

map_size : (f : PathValue → ℕ) (ps : List PathValue) → length (map f ps) ≡ length ps
map_size f [] = refl
map_size f (x ∷ ps) = omega (arith, map_size f ps)

-- the gap of each path is at most the greatest
pub gap_from : (covers : List CoverValue) (start a k q : ℕ) (d : CoverValue) → k < length covers → q < length (slice_index_or covers k d).paths
    → toll_gap a (slice_index_or covers k d).free (path_at (slice_index_or covers k d).paths q) ≤ fold max start (flat_map (λ c. map (toll_gap a c.free) c.paths) covers)
gap_from [] start a k q d h l = absurd (omega (arith, h))
gap_from (c ∷ cs) start a zero q d h l =
    let here : slice_index_or (map (toll_gap a c.free) c.paths) q 0 ≡ toll_gap a c.free (path_at c.paths q) = map_at (toll_gap a c.free) c.paths q 0 no_path l in
    let size : q < length (map (toll_gap a c.free) c.paths) = rw (map_size (toll_gap a c.free) c.paths) l in
    rw (fold_more (map (toll_gap a c.free) c.paths) (flat_map (λ c. map (toll_gap a c.free) c.paths) cs) start)
    (omega (arith, rw here at (above_each (map (toll_gap a c.free) c.paths) start q 0 size), above_start (flat_map (λ c. map (toll_gap a c.free) c.paths) cs) (fold max start (map (toll_gap a c.free) c.paths))))
gap_from (c ∷ cs) start a (suc k) q d h l =
    rw (fold_more (map (toll_gap a c.free) c.paths) (flat_map (λ c. map (toll_gap a c.free) c.paths) cs) start)
    (gap_from cs (fold max start (map (toll_gap a c.free) c.paths)) a k q d (omega (arith, h)) l)

-- ---- sums over a set of tolls

by_bit : (bit x y : ℕ) → bit < 2 → (bit ≡ 1 → x ≡ y) → bit * x ≡ bit * y
by_bit zero x y l e = omega arith
by_bit (suc zero) x y l e = ap (λ z. 1 * z) (e refl)
by_bit (suc (suc bit)) x y l e = absurd (omega (arith, l))

one_or_other : (bit : ℕ) → bit < 2 → (bit ≡ 1) ⊎ (bit ≡ 0)
one_or_other zero l = inr refl
one_or_other (suc zero) l = inl refl
one_or_other (suc (suc bit)) l = absurd (omega (arith, l))

-- where each toll of the set is the same under both, so is the sum
pub same_sum : (s : ℕ) (f g : ℕ → ℕ) (n : ℕ) → ((a : ℕ) → a < n → bit_at s a ≡ 1 → f a ≡ g a) → sum_below (λ a. bit_at s a * f a) n ≡ sum_below (λ a. bit_at s a * g a) n
same_sum s f g zero h = refl
same_sum s f g (suc n) h =
    ap₂ ◌+◌ (same_sum s f g n (λ a l b. h a (omega (arith, l)) b)) (by_bit (bit_at s n) (f n) (g n) (bit_at-lt s n) (λ b. h n (omega arith) b))

-- ---- tolls that are lowered to the greatest gap or not at all

-- the toll is kept, or is at least the gap
abbrev pub IsKeptOrGap : (f g gap : ℕ → ℕ) → ℕ → ℕ → Type 0
IsKeptOrGap f g gap d a = (g a ≡ f a) ⊎ (gap a * d ≤ g a)

module _ (f g gap : ℕ → ℕ) (d n : ℕ) (less : (a : ℕ) → a < n → g a ≤ f a) (kept : (a : ℕ) → a < n → IsKeptOrGap f g gap d a) where
  -- each toll of a set is kept, or one is at least its gap
  pub all_or_one : (s i : ℕ) → i ≤ n → ((a : ℕ) → a < i → bit_at s a ≡ 1 → f a ≡ g a) ⊎ ((a : ℕ) × (a < n) × (bit_at s a ≡ 1) × (gap a * d ≤ g a))
  all_or_one s zero h = inl (λ a l b. absurd (omega (arith, l)))
  all_or_one s (suc i) h = elim (all_or_one s i (omega (arith, h))) [
    | inr one ↦ inr one
    | inl all ↦ elim (kept i (omega (arith, h))) [
      | inl same ↦ inl (λ a l b. elim (eq-or-lt_of_le (le_of_suc-le-suc l)) [
        | inl e ↦ rw e (sym same)
        | inr u ↦ all a u b
      ])
      | inr above ↦ elim (one_or_other (bit_at s i) (bit_at-lt s i)) [
        | inl on ↦ inr (i, omega (arith, h), on, above)
        | inr off ↦ inl (λ a l b. elim (eq-or-lt_of_le (le_of_suc-le-suc l)) [
          | inl e ↦ let here : bit_at s i ≡ 1 = rw e at b in absurd (omega (arith, here, off))
          | inr u ↦ all a u b
        ])
      ]
    ]
  ]

pub no_toll : (f : ℕ → ℕ) (n : ℕ) → sum_below (λ a. bit_at 0 a * f a) n ≡ 0
no_toll f zero = refl
no_toll f (suc n) = omega (arith, no_toll f n, ap (λ z. z * f n) (bit_at-zero n))

pub toll_in_sum : (s : ℕ) (f : ℕ → ℕ) (n a : ℕ) → a < n → bit_at s a ≡ 1 → f a ≤ sum_below (λ a. bit_at s a * f a) n
toll_in_sum s f zero a h b = absurd (omega (arith, h))
toll_in_sum s f (suc n) a h b = elim (eq-or-lt_of_le (le_of_suc-le-suc h)) [
  | inl same ↦ let here : bit_at s n ≡ 1 = rw same at b in omega (arith, ap (λ z. z * f n) here, ap f same)
  | inr l ↦ omega (arith, toll_in_sum s f n a l b)
]

-- ---- one commodity
