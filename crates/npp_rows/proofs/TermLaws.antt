-- The terms of a row, block by block.
use Rattle.std.proofs.Common.{◌≡◌, ◌≢◌, inl, inr, ℕ, zero, suc, ◌+◌, ◌<◌, pos, true, List, [], ◌∷◌, ◌++◌, length, map, take, get_or, refl, sym, ap, ap₂, ◌∙◌, arith, eq-or-lt_of_le, le_of_suc-le-suc}
use Rattle.std.specs.List.{AllPairs, range_with_len, flat_map}
use Rattle.std.proofs.lemmas.Bool.Decides.{Decides-int_eq}
use Rattle.std.proofs.lemmas.List.{append_assoc, append-nil, length-append, length-map, length-take, map-append, take_more}
use Rattle.std.proofs.lemmas.List.FromFn.{length-range_with_len}
use Rattle.std.proofs.lemmas.Grind.{flat_map-append}
use Rattle.npp_frac.specs.Rational.{Rational, zero_ℚ}
use Rattle.npp_frac.specs.Sign.{num_of_zero}
use Rattle.npp_cover.specs.Replaces.{sum_below}
use Rattle.npp_rows.specs.declared.names.ColumnName.{ColumnName}
use Rattle.npp_rows.specs.declared.names.ColumnName.TheVariants.{Toll, Share, Paid}
use Rattle.npp_rows.specs.PathModel.{PathModel, tolls}
use Rattle.npp_rows.specs.Parts.{part_at}
use Rattle.npp_frac.specs.Sign.{is_zero}
use Rattle.npp_lp.specs.Building.{term_at}
use Rattle.npp_rows.specs.Named.{terms_from}
use Rattle.npp_rows.specs.Relax.{allowed_tolls, shares, on_allowed_tolls, relaxation_columns}
use Rattle.npp_rows.specs.Family.{share_count, paid_count}
use Rattle.npp_rows.proofs.ListLaws.{range_push}
use Rattle.npp_rows.proofs.StartLaws.{sum_below_same}

pub zero_test : (q : Rational) → q ≡ zero_ℚ → is_zero q ≡ true
zero_test q e = (Decides-int_eq q.num (pos 0)).1 (num_of_zero q e)

-- a number that is 0 has no term
pub no_term_at : (n : ℕ) (q : Rational) → q ≡ zero_ℚ → term_at n q ≡ []
no_term_at n q e = let t = zero_test q e in rw t refl

-- the sizes of the pieces before one are its place
pub flat_size : {X : Type 0} (g : ℕ → List X) (n : ℕ) → length (flat_map g (range_with_len 0 n)) ≡ sum_below (λ l. length (g l)) n
flat_size g zero = refl
flat_size g (suc n) =
    let s : suc n ≡ n + 1 = omega arith in
    let pieces : flat_map g (range_with_len 0 (suc n)) ≡ flat_map g (range_with_len 0 n) ++ (g n ++ []) =
    ap (λ j. flat_map g (range_with_len 0 j)) s ∙ ap (flat_map g) (range_push 0 n n (omega arith)) ∙ flat_map-append g (range_with_len 0 n) (n ∷ []) in
    omega (arith, ap length pieces, length-append (flat_map g (range_with_len 0 n)) (g n ++ []), length-append (g n) [], flat_size g n)

module _ (e : ColumnName → Rational) where
  pub terms_append : (n : ℕ) (xs ys : List ColumnName) → terms_from n e (xs ++ ys) ≡ terms_from n e xs ++ terms_from (n + length xs) e ys
  terms_append n [] ys = ap (λ j. terms_from j e ys) (omega arith)
  terms_append n (x ∷ xs) ys =
      ap (λ t. term_at n (e x) ++ t) (terms_append (n + 1) xs ys)
      ∙ sym (append_assoc (term_at n (e x)) (terms_from (n + 1) e xs) (terms_from (n + 1 + length xs) e ys))
      ∙ ap (λ j. (term_at n (e x) ++ terms_from (n + 1) e xs) ++ terms_from j e ys) (omega arith)

  -- a block with zeros alone
  pub terms_none : (f : ℕ → ColumnName) (n : ℕ) (xs : List ℕ) → ((x : ℕ) → e (f x) ≡ zero_ℚ) → terms_from n e (map f xs) ≡ []
  terms_none f n [] h = refl
  terms_none f n (x ∷ xs) h = ap₂ ◌++◌ (no_term_at n (e (f x)) (h x)) (terms_none f (n + 1) xs h)

  -- the next column of a block
  pub terms_next : (f : ℕ → ColumnName) (n : ℕ) (xs : List ℕ) (i d : ℕ) → i < length xs
      → terms_from n e (map f (take (i + 1) xs)) ≡ terms_from n e (map f (take i xs)) ++ term_at (n + i) (e (f (get_or xs i d)))
  terms_next f n xs i d h =
      let size : length (map f (take i xs)) ≡ i = rw (length-map, length-take) (omega arith) in
      ap (λ ys. terms_from n e (map f ys)) (take_more xs i d h)
      ∙ ap (terms_from n e) (map-append f (take i xs) (get_or xs i d ∷ []))
      ∙ terms_append n (map f (take i xs)) (f (get_or xs i d) ∷ [])
      ∙ ap (λ j. terms_from n e (map f (take i xs)) ++ terms_from (n + j) e (f (get_or xs i d) ∷ [])) size
      ∙ ap (λ t. terms_from n e (map f (take i xs)) ++ t) (append-nil (term_at (n + i) (e (f (get_or xs i d)))))

  -- a block of rising numbers with one column that is not 0
  module _ (f : ℕ → ColumnName) (a : ℕ) (others : (b : ℕ) → b ≢ a → e (f b) ≡ zero_ℚ) where
    above_none : (n : ℕ) (xs : List ℕ) → ((k d : ℕ) → k < length xs → a < get_or xs k d) → terms_from n e (map f xs) ≡ []
    above_none n [] h = refl
    above_none n (x ∷ xs) h =
        let more : a < x = h 0 x (omega arith) in
        ap₂ ◌++◌ (no_term_at n (e (f x)) (others x (λ q. omega (arith, q)))) (above_none (n + 1) xs (λ k d l. h (suc k) d (omega (arith, l))))

    pub terms_one : (n i : ℕ) (xs : List ℕ) → AllPairs (λ p q. p < q) xs → i < length xs → get_or xs i a ≡ a → terms_from n e (map f xs) ≡ term_at (n + i) (e (f a))
    terms_one n i [] rising l is = absurd (omega (arith, l))
    terms_one n zero (x ∷ xs) rising l is =
        let rest = above_none (n + 1) xs (λ k d u. let r : x < get_or xs k d = rising 0 (suc k) d (omega arith) (omega (arith, u)) in omega (arith, r, is)) in
        ap₂ ◌++◌ (ap (λ b. term_at n (e (f b))) is) rest ∙ append-nil (term_at n (e (f a))) ∙ ap (λ j. term_at j (e (f a))) (omega arith)
    terms_one n (suc i) (x ∷ xs) rising l is =
        let before : x < get_or xs i a = rising 0 (suc i) a (omega arith) l in
        ap₂ ◌++◌ (no_term_at n (e (f x)) (others x (λ q. omega (arith, q, before, is)))) (terms_one (n + 1) i xs (λ j k d u w. rising (suc j) (suc k) d (omega (arith, u)) (omega (arith, w))) (omega (arith, l)) is)
        ∙ ap (λ j. term_at j (e (f a))) (omega arith)

  -- of pieces of which one has terms
  module _ (g : ℕ → List ColumnName) where
    pub pieces_push : (n : ℕ) → flat_map g (range_with_len 0 (suc n)) ≡ flat_map g (range_with_len 0 n) ++ g n
    pieces_push n =
        let s : suc n ≡ n + 1 = omega arith in
        ap (λ j. flat_map g (range_with_len 0 j)) s ∙ ap (flat_map g) (range_push 0 n n (omega arith)) ∙ flat_map-append g (range_with_len 0 n) (n ∷ [])
        ∙ ap (λ t. flat_map g (range_with_len 0 n) ++ t) (append-nil (g n))

    pub flat_none : (n size : ℕ) → ((l j : ℕ) → l < size → terms_from j e (g l) ≡ []) → terms_from n e (flat_map g (range_with_len 0 size)) ≡ []
    flat_none n zero h = refl
    flat_none n (suc size) h =
        ap (terms_from n e) (pieces_push size) ∙ terms_append n (flat_map g (range_with_len 0 size)) (g size)
        ∙ ap₂ ◌++◌ (flat_none n size (λ l j u. h l j (omega arith))) (h size (n + length (flat_map g (range_with_len 0 size))) (omega arith))

    pub flat_one : (n size k : ℕ) → k < size → ((l j : ℕ) → l ≢ k → terms_from j e (g l) ≡ [])
        → terms_from n e (flat_map g (range_with_len 0 size)) ≡ terms_from (n + sum_below (λ l. length (g l)) k) e (g k)
    flat_one n zero k l h = absurd (omega (arith, l))
    flat_one n (suc size) k l h =
        ap (terms_from n e) (pieces_push size) ∙ terms_append n (flat_map g (range_with_len 0 size)) (g size)
        ∙ elim (eq-or-lt_of_le (le_of_suc-le-suc l)) [
          | inl same ↦
              ap₂ ◌++◌ (flat_none n size (λ j i u. h j i (λ q. omega (arith, u, q, same)))) refl
              ∙ ap₂ (λ j i. terms_from (n + j) e (g i)) (flat_size g size ∙ ap (sum_below (λ l. length (g l))) (sym same)) (sym same)
          | inr below ↦
              ap₂ ◌++◌ (flat_one n size k below h) (h size (n + length (flat_map g (range_with_len 0 size))) (λ q. omega (arith, below, q)))
              ∙ append-nil (terms_from (n + sum_below (λ l. length (g l)) k) e (g k))
        ]

  -- a row of one commodity: the tolls, its shares, and what it pays
  module _ (m : PathModel) (parts : List (List ℕ)) (k : ℕ) where
    pub row_of_one : k < length m.covers → ((l p : ℕ) → l ≢ k → e (Share l p) ≡ zero_ℚ) → ((b l : ℕ) → l ≢ k → e (Paid b l) ≡ zero_ℚ)
        → terms_from 0 e (relaxation_columns m parts) ≡
        (terms_from 0 e (map Toll (tolls m))
        ++ terms_from (length m.caps + sum_below (share_count parts) k) e (map (Share k) (part_at parts k)))
        ++ terms_from (length m.caps + sum_below (share_count parts) (length m.covers) + sum_below (paid_count m parts) k) e (map (λ a. Paid a k) (allowed_tolls m parts k))
    row_of_one u other_share other_paid =
        let toll_size : length (map Toll (tolls m)) ≡ length m.caps = rw length-map (length-range_with_len 0 (length m.caps)) in
        let share_sizes : (n : ℕ) → sum_below (λ l. length (map (Share l) (part_at parts l))) n ≡ sum_below (share_count parts) n =
        λ n. sum_below_same (λ l. length (map (Share l) (part_at parts l))) (share_count parts) n (λ l w. rw length-map refl) in
        let paid_sizes : sum_below (λ l. length (map (λ a. Paid a l) (allowed_tolls m parts l))) k ≡ sum_below (paid_count m parts) k =
        sum_below_same (λ l. length (map (λ a. Paid a l) (allowed_tolls m parts l))) (paid_count m parts) k (λ l w. rw length-map refl) in
        let share_size : length (shares m parts) ≡ sum_below (share_count parts) (length m.covers) = flat_size (λ l. map (Share l) (part_at parts l)) (length m.covers) ∙ share_sizes (length m.covers) in
        let share_block : terms_from (length m.caps) e (shares m parts) ≡ terms_from (length m.caps + sum_below (share_count parts) k) e (map (Share k) (part_at parts k)) =
        flat_one (λ l. map (Share l) (part_at parts l)) (length m.caps) (length m.covers) k u (λ l j ne. terms_none (Share l) j (part_at parts l) (λ p. other_share l p ne))
        ∙ ap (λ j. terms_from (length m.caps + j) e (map (Share k) (part_at parts k))) (share_sizes k) in
        let paid_start : ℕ = length m.caps + sum_below (share_count parts) (length m.covers) in
        let paid_block : terms_from (length m.caps + sum_below (share_count parts) (length m.covers)) e (on_allowed_tolls m parts Paid)
        ≡ terms_from (length m.caps + sum_below (share_count parts) (length m.covers) + sum_below (paid_count m parts) k) e (map (λ a. Paid a k) (allowed_tolls m parts k)) =
        flat_one (λ l. map (λ a. Paid a l) (allowed_tolls m parts l)) (length m.caps + sum_below (share_count parts) (length m.covers)) (length m.covers) k u
        (λ l j ne. terms_none (λ a. Paid a l) j (allowed_tolls m parts l) (λ b. other_paid b l ne))
        ∙ ap (λ j. terms_from (length m.caps + sum_below (share_count parts) (length m.covers) + j) e (map (λ a. Paid a k) (allowed_tolls m parts k))) paid_sizes in
        terms_append 0 (map Toll (tolls m) ++ shares m parts) (on_allowed_tolls m parts Paid)
        ∙ ap₂ ◌++◌
        (terms_append 0 (map Toll (tolls m)) (shares m parts)
        ∙ ap (λ t. terms_from 0 e (map Toll (tolls m)) ++ t) (ap (λ j. terms_from j e (shares m parts)) (omega (arith, toll_size)) ∙ share_block))
        (ap (λ j. terms_from j e (on_allowed_tolls m parts Paid)) (omega (arith, length-append (map Toll (tolls m)) (shares m parts), toll_size, share_size)) ∙ paid_block)

    -- a row over the tolls alone
    pub row_of_tolls : ((l p : ℕ) → e (Share l p) ≡ zero_ℚ) → ((b l : ℕ) → e (Paid b l) ≡ zero_ℚ)
        → terms_from 0 e (relaxation_columns m parts) ≡ terms_from 0 e (map Toll (tolls m))
    row_of_tolls no_share no_paid =
        terms_append 0 (map Toll (tolls m) ++ shares m parts) (on_allowed_tolls m parts Paid)
        ∙ ap₂ ◌++◌
        (terms_append 0 (map Toll (tolls m)) (shares m parts)
        ∙ ap (λ t. terms_from 0 e (map Toll (tolls m)) ++ t)
        (flat_none (λ l. map (Share l) (part_at parts l)) _ (length m.covers) (λ l j w. terms_none (Share l) j (part_at parts l) (λ p. no_share l p)))
        ∙ append-nil (terms_from 0 e (map Toll (tolls m))))
        (flat_none (λ l. map (λ a. Paid a l) (allowed_tolls m parts l)) _ (length m.covers) (λ l j w. terms_none (λ a. Paid a l) j (allowed_tolls m parts l) (λ b. no_paid b l)))
        ∙ append-nil (terms_from 0 e (map Toll (tolls m)))
