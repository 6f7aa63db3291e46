-- The relaxation has no ray: the caps bound each toll, and a commodity pays no more on a toll arc than the toll.
use Rattle.std.proofs.Common.{◌≡◌, ◌==◌, ◌&&◌, ℕ, zero, suc, ◌+◌, ◌<◌, Bool, true, false, List, ◌++◌, length, map, get_or, All, pos, refl, ap, ◌∙◌, subst, arith}
use Rattle.std.specs.List.{range_with_len, flat_map}
use Rattle.std.proofs.lemmas.List.{length-append, length-map, get_or-map, get_or_append_left, get_or-append-add, get_or_default}
use Rattle.std.proofs.lemmas.List.FromFn.{length-range_with_len, get_or-range_with_len}
use Rattle.std.proofs.lemmas.List.Elements.{All-append, All-map, All-contains}
use Rattle.npp_frac.specs.Rational.{Rational, zero_ℚ, one_ℚ, whole, negative, ◌*ℚ◌, ◌≤ℚ◌, ◌<ℚ◌}
use Rattle.npp_frac.specs.Ring.{one-*ℚ, zero-*ℚ, *ℚ-zero}
use Rattle.npp_frac.specs.Order.{≤ℚ_refl, ≤ℚ_antisymm, ≤ℚ_trans, <ℚ_irrefl}
use Rattle.npp_frac.specs.Sums.{sum_to_same, sum_to_zero}
use Rattle.npp_lp.specs.Programs.{at, terms_at, goal_at, IsPoint, IsRay}
use Rattle.npp_rows.specs.declared.names.RowName.{RowName}
use Rattle.npp_rows.specs.declared.names.RowName.TheVariants.{Cap, Below, Use, Link, One, OneLow, Cut}
use Rattle.npp_rows.specs.declared.names.ColumnName.{ColumnName}
use Rattle.npp_rows.specs.declared.names.ColumnName.TheVariants.{Toll, Share, Paid}
use Rattle.npp_rows.specs.PathModel.{PathModel, tolls, commodities, cap_at}
use Rattle.npp_rows.specs.Parts.{part_at}
use Rattle.npp_rows.specs.Named.{one_if, numbered, terms_from}
use Rattle.npp_rows.specs.Cuts.{Cut as CutRow}
use Rattle.npp_rows.specs.Rows.{IsPaidOn}
use Rattle.npp_rows.specs.Relax.{relaxation, relaxation_rows, relaxation_columns, relaxation_entry, relaxation_right, paid_goal, cap_entry, below_entry, follow_rows, on_allowed_tolls, allowed_tolls}
use Rattle.npp_rows.proofs.RowLaws.{same_test}
use Rattle.npp_rows.proofs.RelaxationLaws.{all_range, all_flat}
use Rattle.npp_leaf.proofs.PartLaws.{NoneBelow, part_within}

-- ---- what holds along a list

all_first : {X : Type 0} (P : X → Type 0) (xs ys : List X) → All P (xs ++ ys) → All P xs
all_first P xs ys h = λ i d l. subst P (get_or_append_left xs ys d i l) (h i d (omega (arith, length-append xs ys, l)))

all_last : {X : Type 0} (P : X → Type 0) (xs ys : List X) → All P (xs ++ ys) → All P ys
all_last P xs ys h = λ i d l. subst P (get_or-append-add xs ys i d) (h (length xs + i) d (omega (arith, length-append xs ys, l)))

all_mapped : {X Y : Type 0} (P : Y → Type 0) (f : X → Y) (xs : List X) → All P (map f xs) → All (λ x. P (f x)) xs
all_mapped P f xs h = λ i d l. subst P (get_or-map f xs i d (f d) l) (h i (f d) (omega (arith, l, length-map xs f)))

all_of_range : (P : ℕ → Type 0) (n i : ℕ) → All P (range_with_len 0 n) → i < n → P i
all_of_range P n i h l =
    let e : 0 + i ≡ i = omega arith in
    subst P (get_or-range_with_len 0 n i 0 l ∙ e) (h i 0 (omega (arith, l, length-range_with_len 0 n)))

all_of_piece : {X : Type 0} (P : X → Type 0) (f : ℕ → List X) (a n k : ℕ) → All P (flat_map f (range_with_len a n)) → k < n → All P (f (a + k))
all_of_piece P f a zero k h l = absurd (omega (arith, l))
all_of_piece P f a (suc n) zero h l = let e : a + 0 ≡ a = omega arith in rw e (all_first P (f a) (flat_map f (range_with_len (a + 1) n)) h)
all_of_piece P f a (suc n) (suc k) h l =
    let e : a + 1 + k ≡ a + suc k = omega arith in
    rw e at (all_of_piece P f (a + 1) n k (all_last P (f a) (flat_map f (range_with_len (a + 1) n)) h) (omega (arith, l)))

-- ---- signs

one_if_times : (b : Bool) (q : Rational) → zero_ℚ ≤ℚ q → zero_ℚ ≤ℚ (one_if b *ℚ q)
one_if_times true q h = rw (one-*ℚ q) h
one_if_times false q h = rw (zero-*ℚ q) (≤ℚ_refl zero_ℚ)

none_times : (q r : Rational) → r ≡ zero_ℚ → zero_ℚ ≤ℚ (q *ℚ r)
none_times q r e = rw (e, *ℚ-zero q) (≤ℚ_refl zero_ℚ)

-- ---- the rows and columns of a relaxation

module _ (m : PathModel) (parts : List (List ℕ)) where
  -- a column that there is
  abbrev pub IsInside : ColumnName → Type 0
  IsInside (Toll a) = a < length m.caps
  IsInside (Share k p) = Unit {0}
  IsInside (Paid a k) = IsPaidOn m parts a k

  pub columns_inside : All IsInside (relaxation_columns m parts)
  columns_inside =
      All-append IsInside _ _
      (All-append IsInside _ _
      (All-map IsInside Toll (tolls m) (all_range (λ a. a < length m.caps) (length m.caps) (λ a l. l)))
      (all_flat IsInside (λ k. map (Share k) (part_at parts k)) (commodities m) (all_range (λ k. All IsInside (map (Share k) (part_at parts k))) (length m.covers) (λ k u. All-map IsInside (Share k) (part_at parts k) (λ j d l. tt)))))
      (all_flat IsInside (λ k. map (λ a. Paid a k) (allowed_tolls m parts k)) (commodities m) (all_range (λ k. All IsInside (map (λ a. Paid a k) (allowed_tolls m parts k))) (length m.covers) (λ k u.
      All-map IsInside (λ a. Paid a k) (allowed_tolls m parts k) (λ j d l.
      record { commodity = u; used = (j, l, get_or_default (allowed_tolls m parts k) j (get_or (allowed_tolls m parts k) j d) d l) }))))

  -- what holds of each row holds of a cap, and of what is paid on a toll
  module _ (P : RowName → Type 0) (n : ℕ) (h : All P (relaxation_rows m parts n)) where
    to_belows : All P ((map Cap (tolls m) ++ flat_map (follow_rows m) (commodities m)) ++ on_allowed_tolls m parts Below)
    to_belows = all_first P _ (on_allowed_tolls m parts Use) (all_first P _ (on_allowed_tolls m parts Link) (all_first P _ (map One (commodities m)) (all_first P _ (map OneLow (commodities m)) (all_first P _ (map Cut (range_with_len 0 n)) h))))

    pub of_cap : (a : ℕ) → a < length m.caps → P (Cap a)
    of_cap a l =
        let caps = all_first P (map Cap (tolls m)) (flat_map (follow_rows m) (commodities m)) (all_first P (map Cap (tolls m) ++ flat_map (follow_rows m) (commodities m)) (on_allowed_tolls m parts Below) to_belows) in
        all_of_range (λ a. P (Cap a)) (length m.caps) a (all_mapped P Cap (tolls m) caps) l

    pub of_below : (a k : ℕ) → IsPaidOn m parts a k → P (Below a k)
    of_below a k on =
        let belows = all_last P (map Cap (tolls m) ++ flat_map (follow_rows m) (commodities m)) (on_allowed_tolls m parts Below) to_belows in
        let e : 0 + k ≡ k = omega arith in
        let piece = all_of_piece P (λ k. map (λ a. Below a k) (allowed_tolls m parts k)) 0 (length m.covers) k belows on.commodity in
        let own : All P (map (λ a. Below a k) (allowed_tolls m parts k)) = rw e at piece in
        All-contains (λ a. P (Below a k)) (allowed_tolls m parts k) a (all_mapped P (λ a. Below a k) (allowed_tolls m parts k) own) on.used

-- ---- a vector that is not negative, at the rows of a relaxation

module _ (m : PathModel) (parts : List (List ℕ)) (x : List Rational) (low : (j : ℕ) → j < length (relaxation_columns m parts) → zero_ℚ ≤ℚ at x j) where
  column : ℕ → ColumnName
  column j = get_or (relaxation_columns m parts) j (Toll 0)

  cap_sign : (a : ℕ) (c : ColumnName) (q : Rational) → zero_ℚ ≤ℚ q → zero_ℚ ≤ℚ (cap_entry a c *ℚ q)
  cap_sign a (Toll b) q h = one_if_times (a == b) q h
  cap_sign a (Share k p) q h = rw (zero-*ℚ q) (≤ℚ_refl zero_ℚ)
  cap_sign a (Paid b k) q h = rw (zero-*ℚ q) (≤ℚ_refl zero_ℚ)

  -- a toll is no more than its row allows
  pub toll_within : (j a : ℕ) → j < length (relaxation_columns m parts) → get_or (relaxation_columns m parts) j (Toll 0) ≡ Toll a → at x j ≤ℚ terms_at (terms_from 0 (cap_entry a) (relaxation_columns m parts)) x
  toll_within j a l is =
      let z : 0 + j ≡ j = omega arith in
      let none : NoneBelow (cap_entry a) x 0 (relaxation_columns m parts) = λ i u. let e : 0 + i ≡ i = omega arith in rw e (cap_sign a (get_or (relaxation_columns m parts) i (Toll 0)) (at x i) (low i u)) in
      let part = part_within (cap_entry a) x 0 (relaxation_columns m parts) none j l in
      let one : cap_entry a (Toll a) ≡ one_ℚ = (let e = same_test a in rw e refl) in
      rw (z, is, one, one-*ℚ (at x j)) at part

-- ---- a ray would raise what is paid

module _ (m : PathModel) (parts : List (List ℕ)) (cuts : List CutRow) (d : List Rational) (ray : IsRay (numbered (relaxation m parts cuts)) d) where
  low : (j : ℕ) → j < length (relaxation_columns m parts) → zero_ℚ ≤ℚ at d j
  low j l = ray.not_negative j zero_ℚ (omega (arith, l, ray.size))

  kept : All (λ r. terms_at (terms_from 0 (relaxation_entry m cuts r) (relaxation_columns m parts)) d ≤ℚ zero_ℚ) (relaxation_rows m parts (length cuts))
  kept = all_mapped (λ r. terms_at r.terms d ≤ℚ zero_ℚ) (λ r. record { terms = terms_from 0 (relaxation_entry m cuts r) (relaxation_columns m parts); right = relaxation_right m cuts r }) (relaxation_rows m parts (length cuts)) ray.rows

  inside : (j : ℕ) (c : ColumnName) → j < length (relaxation_columns m parts) → get_or (relaxation_columns m parts) j (Toll 0) ≡ c → IsInside m parts c
  inside j c l is = subst (IsInside m parts) is (columns_inside m parts j (Toll 0) l)

  toll_still : (j a : ℕ) → j < length (relaxation_columns m parts) → get_or (relaxation_columns m parts) j (Toll 0) ≡ Toll a → at d j ≡ zero_ℚ
  toll_still j a l is =
      ≤ℚ_antisymm
      (≤ℚ_trans (toll_within m parts d low j a l is) (of_cap m parts (λ r. terms_at (terms_from 0 (relaxation_entry m cuts r) (relaxation_columns m parts)) d ≤ℚ zero_ℚ) (length cuts) kept a (inside j (Toll a) l is)))
      (low j l)

  below_sign : (a k : ℕ) (c : ColumnName) (q : Rational) → zero_ℚ ≤ℚ q → ((b : ℕ) → c ≡ Toll b → q ≡ zero_ℚ) → zero_ℚ ≤ℚ (below_entry a k c *ℚ q)
  below_sign a k (Toll b) q h still = none_times (negative (one_if (a == b))) q (still b refl)
  below_sign a k (Share l p) q h still = rw (zero-*ℚ q) (≤ℚ_refl zero_ℚ)
  below_sign a k (Paid b l) q h still = one_if_times ((a == b) && (k == l)) q h

  paid_still : (j a k : ℕ) → j < length (relaxation_columns m parts) → get_or (relaxation_columns m parts) j (Toll 0) ≡ Paid a k → at d j ≡ zero_ℚ
  paid_still j a k l is =
      let z : 0 + j ≡ j = omega arith in
      let none : NoneBelow (below_entry a k) d 0 (relaxation_columns m parts) = λ i u.
      let e : 0 + i ≡ i = omega arith in rw e (below_sign a k (get_or (relaxation_columns m parts) i (Toll 0)) (at d i) (low i u) (λ b same. toll_still i b u same)) in
      let part = part_within (below_entry a k) d 0 (relaxation_columns m parts) none j l in
      let one : below_entry a k (Paid a k) ≡ one_ℚ = (let e = same_test a in let f = same_test k in rw (e, f) refl) in
      let here : at d j ≤ℚ terms_at (terms_from 0 (below_entry a k) (relaxation_columns m parts)) d = rw (z, is, one, one-*ℚ (at d j)) at part in
      ≤ℚ_antisymm
      (≤ℚ_trans here (of_below m parts (λ r. terms_at (terms_from 0 (relaxation_entry m cuts r) (relaxation_columns m parts)) d ≤ℚ zero_ℚ) (length cuts) kept a k (inside j (Paid a k) l is)))
      (low j l)

  goal_part : (c : ColumnName) (q : Rational) → ((a k : ℕ) → c ≡ Paid a k → q ≡ zero_ℚ) → paid_goal m c *ℚ q ≡ zero_ℚ
  goal_part (Toll b) q still = zero-*ℚ q
  goal_part (Share l p) q still = zero-*ℚ q
  goal_part (Paid b l) q still = ap (λ z. paid_goal m (Paid b l) *ℚ z) (still b l refl) ∙ *ℚ-zero (paid_goal m (Paid b l))

  nothing : goal_at (numbered (relaxation m parts cuts)) d ≡ zero_ℚ
  nothing =
      sum_to_same (length (relaxation_columns m parts)) (λ j. at (map (paid_goal m) (relaxation_columns m parts)) j *ℚ at d j) (λ j. zero_ℚ)
      (λ j l. ap (λ z. z *ℚ at d j) (get_or-map (paid_goal m) (relaxation_columns m parts) j (Toll 0) zero_ℚ l) ∙ goal_part (get_or (relaxation_columns m parts) j (Toll 0)) (at d j) (λ a k is. paid_still j a k l is))
      ∙ sum_to_zero (length (relaxation_columns m parts))

  pub no_ray : ⊥
  no_ray = <ℚ_irrefl {q = zero_ℚ} (subst (λ (q : Rational). zero_ℚ <ℚ q) nothing ray.goal)

-- ---- the tolls of a point

-- no toll of a point of the relaxation is above its cap
module _ (m : PathModel) (parts : List (List ℕ)) (cuts : List CutRow) (x : List Rational) (point : IsPoint (numbered (relaxation m parts cuts)) x) where
  point_low : (j : ℕ) → j < length (relaxation_columns m parts) → zero_ℚ ≤ℚ at x j
  point_low j l = point.not_negative j zero_ℚ (omega (arith, l, point.size))

  point_kept : All (λ r. terms_at (terms_from 0 (relaxation_entry m cuts r) (relaxation_columns m parts)) x ≤ℚ relaxation_right m cuts r) (relaxation_rows m parts (length cuts))
  point_kept = all_mapped (λ r. terms_at r.terms x ≤ℚ r.right) (λ r. record { terms = terms_from 0 (relaxation_entry m cuts r) (relaxation_columns m parts); right = relaxation_right m cuts r }) (relaxation_rows m parts (length cuts)) point.rows

  pub toll_capped : (a : ℕ) → a < length (relaxation_columns m parts) → get_or (relaxation_columns m parts) a (Toll 0) ≡ Toll a → (zero_ℚ ≤ℚ at x a) × (at x a ≤ℚ whole (pos (cap_at m a)))
  toll_capped a l is = (
    point_low a l,
    ≤ℚ_trans (toll_within m parts x point_low a a l is)
        (of_cap m parts (λ r. terms_at (terms_from 0 (relaxation_entry m cuts r) (relaxation_columns m parts)) x ≤ℚ relaxation_right m cuts r) (length cuts) point_kept a (subst (IsInside m parts) is (columns_inside m parts a (Toll 0) l))),
  )
