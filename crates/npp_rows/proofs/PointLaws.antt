-- What a point of an inverse program keeps, and that the program has no ray.
use Rattle.std.proofs.Common.{◌≡◌, ◌==◌, ℕ, zero, suc, ◌+◌, ◌<◌, Bool, true, false, cond, pos, List, [], ◌∷◌, ◌++◌, length, map, Some, refl, sym, ap, ap₂, ◌∙◌, subst, arith, All}
use Rattle.std.specs.Prelude.{◌-ℤ◌}
use Rattle.std.specs.List.{range_with_len, flat_map}
use Rattle.std.proofs.lemmas.List.{length-append, length-map, get_or_append_left, get_or-append-add, get_or-map}
use Rattle.std.proofs.lemmas.List.FromFn.{length-map-range_with_len, get_or-range_with_len}
use Rattle.std.proofs.lemmas.Int.{ints}
use Rattle.npp_frac.specs.Rational.{Rational, zero_ℚ, whole, ◌+ℚ◌, ◌-ℚ◌, ◌*ℚ◌, ◌≤ℚ◌, ◌<ℚ◌, Is, Is-self, Is-le, le-Is, Is-equal, Is-whole, Is-sub, Is-add}
use Rattle.npp_frac.specs.Ring.{one-*ℚ, zero-*ℚ, *ℚ-zero, -ℚ-*ℚ}
use Rattle.npp_frac.specs.Order.{≤ℚ_antisymm, <ℚ_irrefl}
use Rattle.npp_frac.specs.Sums.{sum_by, sum_by-map, sum_by_same, sum_by--ℚ, sum_to_same, sum_to_zero}
use Rattle.npp_lp.specs.Programs.{at, terms_at, goal_at, IsPoint, IsRay}
use Rattle.npp_rows.specs.declared.names.RowName.{RowName}
use Rattle.npp_rows.specs.declared.names.RowName.TheVariants.{Cap, Follow}
use Rattle.npp_rows.specs.declared.names.ColumnName.{ColumnName}
use Rattle.npp_rows.specs.declared.names.ColumnName.TheVariants.{Toll, Share, Paid}
use Rattle.npp_rows.specs.PathModel.{PathModel, tolls, commodities, paths, path_count, path_cost, uses}
use Rattle.npp_rows.specs.Named.{one_if, numbered, terms_from}
use Rattle.npp_rows.specs.Parts.{chosen}
use Rattle.npp_rows.specs.Relax.{cap_entry, follow_rows}
use Rattle.npp_rows.specs.Inverse.{inverse, choice_rows, choice_entry, choice_right}
use Rattle.npp_rows.specs.Response.{path_toll, path_price}
use Rattle.npp_rows.proofs.NamedLaws.{row_value}
use Rattle.npp_rows.proofs.RowLaws.{sum_at, same_test, other_test}
use Rattle.npp_rows.proofs.PriceLaws.{path_toll_is}

-- ---- what holds along a list

all_first : {X : Type 0} (P : X → Type 0) (xs ys : List X) → All P (xs ++ ys) → All P xs
all_first P xs ys h = λ i d l. subst P (get_or_append_left xs ys d i l) (h i d (omega (arith, length-append xs ys, l)))

all_last : {X : Type 0} (P : X → Type 0) (xs ys : List X) → All P (xs ++ ys) → All P ys
all_last P xs ys h = λ i d l. subst P (get_or-append-add xs ys i d) (h (length xs + i) d (omega (arith, length-append xs ys, l)))

all_mapped : {X Y : Type 0} (P : Y → Type 0) (f : X → Y) (xs : List X) → All P (map f xs) → All (λ x. P (f x)) xs
all_mapped P f xs h = λ i d l. subst P (get_or-map f xs i d (f d) l) (h i (f d) (omega (arith, l, length-map xs f)))

all_of_range : (P : ℕ → Type 0) (n i : ℕ) → All P (range_with_len 0 n) → i < n → P i
all_of_range P n i h l =
    let e : 0 + i ≡ i = omega arith in
    subst P (get_or-range_with_len 0 n i 0 l ∙ e) (h i 0 (size n i l))
  where
    size : (n i : ℕ) → i < n → i < length (range_with_len 0 n)
    size n i l = omega (arith, l, simp length-map at (length-map-range_with_len (λ k. k) 0 n))

all_of_one : {X : Type 0} (P : X → Type 0) (f : ℕ → List X) (a n k : ℕ) → All P (flat_map f (range_with_len a n)) → k < n → All P (f (a + k))
all_of_one P f a zero k h l = absurd (omega (arith, l))
all_of_one P f a (suc n) zero h l = let e : a + 0 ≡ a = omega arith in rw e (all_first P (f a) (flat_map f (range_with_len (a + 1) n)) h)
all_of_one P f a (suc n) (suc k) h l =
    let e : a + 1 + k ≡ a + suc k = omega arith in
    rw e at (all_of_one P f (a + 1) n k (all_last P (f a) (flat_map f (range_with_len (a + 1) n)) h) (omega (arith, l)))

-- ---- rows at a vector of tolls

-- the number of each column
unfoldable pub number : List Rational → ColumnName → Rational
number x (Toll b) = at x b
number x (Share k p) = zero_ℚ
number x (Paid b k) = zero_ℚ

pub by_places : (f : ℕ → Rational) (a : ℕ) (x : List Rational) → ((i : ℕ) → i < length x → f (a + i) ≡ at x i) → map f (range_with_len a (length x)) ≡ x
by_places f a [] h = refl
by_places f a (y ∷ x) h =
    let e : a + 0 ≡ a = omega arith in
    let here : f a ≡ y = rw e at (h 0 (omega arith)) in
    let rest = by_places f (a + 1) x (λ i l. let e : a + 1 + i ≡ a + suc i = omega arith in rw e (h (suc i) (omega (arith, l)))) in
    rw (here, rest) refl

renamed : (x : List Rational) (tolls : List ℕ) → map (number x) (map Toll tolls) ≡ map (at x) tolls
unfolding number
renamed x [] = refl
renamed x (a ∷ rest) = ap (λ l. at x a ∷ l) (renamed x rest)

module _ (m : PathModel) (choice : List ℕ) (x : List Rational) (size : length x ≡ length m.caps) where
  pub numbers_are : map (number x) (map Toll (tolls m)) ≡ x
  numbers_are =
      renamed x (tolls m)
      ∙ ap (λ n. map (at x) (range_with_len 0 n)) (sym size)
      ∙ by_places (at x) 0 x (λ i l. let e : 0 + i ≡ i = omega arith in ap (at x) e)

  pub row_sum : (e : ColumnName → Rational) → terms_at (terms_from 0 e (map Toll (tolls m))) x ≡ sum_by (λ b. e (Toll b) *ℚ at x b) (tolls m)
  unfolding number
  row_sum e =
      ap (terms_at (terms_from 0 e (map Toll (tolls m)))) (sym numbers_are)
      ∙ row_value e (number x) (map Toll (tolls m))
      ∙ sum_by-map (λ c. e c *ℚ number x c) Toll (tolls m)

  -- each row of the choice is at most its bound
  unfoldable pub AreBelow : (RowName → Rational) → Type 0
  AreBelow bound = All (λ r. terms_at (terms_from 0 (choice_entry m (λ k. Some (chosen choice k)) r) (map Toll (tolls m))) x ≤ℚ bound r) (choice_rows m (λ k. Some (chosen choice k)))

  pub cap_below : (bound : RowName → Rational) → AreBelow bound → (a : ℕ) → a < length m.caps → at x a ≤ℚ bound (Cap a)
  unfolding AreBelow
  cap_below bound h a l =
      let Below : RowName → Type 0 = λ r. terms_at (terms_from 0 (choice_entry m (λ k. Some (chosen choice k)) r) (map Toll (tolls m))) x ≤ℚ bound r in
      let caps = all_first (λ r. terms_at (terms_from 0 (choice_entry m (λ k. Some (chosen choice k)) r) (map Toll (tolls m))) x ≤ℚ bound r) (map Cap (tolls m)) (flat_map (λ k. follow_rows m k) (commodities m)) h in
      let each = all_mapped (λ r. terms_at (terms_from 0 (choice_entry m (λ k. Some (chosen choice k)) r) (map Toll (tolls m))) x ≤ℚ bound r) Cap (tolls m) caps in
      let here = all_of_range (λ a. terms_at (terms_from 0 (cap_entry a) (map Toll (tolls m))) x ≤ℚ bound (Cap a)) (length m.caps) a each l in
      let e = same_test a in
      let sum : terms_at (terms_from 0 (cap_entry a) (map Toll (tolls m))) x ≡ at x a =
      row_sum (cap_entry a) ∙ sum_at (length m.caps) a (λ b. one_if (a == b) *ℚ at x b) l (λ b o. let e = other_test a b o in rw e (zero-*ℚ (at x b))) ∙ rw e (one-*ℚ (at x a)) in
      rw sum at here

  pub point_below : IsPoint (numbered (inverse m choice)) x → AreBelow (choice_right m (λ k. Some (chosen choice k)))
  unfolding AreBelow
  point_below point = all_mapped (λ r. terms_at r.terms x ≤ℚ r.right) (λ r. record { terms = terms_from 0 (choice_entry m (λ k. Some (chosen choice k)) r) (map Toll (tolls m)); right = choice_right m (λ k. Some (chosen choice k)) r }) (choice_rows m (λ k. Some (chosen choice k))) point.rows

  ray_below : IsRay (numbered (inverse m choice)) x → AreBelow (λ r. zero_ℚ)
  unfolding AreBelow
  ray_below ray = all_mapped (λ r. terms_at r.terms x ≤ℚ zero_ℚ) (λ r. record { terms = terms_from 0 (choice_entry m (λ k. Some (chosen choice k)) r) (map Toll (tolls m)); right = choice_right m (λ k. Some (chosen choice k)) r }) (choice_rows m (λ k. Some (chosen choice k))) ray.rows

-- the columns of the inverse program are the tolls
pub columns_are : (m : PathModel) (choice : List ℕ) → (numbered (inverse m choice)).columns ≡ length m.caps
columns_are m choice = length-map-range_with_len Toll 0 (length m.caps)

-- the caps bound each toll, so no direction raises the goal without end
pub no_ray : (m : PathModel) (choice : List ℕ) (d : List Rational) → IsRay (numbered (inverse m choice)) d → ⊥
no_ray m choice d ray = <ℚ_irrefl {q = zero_ℚ} (subst (λ (q : Rational). zero_ℚ <ℚ q) nothing ray.goal)
  where
    size : length d ≡ length m.caps
    size = ray.size ∙ columns_are m choice

    still : (a : ℕ) → a < length m.caps → at d a ≡ zero_ℚ
    still a l = ≤ℚ_antisymm (cap_below m choice d size (λ r. zero_ℚ) (ray_below m choice d size ray) a l) (ray.not_negative a zero_ℚ (omega (arith, l, size)))

    nothing : goal_at (numbered (inverse m choice)) d ≡ zero_ℚ
    nothing =
        sum_to_same (numbered (inverse m choice)).columns (λ j. at (numbered (inverse m choice)).goal j *ℚ at d j) (λ j. zero_ℚ)
        (λ j l. ap (λ q. at (numbered (inverse m choice)).goal j *ℚ q) (still j (omega (arith, l, columns_are m choice))) ∙ *ℚ-zero (at (numbered (inverse m choice)).goal j))
        ∙ sum_to_zero (numbered (inverse m choice)).columns

-- ---- the chosen paths at a point

difference_is : (a b : ℕ) → Is (whole (pos a -ℤ pos b)) a b 1
difference_is a b = Is-equal (Is-whole (pos a -ℤ pos b)) (omega arith) (omega (arith, ints))

one_if_times : (b : Bool) (x : Rational) → one_if b *ℚ x ≡ cond b x zero_ℚ
one_if_times true x = one-*ℚ x
one_if_times false x = zero-*ℚ x

-- what is undercut by no more than the difference of the costs is no dearer
no_dearer_of : (p q : Rational) (a b : ℕ) → (p -ℚ q) ≤ℚ whole (pos b -ℤ pos a) → (whole (pos a) +ℚ p) ≤ℚ (whole (pos b) +ℚ q)
no_dearer_of p q a b h =
    Is-le (Is-add (Is-whole (pos a)) (Is-self p)) (Is-add (Is-whole (pos b)) (Is-self q)) (omega (arith, le-Is (Is-sub (Is-self p) (Is-self q)) (difference_is b a) h))

module _ (m : PathModel) (choice : List ℕ) (T : List Rational) (point : IsPoint (numbered (inverse m choice)) T) where
  pub point_size : length T ≡ length m.caps
  point_size = point.size ∙ columns_are m choice

  undercut : (k q : ℕ) → sum_by (λ b. (one_if (uses m k (chosen choice k) b) -ℚ one_if (uses m k q b)) *ℚ at T b) (tolls m) ≡ path_toll m T k (chosen choice k) -ℚ path_toll m T k q
  undercut k q =
      sum_by_same (λ b. (one_if (uses m k (chosen choice k) b) -ℚ one_if (uses m k q b)) *ℚ at T b) (λ b. cond (uses m k (chosen choice k) b) (at T b) zero_ℚ -ℚ cond (uses m k q b) (at T b) zero_ℚ) (tolls m)
      (λ b. -ℚ-*ℚ (one_if (uses m k (chosen choice k) b)) (one_if (uses m k q b)) (at T b) ∙ ap₂ ◌-ℚ◌ (one_if_times (uses m k (chosen choice k) b) (at T b)) (one_if_times (uses m k q b) (at T b)))
      ∙ sum_by--ℚ (λ b. cond (uses m k (chosen choice k) b) (at T b) zero_ℚ) (λ b. cond (uses m k q b) (at T b) zero_ℚ) (tolls m)
      ∙ ap₂ ◌-ℚ◌ (sym (path_toll_is m T k (chosen choice k))) (sym (path_toll_is m T k q))

  -- each chosen path is no dearer than any useful path
  pub chosen_cheap : (k q : ℕ) → k < length m.covers → q < path_count m k → path_price m T k (chosen choice k) ≤ℚ path_price m T k q
  unfolding AreBelow
  chosen_cheap k q u l =
      let e : 0 + k ≡ k = omega arith in
      let follows = all_last (λ r. terms_at (terms_from 0 (choice_entry m (λ k. Some (chosen choice k)) r) (map Toll (tolls m))) T ≤ℚ choice_right m (λ k. Some (chosen choice k)) r) (map Cap (tolls m)) (flat_map (λ k. follow_rows m k) (commodities m)) (point_below m choice T point_size point) in
      let ours = rw e at (all_of_one (λ r. terms_at (terms_from 0 (choice_entry m (λ k. Some (chosen choice k)) r) (map Toll (tolls m))) T ≤ℚ choice_right m (λ k. Some (chosen choice k)) r) (λ k. follow_rows m k) 0 (length m.covers) k follows u) in
      let each = all_mapped (λ r. terms_at (terms_from 0 (choice_entry m (λ k. Some (chosen choice k)) r) (map Toll (tolls m))) T ≤ℚ choice_right m (λ k. Some (chosen choice k)) r) (Follow k) (paths m k) ours in
      let here = all_of_range (λ q. terms_at (terms_from 0 (choice_entry m (λ k. Some (chosen choice k)) (Follow k q)) (map Toll (tolls m))) T ≤ℚ whole (pos (path_cost m k q) -ℤ pos (path_cost m k (chosen choice k)))) (path_count m k) q each l in
      no_dearer_of (path_toll m T k (chosen choice k)) (path_toll m T k q) (path_cost m k (chosen choice k)) (path_cost m k q)
      (subst (λ (s : Rational). s ≤ℚ whole (pos (path_cost m k q) -ℤ pos (path_cost m k (chosen choice k)))) (row_sum m choice T point_size (choice_entry m (λ k. Some (chosen choice k)) (Follow k q)) ∙ undercut k q) here)
