-- What an outcome of the piece keeps, in whole numbers: its paths are no dearer than any useful path, and the tolls on
-- them are within their gaps.
use Rattle.std.specs.Prelude.{◌≡◌, ℕ, zero, suc, ◌+◌, ◌-◌, ◌*◌, ◌<◌, ◌≤◌, pos, List, [], ◌∷◌, length, map, slice_index, slice_index_or, true, cond, ◌==◌, Contains, refl}
use Rattle.std.specs.Int.{bit_at}
use Rattle.std.specs.List.{range_with_len, AllZip}
use Rattle.std.proofs.Common.{arith, sym, ap, ◌∙◌, eqb-true, inl, inr, eq-or-lt_of_le, le_of_suc-le-suc}
use Rattle.std.proofs.Math.Nat.{mul-le-mul_right}
use Rattle.std.proofs.lemmas.Nat.Bits.{bit_at-zero, bit_at-lt}
use Rattle.std.proofs.lemmas.List.FromFn.{length-map-range_with_len}
use Rattle.npp_frac.specs.Rational.{Rational, zero_ℚ, whole, ◌+ℚ◌, ◌≤ℚ◌, Is, Is-le, Is-ratio, Is-whole, Is-add, Is-negative, Is-equal}
use Rattle.npp_frac.specs.Ring.{+ℚ-zero, zero-+ℚ, +ℚ_assoc}
use Rattle.npp_frac.specs.Sums.{sum_by}
use Rattle.npp_net.specs.declared.types.ArcId.{ArcId}
use Rattle.npp_net.specs.declared.types.NetArc.{NetArc}
use Rattle.npp_net.specs.declared.types.Commodity.{Commodity}
use Rattle.npp_net.specs.Network.{Network, no_commodity, toll_count}
use Rattle.npp_net.specs.Toll.{TollVector, IsCheapest}
use Rattle.npp_net.specs.Outcome.{AreCheapest}
use Rattle.npp_cover.specs.Replaces.{IsPath, sum_below, set_toll, no_path}
use Rattle.npp_cover.proofs.CoverLaws.{some_path, last_path, at_most_free}
use Rattle.npp_rows.specs.PathModel.{PathModel, no_cover, cover_at, path_count, useful_path, path_cost, path_gap, uses}
use Rattle.npp_rows.specs.Parts.{part_at, chosen, IsAllowed}
use Rattle.npp_rows.specs.Caps.{toll_cap}
use Rattle.npp_rows.specs.Named.{value_over}
use Rattle.npp_rows.specs.Relax.{relaxation_columns, follow_entry}
use Rattle.npp_rows.proofs.RowLaws.{path_paid, follow_value}
use Rattle.npp_rows.specs.Lowering.{IsClosedCover}
use Rattle.npp_rows.specs.Promises.{IsModelOf}
use Rattle.npp_rows.specs.Piece.{IsInPiece, toll_value, outcome_number}

-- ---- lists

zip_size : {A B : Type 0} (R : A → B → Type 0) (xs : List A) (ys : List B) → AllZip R xs ys → length xs ≡ length ys
zip_size R [] [] h = refl
zip_size R [] (y ∷ ys) h = absurd h
zip_size R (x ∷ xs) [] h = absurd h
zip_size R (x ∷ xs) (y ∷ ys) h = omega (arith, zip_size R xs ys h.1)

zip_at : {A B : Type 0} (R : A → B → Type 0) (xs : List A) (ys : List B) (d : A) (e : B) (k : ℕ) → AllZip R xs ys → k < length ys → R (slice_index_or xs k d) (slice_index_or ys k e)
zip_at R [] [] d e k h l = absurd (omega (arith, l))
zip_at R [] (y ∷ ys) d e k h l = absurd h
zip_at R (x ∷ xs) [] d e k h l = absurd h
zip_at R (x ∷ xs) (y ∷ ys) d e zero h l = h.0
zip_at R (x ∷ xs) (y ∷ ys) d e (suc k) h l = zip_at R xs ys d e k h.1 (omega (arith, l))

cheapest_at : (arcs : List NetArc) (t : TollVector) (f : ℕ → List ArcId) (ks : List Commodity) (a n k : ℕ) (d : Commodity) → AreCheapest arcs t ks (map f (range_with_len a n)) → k < n
    → IsCheapest arcs t (slice_index_or ks k d).origin.0 (slice_index_or ks k d).destination.0 (f (a + k))
cheapest_at arcs t f [] a zero k d h l = absurd (omega (arith, l))
cheapest_at arcs t f [] a (suc n) k d h l = absurd h
cheapest_at arcs t f (c ∷ ks) a zero k d h l = absurd (omega (arith, l))
cheapest_at arcs t f (c ∷ ks) a (suc n) zero d h l = let e : a + 0 ≡ a = omega arith in rw e h.0
cheapest_at arcs t f (c ∷ ks) a (suc n) (suc k) d h l =
    let e : a + 1 + k ≡ a + suc k = omega arith in
    rw e at (cheapest_at arcs t f ks (a + 1) n k d h.1 (omega (arith, l)))

-- ---- sums over a set of tolls

no_toll : (f : ℕ → ℕ) (n : ℕ) → sum_below (λ a. bit_at 0 a * f a) n ≡ 0
no_toll f zero = refl
no_toll f (suc n) = omega (arith, no_toll f n, ap (λ z. z * f n) (bit_at-zero n))

toll_in_sum : (s : ℕ) (f : ℕ → ℕ) (n a : ℕ) → a < n → bit_at s a ≡ 1 → f a ≤ sum_below (λ a. bit_at s a * f a) n
toll_in_sum s f zero a h b = absurd (omega (arith, h))
toll_in_sum s f (suc n) a h b = elim (eq-or-lt_of_le (le_of_suc-le-suc h)) [
  | inl same ↦ let here : bit_at s n ≡ 1 = rw same at b in omega (arith, ap (λ z. z * f n) here, ap f same)
  | inr l ↦ omega (arith, toll_in_sum s f n a l b)
]

-- ---- the toll of a path as a rational number

range_more : (f : ℕ → Rational) (a n : ℕ) → sum_by f (range_with_len a (suc n)) ≡ sum_by f (range_with_len a n) +ℚ f (a + n)
unfolding sum_by
range_more f a zero = let e : a + 0 ≡ a = omega arith in rw e (+ℚ-zero (f a) ∙ sym (zero-+ℚ (f a)))
range_more f a (suc n) =
    let e : a + 1 + n ≡ a + suc n = omega arith in
    let rest : sum_by f (range_with_len (a + 1) (suc n)) ≡ sum_by f (range_with_len (a + 1) n) +ℚ f (a + suc n) = rw e at (range_more f (a + 1) n) in
    ap (λ z. f a +ℚ z) rest ∙ sym (+ℚ_assoc (f a) (sum_by f (range_with_len (a + 1) n)) (f (a + suc n)))

module _ (t : TollVector) (s : ℕ) (positive : 1 ≤ t.denominator) where
  paid_by : (a bit : ℕ) → bit < 2 → Is (cond (bit == 1) (toll_value t a) zero_ℚ) (bit * slice_index t.numerators a) 0 t.denominator
  paid_by a zero h = Is-equal (Is-whole (pos 0)) (omega (arith, positive)) (omega arith)
  paid_by a (suc zero) h = Is-equal (Is-ratio (pos (slice_index t.numerators a)) t.denominator (omega (arith, positive))) (omega (arith, positive)) (omega arith)
  paid_by a (suc (suc n)) h = absurd (omega (arith, h))

  pub paid_is : (n : ℕ) → Is (sum_by (λ b. cond (bit_at s b == 1) (toll_value t b) zero_ℚ) (range_with_len 0 n)) (sum_below (λ a. bit_at s a * slice_index t.numerators a) n) 0 t.denominator
  unfolding sum_by
  paid_is zero = Is-equal (Is-whole (pos 0)) (omega (arith, positive)) (omega arith)
  paid_is (suc n) =
      let e : 0 + n ≡ n = omega arith in
      let more = range_more (λ b. cond (bit_at s b == 1) (toll_value t b) zero_ℚ) 0 n in
      rw (more, e) (Is-equal (Is-add (paid_is n) (paid_by n (bit_at s n) (bit_at-lt s n))) (omega (arith, positive)) (omega arith))

-- ---- outcomes

module _ (net : Network) (m : PathModel) (parts : List (List ℕ)) (t : TollVector) (choice : List ℕ) (model : IsModelOf net m) (allowed : IsAllowed m parts) (piece : IsInPiece net m parts t choice) where
  pub same_size : length net.commodities ≡ length m.covers
  same_size = zip_size (IsClosedCover net.arcs) net.commodities m.covers model.covers

  caps_size : length m.caps ≡ length t.numerators
  caps_size =
      ap (λ z. length z.caps) model.same
      ∙ length-map-range_with_len (toll_cap net m.covers) 0 (toll_count net.arcs)
      ∙ sym piece.outcome.vector.count

  module _ (k : ℕ) (u : k < length m.covers) where
    pub cover : IsClosedCover net.arcs (slice_index_or net.commodities k no_commodity) (cover_at m k)
    cover = zip_at (IsClosedCover net.arcs) net.commodities m.covers no_commodity no_cover k model.covers u

    pub a_path : (q : ℕ) → q < path_count m k → IsPath net.arcs (slice_index_or net.commodities k no_commodity) (useful_path m k q)
    a_path q h = cover.2.each q no_path h

    cheapest : IsCheapest net.arcs t (slice_index_or net.commodities k no_commodity).origin.0 (slice_index_or net.commodities k no_commodity).destination.0 (useful_path m k (chosen choice k)).arcs
    cheapest =
        let e : 0 + k ≡ k = omega arith in
        rw e at (cheapest_at net.arcs t (λ k. (useful_path m k (chosen choice k)).arcs) net.commodities 0 (length m.covers) k no_commodity piece.outcome.cheapest u)

    pub chosen_within : chosen choice k < path_count m k
    chosen_within =
        let has : Contains (part_at parts k) (chosen choice k) = piece.allowed.each k u in
        rw has.2 at ((allowed.each k (rw allowed.size u)).in_range has.0 (chosen choice k) has.1)

    -- the chosen path is no dearer than another
    pub no_dearer : (q : ℕ) → q < path_count m k
        → t.denominator * path_cost m k (chosen choice k) + set_toll t (useful_path m k (chosen choice k)).tolls ≤ t.denominator * path_cost m k q + set_toll t (useful_path m k q).tolls
    no_dearer q h =
        let p = a_path (chosen choice k) chosen_within in
        let r = a_path q h in
        rw (p.costs, r.costs, p.pays t, r.pays t) at (cheapest.least (useful_path m k q).arcs r.leads)

    -- the last path is toll-free
    pub free_last : (q : ℕ) × (q < path_count m k) × (path_cost m k q ≡ (cover_at m k).free) × ((useful_path m k q).tolls ≡ 0)
    free_last =
        let some = some_path net.arcs (slice_index_or net.commodities k no_commodity) cover.0 (cover_at m k) cover.2 in
        let there = last_path net.arcs (slice_index_or net.commodities k no_commodity) cover.0 (cover_at m k) cover.2 in
        (path_count m k - 1, omega (arith, some), ap (λ z. z.cost) there ∙ sym cover.2.free, ap (λ z. z.tolls) there)

    -- the toll of an arc that the chosen path uses is within the gap of the path
    pub within_gap : (a : ℕ) → a < length m.caps → uses m k (chosen choice k) a ≡ true → slice_index t.numerators a ≤ path_gap m k (chosen choice k) * t.denominator
    within_gap a h used =
        let q = free_last in
        let price = no_dearer q.0 q.1 in
        let none : set_toll t (useful_path m k q.0).tolls ≡ 0 = rw q.3 (no_toll (λ a. slice_index t.numerators a) (length t.numerators)) in
        let bit : bit_at (useful_path m k (chosen choice k)).tolls a ≡ 1 = eqb-true (bit_at (useful_path m k (chosen choice k)).tolls a) 1 used in
        let toll = toll_in_sum (useful_path m k (chosen choice k)).tolls (λ a. slice_index t.numerators a) (length t.numerators) a (rw (← caps_size) h) bit in
        let most : path_cost m k (chosen choice k) ≤ (cover_at m k).free = rw (cover.2.free) (at_most_free net.arcs (slice_index_or net.commodities k no_commodity) cover.0 (cover_at m k) cover.2 (chosen choice k) chosen_within) in
        let parts : (cover_at m k).free ≡ path_gap m k (chosen choice k) + path_cost m k (chosen choice k) = omega (arith, most) in
        omega (arith, price, none, toll, ap (λ z. t.denominator * z) q.2, ap (λ z. t.denominator * z) parts)

    positive : 0 < t.denominator
    positive = omega (arith, piece.outcome.vector.positive)

    pub gap_holds : (a : ℕ) → a < length m.caps → uses m k (chosen choice k) a ≡ true → toll_value t a ≤ℚ whole (pos (path_gap m k (chosen choice k)))
    gap_holds a h used =
        Is-le (Is-ratio (pos (slice_index t.numerators a)) t.denominator positive) (Is-whole (pos (path_gap m k (chosen choice k)))) (omega (arith, within_gap a h used))

    pub path_is : (q : ℕ) → Is (path_paid net m parts t choice allowed piece k q) (set_toll t (useful_path m k q).tolls) 0 t.denominator
    path_is q = rw (← caps_size) (paid_is t (useful_path m k q).tolls piece.outcome.vector.positive (length m.caps))

    pub follow_holds : (q : ℕ) → q < path_count m k → value_over (relaxation_columns m parts) (follow_entry m k q) (outcome_number m t choice) ≤ℚ whole (pos (path_cost m k q))
    follow_holds q h =
        rw (follow_value net m parts t choice allowed piece k q u)
        (Is-le (Is-add (Is-add (Is-negative (path_is q)) (Is-whole (pos (path_cost m k (chosen choice k))))) (path_is (chosen choice k))) (Is-whole (pos (path_cost m k q)))
        (omega (arith, mul-le-mul_right t.denominator (no_dearer q h))))
