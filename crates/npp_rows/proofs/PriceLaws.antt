-- What useful paths ask under tolls, in whole numbers; and a path that is no dearer than the useful paths of its commodity is
-- cheapest over all walks.
use Rattle.std.proofs.Common.{◌≡◌, inl, inr, ℕ, zero, suc, ◌+◌, ◌*◌, ◌<◌, ◌≤◌, Bool, true, false, cond, List, [], ◌∷◌, length, map, filter, pos, refl, sym, ap, ap₂, ◌∙◌, arith}
use Rattle.std.specs.Prelude.{slice_index, slice_index_or}
use Rattle.std.specs.List.{range_with_len}
use Rattle.std.proofs.Math.ListN.{get_or-eq_default}
use Rattle.std.proofs.Math.Nat.{mul-le-mul_left, le_of_mul-le-mul_right}
use Rattle.std.proofs.lemmas.Bool.{cases_lt}
use Rattle.std.proofs.lemmas.List.FromFn.{length-map-range_with_len}
use Rattle.npp_frac.specs.Rational.{Rational, zero_ℚ, ◌+ℚ◌, ◌≤ℚ◌, Is, Is-same, Is-add, Is-whole, Is-ratio, Is-equal, le-Is}
use Rattle.npp_frac.specs.Ring.{zero-+ℚ, +ℚ-zero}
use Rattle.npp_frac.specs.Sums.{sum_by, sum_by-nil, sum_by-cons, sum_by-append, sum_by_same, sum_to}
use Rattle.npp_net.specs.declared.types.ArcId.{ArcId}
use Rattle.npp_net.specs.declared.types.NetArc.{NetArc}
use Rattle.npp_net.specs.declared.types.Commodity.{Commodity}
use Rattle.npp_net.specs.Network.{Network, no_commodity, toll_count}
use Rattle.npp_net.specs.Toll.{TollVector, IsTollVector, IsCheapest}
use Rattle.npp_net.specs.Outcome.{AreCheapest}
use Rattle.npp_cover.specs.Replaces.{IsPath, set_toll, no_path}
use Rattle.npp_cover.proofs.SumLemmas.{pays_no_more}
use Rattle.npp_lp.specs.Programs.{at}
use Rattle.npp_rows.specs.PathModel.{PathModel, no_cover, cover_at, tolls, path_count, useful_path, uses}
use Rattle.npp_rows.specs.Caps.{toll_cap}
use Rattle.npp_rows.specs.Lowering.{IsClosedCover}
use Rattle.npp_rows.specs.Promises.{IsModelOf}
use Rattle.npp_rows.specs.Piece.{toll_value}
use Rattle.npp_rows.specs.TollVectors.{HasTolls}
use Rattle.npp_rows.specs.Response.{path_toll, path_price}
use Rattle.npp_rows.proofs.ListLaws.{zip_size, zip_at, range_push}
use Rattle.npp_rows.proofs.OutcomeLaws.{paid_is}

-- ---- sums

sum_kept : (f : ℕ → Rational) (p : ℕ → Bool) (xs : List ℕ) → sum_by f (filter p xs) ≡ sum_by (λ x. cond (p x) (f x) zero_ℚ) xs
unfolding sum_by
sum_kept f p [] = refl
sum_kept f p (x ∷ xs) = by (p x) (sum_kept f p xs)
  where
    by : (b : Bool) → sum_by f (filter p xs) ≡ sum_by (λ x. cond (p x) (f x) zero_ℚ) xs → sum_by f (cond b (x ∷ filter p xs) (filter p xs)) ≡ cond b (f x) zero_ℚ +ℚ sum_by (λ x. cond (p x) (f x) zero_ℚ) xs
    by true e = ap (λ q. f x +ℚ q) e
    by false e = e ∙ sym (zero-+ℚ (sum_by (λ x. cond (p x) (f x) zero_ℚ) xs))

-- what a path pays, over all tolls
pub path_toll_is : (m : PathModel) (T : List Rational) (k q : ℕ) → path_toll m T k q ≡ sum_by (λ b. cond (uses m k q b) (at T b) zero_ℚ) (tolls m)
path_toll_is m T k q = sum_kept (at T) (uses m k q) (tolls m)

pub range_to : (f : ℕ → Rational) (n : ℕ) → sum_by f (range_with_len 0 n) ≡ sum_to n f
unfolding sum_to
range_to f zero = sum_by-nil f
range_to f (suc n) =
    let e : suc n ≡ n + 1 = omega arith in
    ap (λ i. sum_by f (range_with_len 0 i)) e
    ∙ ap (sum_by f) (range_push 0 n n (omega arith))
    ∙ sum_by-append f (range_with_len 0 n) (n ∷ [])
    ∙ ap₂ ◌+ℚ◌ (range_to f n) (sum_by-cons f n [] ∙ ap (λ q. f n +ℚ q) (sum_by-nil f) ∙ +ℚ-zero (f n))

-- ---- all commodities

pub all_cheapest : (arcs : List NetArc) (t : TollVector) (f : ℕ → List ArcId) (ks : List Commodity) (a : ℕ)
    → ((k : ℕ) → k < length ks → IsCheapest arcs t (slice_index_or ks k no_commodity).origin.0 (slice_index_or ks k no_commodity).destination.0 (f (a + k)))
    → AreCheapest arcs t ks (map f (range_with_len a (length ks)))
all_cheapest arcs t f [] a h = tt
all_cheapest arcs t f (c ∷ ks) a h =
    let e : a + 0 ≡ a = omega arith in
    (rw e at (h 0 (omega arith)), all_cheapest arcs t f ks (a + 1) (λ k l. let e : a + 1 + k ≡ a + suc k = omega arith in rw e (h (suc k) (omega (arith, l)))))

-- ---- one commodity

module _ (net : Network) (m : PathModel) (T : List Rational) (t : TollVector) (model : IsModelOf net m) (size : length T ≡ length m.caps) (has : HasTolls T t) where
  pub caps_count : length m.caps ≡ toll_count net.arcs
  caps_count = ap (λ z. length z.caps) model.same ∙ length-map-range_with_len (toll_cap net m.covers) 0 (toll_count net.arcs)

  pub vector : IsTollVector net.arcs t
  vector = record { positive = omega (arith, has.positive); count = has.size ∙ size ∙ caps_count }

  toll_same : (a : ℕ) → at T a ≡ toll_value t a
  toll_same a = elim (cases_lt a (length T)) [
    | inl l ↦ has.each a l
    | inr l ↦ get_or-eq_default T zero_ℚ l
        ∙ Is-same (Is-whole (pos 0)) (Is-ratio (pos (slice_index t.numerators a)) t.denominator has.positive) (omega (arith, none l))
  ]
    where
      none : length T ≤ a → slice_index t.numerators a ≡ 0
      none l = get_or-eq_default t.numerators 0 (omega (arith, l, has.size))

  pub toll_is : (k q : ℕ) → Is (path_toll m T k q) (set_toll t (useful_path m k q).tolls) 0 t.denominator
  toll_is k q =
      let count : length t.numerators ≡ length m.caps = has.size ∙ size in
      rw (path_toll_is m T k q)
      (rw (sum_by_same (λ a. cond (uses m k q a) (at T a) zero_ℚ) (λ a. cond (uses m k q a) (toll_value t a) zero_ℚ) (range_with_len 0 (length m.caps)) (λ a. ap (λ x. cond (uses m k q a) x zero_ℚ) (toll_same a)))
      (rw count (paid_is t (useful_path m k q).tolls vector.positive (length m.caps))))

  pub price_is : (k q : ℕ) → Is (path_price m T k q) (t.denominator * (useful_path m k q).cost + set_toll t (useful_path m k q).tolls) 0 t.denominator
  price_is k q = Is-equal (Is-add (Is-whole (pos (useful_path m k q).cost)) (toll_is k q)) has.positive (omega arith)

  pub same_size : length net.commodities ≡ length m.covers
  same_size = zip_size (IsClosedCover net.arcs) net.commodities m.covers model.covers

  module _ (k : ℕ) (u : k < length m.covers) where
    pub cover : IsClosedCover net.arcs (slice_index_or net.commodities k no_commodity) (cover_at m k)
    cover = zip_at (IsClosedCover net.arcs) net.commodities m.covers no_commodity no_cover k model.covers u

    pub a_path : (q : ℕ) → q < path_count m k → IsPath net.arcs (slice_index_or net.commodities k no_commodity) (useful_path m k q)
    a_path q h = cover.2.each q no_path h

    -- a path that is no dearer than any useful path is cheapest over all walks
    pub cheapest_of : (p : ℕ) → p < path_count m k → ((q : ℕ) → q < path_count m k → path_price m T k p ≤ℚ path_price m T k q)
        → IsCheapest net.arcs t (slice_index_or net.commodities k no_commodity).origin.0 (slice_index_or net.commodities k no_commodity).destination.0 (useful_path m k p).arcs
    cheapest_of p inside no_dearer =
        let here = a_path p inside in
        record {
          leads = here.leads;
          least = λ other leads.
              let found = cover.2.stand.no_worse other leads in
              let r = a_path found.0 found.1 in
              let paid = pays_no_more net.arcs t (useful_path m k found.0).arcs other found.2.tolls in
              let price : t.denominator * (useful_path m k p).cost + set_toll t (useful_path m k p).tolls ≤ t.denominator * (useful_path m k found.0).cost + set_toll t (useful_path m k found.0).tolls =
              le_of_mul-le-mul_right (omega (arith, le-Is (price_is k p) (price_is k found.0) (no_dearer found.0 found.1))) has.positive in
              omega (arith, mul-le-mul_left t.denominator found.2.cost, paid, price, here.pays t, r.pays t, ap (λ z. t.denominator * z) here.costs, ap (λ z. t.denominator * z) r.costs);
        }
