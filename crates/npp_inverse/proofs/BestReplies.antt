-- The reply to tolls is cheapest over all walks, and earns the most.
use Rattle.std.proofs.Common.{◌≡◌, inl, inr, ℕ, zero, suc, ◌+◌, ◌*◌, ◌<◌, ◌≤◌, Bool, true, false, cond, List, [], ◌∷◌, length, map, filter, pos, refl, sym, ap, ap₂, ◌∙◌, subst, arith}
use Rattle.std.specs.Prelude.{slice_index, slice_index_or, Result, Ok, Err, IfOk}
use Rattle.std.specs.List.{range_with_len}
use Rattle.std.proofs.Math.ListN.{get_or-eq_default}
use Rattle.std.proofs.Math.Nat.{mul-le-mul_left, le_of_mul-le-mul_right, lt_of_mul-lt-mul_right}
use Rattle.std.proofs.lemmas.Bool.{cases_lt}
use Rattle.std.proofs.lemmas.List.FromFn.{get_or-map-range_with_len, length-map-range_with_len}
use Rattle.npp_frac.specs.Rational.{Rational, zero_ℚ, whole, ratio, ◌+ℚ◌, ◌*ℚ◌, ◌≤ℚ◌, Is, Is-same, Is-add, Is-whole, Is-ratio, Is-equal, le-Is, lt-Is}
use Rattle.npp_frac.specs.Ring.{zero-+ℚ, +ℚ-zero}
use Rattle.npp_frac.specs.Order.{≤ℚ_of_<ℚ, ≤ℚ_of_≡}
use Rattle.npp_frac.specs.Sums.{sum_by, sum_by-nil, sum_by-cons, sum_by-append, sum_by_same, sum_to}
use Rattle.npp_net.specs.declared.types.ArcId.{ArcId}
use Rattle.npp_net.specs.declared.types.NetArc.{NetArc}
use Rattle.npp_net.specs.declared.types.Commodity.{Commodity}
use Rattle.npp_net.specs.Network.{Network, no_commodity, toll_count}
use Rattle.npp_net.specs.Toll.{TollVector, IsTollVector, IsCheapest, toll_paid}
use Rattle.npp_net.specs.Outcome.{AreCheapest, revenue}
use Rattle.npp_cover.specs.Replaces.{IsPath, set_toll, no_path}
use Rattle.npp_cover.proofs.SumLemmas.{pays_no_more}
use Rattle.npp_lp.specs.Programs.{at}
use Rattle.npp_rows.specs.declared.response.Response.{Response}
use Rattle.npp_rows.specs.Meaning.{reply_value}
use Rattle.npp_rows.specs.PathModel.{PathModel, no_cover, cover_at, path_count, useful_path, uses, commodities, demand_at}
use Rattle.npp_rows.specs.Parts.{chosen}
use Rattle.npp_rows.specs.Caps.{toll_cap}
use Rattle.npp_rows.specs.Lowering.{IsClosedCover}
use Rattle.npp_rows.specs.Promises.{IsModelOf}
use Rattle.npp_rows.specs.Piece.{toll_value, walks_of}
use Rattle.npp_rows.specs.Response.{path_toll, path_price, taken_path, taken_toll, revenue_below, Reply, reply}
use Rattle.npp_rows.proofs.ListLaws.{zip_size, zip_at, range_push}
use Rattle.npp_rows.proofs.ModelLaws.{demand_is}
use Rattle.npp_rows.proofs.PriceLaws.{range_to, all_cheapest, vector, toll_is, price_is, same_size, cover, a_path, cheapest_of}
use Rattle.npp_rows.proofs.GoalLaws.{revenue_is}
use Rattle.npp_simplex.proofs.Tables.{map_range_same}
use Rattle.npp_inverse.specs.Offers.{HasUsefulPaths, IsNoWorse, IsFirstBest}
use Rattle.npp_rows.specs.TollVectors.{HasTolls}
use Rattle.npp_inverse.specs.Replies.{IsBestReply, AnswersTolls}
use Rattle.npp_inverse.proofs.OfferLaws.{first_best}

-- ---- all commodities

no_more_revenue : (arcs : List NetArc) (t : TollVector) (f : ℕ → List ArcId) (ks : List Commodity) (a : ℕ) (ws : List (List ArcId))
    → ((k : ℕ) (w : List ArcId) → k < length ks → IsCheapest arcs t (slice_index_or ks k no_commodity).origin.0 (slice_index_or ks k no_commodity).destination.0 w → toll_paid arcs t w ≤ toll_paid arcs t (f (a + k)))
    → AreCheapest arcs t ks ws → revenue arcs t ks ws ≤ revenue arcs t ks (map f (range_with_len a (length ks)))
no_more_revenue arcs t f [] a ws h c = omega arith
no_more_revenue arcs t f (k ∷ ks) a [] h c = absurd c
no_more_revenue arcs t f (k ∷ ks) a (w ∷ ws) h c =
    let e : a + 0 ≡ a = omega arith in
    let here : toll_paid arcs t w ≤ toll_paid arcs t (f a) = rw e at (h 0 w (omega arith) c.0) in
    let rest = no_more_revenue arcs t f ks (a + 1) ws (λ i v l b. let e : a + 1 + i ≡ a + suc i = omega arith in rw e (h (suc i) v (omega (arith, l)) b)) c.1 in
    omega (arith, rest, mul-le-mul_left k.demand here)

-- ---- the path that is taken

module _ (m : PathModel) (T : List Rational) (k : ℕ) (some : 0 < path_count m k) where
  -- it is the first of the best
  pub first_taken : IsFirstBest (path_price m T k) (path_toll m T k) (path_count m k) (taken_path m T k)
  first_taken = first_best (path_price m T k) (path_toll m T k) (path_count m k) some

  pub taken_inside : taken_path m T k < path_count m k
  taken_inside = first_taken.below

  -- no path is cheaper
  pub taken_cheapest : (q : ℕ) → q < path_count m k → path_price m T k (taken_path m T k) ≤ℚ path_price m T k q
  taken_cheapest q l = by (first_taken.best q l)
    where
      by : IsNoWorse (path_price m T k (taken_path m T k)) (path_toll m T k (taken_path m T k)) (path_price m T k q) (path_toll m T k q) → path_price m T k (taken_path m T k) ≤ℚ path_price m T k q
      by (inl lt) = ≤ℚ_of_<ℚ lt
      by (inr same) = ≤ℚ_of_≡ same.0

-- ---- one commodity

module _ (net : Network) (m : PathModel) (T : List Rational) (t : TollVector) (model : IsModelOf net m) (size : length T ≡ length m.caps) (has : HasTolls T t) (useful : HasUsefulPaths m) where
  module _ (k : ℕ) (u : k < length m.covers) where
    best : IsFirstBest (path_price m T k) (path_toll m T k) (path_count m k) (taken_path m T k)
    best = first_taken m T k (useful.some k u)

    -- the taken path pays at least what a path pays that is no dearer than it
    pays_most : (q : ℕ) → q < path_count m k
        → t.denominator * (useful_path m k q).cost + set_toll t (useful_path m k q).tolls ≤ t.denominator * (useful_path m k (taken_path m T k)).cost + set_toll t (useful_path m k (taken_path m T k)).tolls
        → set_toll t (useful_path m k q).tolls ≤ set_toll t (useful_path m k (taken_path m T k)).tolls
    pays_most q l h = by (best.best q l)
      where
        by : IsNoWorse (path_price m T k (taken_path m T k)) (path_toll m T k (taken_path m T k)) (path_price m T k q) (path_toll m T k q)
            → set_toll t (useful_path m k q).tolls ≤ set_toll t (useful_path m k (taken_path m T k)).tolls
        by (inl lt) =
            let dearer : t.denominator * (useful_path m k (taken_path m T k)).cost + set_toll t (useful_path m k (taken_path m T k)).tolls < t.denominator * (useful_path m k q).cost + set_toll t (useful_path m k q).tolls =
            lt_of_mul-lt-mul_right t.denominator (omega (arith, lt-Is (price_is net m T t model size has k (taken_path m T k)) (price_is net m T t model size has k q) lt)) in
            absurd (omega (arith, h, dearer))
        by (inr same) = le_of_mul-le-mul_right (omega (arith, le-Is (toll_is net m T t model size has k q) (toll_is net m T t model size has k (taken_path m T k)) same.1)) has.positive

    cheapest : IsCheapest net.arcs t (slice_index_or net.commodities k no_commodity).origin.0 (slice_index_or net.commodities k no_commodity).destination.0 (useful_path m k (taken_path m T k)).arcs
    cheapest = cheapest_of net m T t model size has k u (taken_path m T k) best.below (taken_cheapest m T k (useful.some k u))

    earns_most : (walk : List ArcId) → IsCheapest net.arcs t (slice_index_or net.commodities k no_commodity).origin.0 (slice_index_or net.commodities k no_commodity).destination.0 walk
        → toll_paid net.arcs t walk ≤ toll_paid net.arcs t (useful_path m k (taken_path m T k)).arcs
    earns_most walk least =
        let p = a_path net m T t model size has k u (taken_path m T k) best.below in
        let found = (cover net m T t model size has k u).2.stand.replaces t walk (vector net m T t model size has) least in
        let r = a_path net m T t model size has k u found.0 found.1 in
        let price = found.2.cheapest.least (useful_path m k (taken_path m T k)).arcs p.leads in
        let most = pays_most found.0 found.1 (omega (arith, price, p.pays t, r.pays t, ap (λ z. t.denominator * z) p.costs, ap (λ z. t.denominator * z) r.costs)) in
        omega (arith, most, found.2.pays, p.pays t, r.pays t)

  -- ---- the reply

  taken_arcs : ℕ → List ArcId
  taken_arcs k = (useful_path m k (taken_path m T k)).arcs

  walks_are : walks_of m (reply m T).paths ≡ map taken_arcs (range_with_len 0 (length net.commodities))
  unfolding taken_arcs
  walks_are =
      map_range_same (λ k. (useful_path m k (chosen (map (taken_path m T) (commodities m)) k)).arcs) taken_arcs 0 (length m.covers)
      (λ k l u. ap (λ q. (useful_path m k q).arcs) (get_or-map-range_with_len (taken_path m T) 0 (length m.covers) k k 0 (omega (arith, u)) (omega arith)))
      ∙ ap (λ n. map taken_arcs (range_with_len 0 n)) (sym (same_size net m T t model size has))

  -- what the taken paths pay together, in rational and in whole numbers
  payment : ℕ → Rational
  payment k = whole (pos (demand_at m k)) *ℚ taken_toll m T k

  taken_is : (k : ℕ) → k < length net.commodities → Is (taken_toll m T k) (toll_paid net.arcs t (taken_arcs k)) 0 t.denominator
  unfolding taken_arcs
  taken_is k l =
      let u : k < length m.covers = omega (arith, l, same_size net m T t model size has) in
      rw ((a_path net m T t model size has k u (taken_path m T k) (best k u).below).pays t) (toll_is net m T t model size has k (taken_path m T k))

  payments : sum_by payment (range_with_len 0 (length net.commodities)) ≡ revenue_below m T (length m.covers)
  unfolding payment
  payments = ap (λ n. sum_by payment (range_with_len 0 n)) (same_size net m T t model size has) ∙ range_to payment (length m.covers)

  demand_same : (k : ℕ) → k < length net.commodities → demand_at m k ≡ (slice_index_or net.commodities k no_commodity).demand
  demand_same k l = ap (λ z. demand_at z k) model.same ∙ demand_is net m.covers k l

  revenue_of : Is (revenue_below m T (length m.covers)) (revenue net.arcs t net.commodities (map taken_arcs (range_with_len 0 (length net.commodities)))) 0 t.denominator
  unfolding payment
  revenue_of =
      let all = revenue_is net.arcs t taken_arcs (taken_toll m T) (demand_at m) has.positive net.commodities 0
      (λ k l. let e : 0 + k ≡ k = omega arith in rw e (demand_same k l))
      (λ k l. let e : 0 + k ≡ k = omega arith in rw e (taken_is k l)) in
      subst (λ (q : Rational). Is q (revenue net.arcs t net.commodities (map taken_arcs (range_with_len 0 (length net.commodities)))) 0 t.denominator) payments all

  pub best_reply : IsBestReply net m t (reply m T)
  unfolding taken_arcs
  best_reply =
      let R : List (List ArcId) → ℕ = revenue net.arcs t net.commodities in
      let taken : List (List ArcId) = map taken_arcs (range_with_len 0 (length net.commodities)) in
      record {
        cheapest = subst (λ (ws : List (List ArcId)). AreCheapest net.arcs t net.commodities ws) (sym walks_are)
            (all_cheapest net.arcs t taken_arcs net.commodities 0 (λ k l. let e : 0 + k ≡ k = omega arith in rw e (cheapest k (omega (arith, l, same_size net m T t model size has)))));
        earned = ap (λ ws. ratio (pos (R ws)) t.denominator) walks_are
            ∙ Is-same (Is-ratio (pos (revenue net.arcs t net.commodities (map taken_arcs (range_with_len 0 (length net.commodities))))) t.denominator has.positive) revenue_of (omega arith);
        most = λ walks least. subst (λ (ws : List (List ArcId)). R walks ≤ R ws) (sym walks_are)
            (no_more_revenue net.arcs t taken_arcs net.commodities 0 walks (λ k w l c. let e : 0 + k ≡ k = omega arith in rw e (earns_most k (omega (arith, l, same_size net m T t model size has)) w c)) least);
      }

-- whatever the code's numbers
pub answers_tolls : {N E : Type 0} (value : N → Rational) (net : Network) (m : PathModel) (T : List Rational) (r : Result (Response N) E) → IsModelOf net m → length T ≡ length m.caps → HasUsefulPaths m
    → IfOk r (λ x. reply_value value x ≡ reply m T) → IfOk r (λ x. AnswersTolls net m T (reply_value value x))
answers_tolls value net m T (Ok x) model size useful e = λ t has. subst (λ (y : Reply). IsBestReply net m t y) (sym e) (best_reply net m T t model size has useful)
answers_tolls value net m T (Err e) model size useful h = tt
