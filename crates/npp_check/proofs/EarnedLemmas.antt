-- The printed tolls and walks are an outcome that earns the sum of demand times toll paid.
use Rattle.std.specs.Prelude.{◌≡◌, ℕ, zero, suc, ◌+◌, ◌*◌, ◌<◌, ◌≤◌, pos, ◌*ℤ◌, ◌==◌, List, [], ◌∷◌, length, map, filter, slice_index, slice_index_or, refl}
use Rattle.std.specs.List.{range_with_len}
use Rattle.std.proofs.Common.{arith, ap, sym, ◌∙◌, subst, eqb-true}
use Rattle.std.proofs.Math.Nat.{mul-le-mul_left, le_of_mul-le-mul_right}
use Rattle.std.proofs.lemmas.Int.{ints}
use Rattle.std.proofs.lemmas.List.FromFn.{length-map-range_with_len}
use Rattle.npp_frac.specs.Rational.{Rational, whole, ◌+ℚ◌, Is, Is-whole, Is-add, Is-equal, le-Is}
use Rattle.npp_frac.specs.Sums.{sum_by}
use Rattle.npp_lp.specs.Programs.{at}
use Rattle.npp_net.specs.declared.types.NetArc.{NetArc}
use Rattle.npp_net.specs.declared.types.Commodity.{Commodity}
use Rattle.npp_net.specs.Network.{Network, no_commodity, toll_count}
use Rattle.npp_net.specs.Walk.{walk_cost, walk_tolls}
use Rattle.npp_net.specs.Toll.{TollVector, IsCheapest, toll_paid}
use Rattle.npp_net.specs.Outcome.{AreCheapest, revenue}
use Rattle.npp_cover.specs.Useful.{commodity_at}
use Rattle.npp_cover.specs.Replaces.{CoverValue, path_at, no_path, set_toll, sum_below}
use Rattle.npp_cover.proofs.SumLemmas.{paid_by_toll, pays_no_more}
use Rattle.npp_rows.specs.PathModel.{PathModel, path_cost, uses, useful_path, no_cover}
use Rattle.npp_rows.specs.Caps.{path_model, toll_cap}
use Rattle.npp_rows.specs.Lowering.{IsClosedCover}
use Rattle.npp_rows.specs.Response.{path_price}
use Rattle.npp_rows.specs.TollVectors.{HasTolls}
use Rattle.npp_tree.specs.declared.outcome.PathLine.{PathLine}
use Rattle.npp_check.specs.PathLines.{is_walk}
use Rattle.npp_check.specs.Prices.{no_path_line}
use Rattle.npp_check.proofs.RuleLemmas.{both}
use Rattle.npp_check.proofs.ExactLemmas.{toll_is, counted_says, counted_is, price_is}
use Rattle.npp_check.proofs.PriceLemmas.{IsPrinted, IsNoDearer, walk_is}

module _ (net : Network) (tolls : List Rational) (t : TollVector) (has : HasTolls tolls t) (size : length tolls ≡ toll_count net.arcs) where
  -- ---- one commodity

  -- what is printed as paid is what the walk pays
  pub paid_is : (limit k : ℕ) (p : PathLine Rational) → IsPrinted limit net tolls k p → Is p.paid (toll_paid net.arcs t p.arcs) 0 t.denominator
  paid_is limit k p printed =
      let n : ℕ = toll_count net.arcs in
      let sum = counted_says limit (toll_count net.arcs) (λ a. walk_tolls net.arcs p.arcs a) (at tolls) printed.paid.0 printed.paid.1 in
      let exact = counted_is t.denominator has.positive (λ a. walk_tolls net.arcs p.arcs a) (slice_index t.numerators) (at tolls) (toll_count net.arcs)
      (λ a lt. toll_is tolls t has a (omega (arith, lt, size))) in
      let length_is : length t.numerators ≡ toll_count net.arcs = has.size ∙ size in
      let paid : toll_paid net.arcs t p.arcs ≡ sum_below (λ a. walk_tolls net.arcs p.arcs a * slice_index t.numerators a) (toll_count net.arcs) =
      paid_by_toll net.arcs t p.arcs ∙ ap (λ (m : ℕ). sum_below (λ a. walk_tolls net.arcs p.arcs a * slice_index t.numerators a) m) length_is in
      subst (λ z. Is p.paid z 0 t.denominator) (sym paid)
      (subst (λ z. Is z (sum_below (λ a. walk_tolls net.arcs p.arcs a * slice_index t.numerators a) (toll_count net.arcs)) 0 t.denominator) (sum ∙ printed.paid.2) exact)

  -- the price of a useful path over the denominator
  path_price_is : (covers : List CoverValue) (k q : ℕ)
      → Is (path_price (path_model net covers) tolls k q) (t.denominator * path_cost (path_model net covers) k q + set_toll t (useful_path (path_model net covers) k q).tolls) 0 t.denominator
  path_price_is covers k q =
      let m : PathModel = path_model net covers in
      let caps : length tolls ≡ length (path_model net covers).caps = size ∙ sym (length-map-range_with_len (toll_cap net covers) 0 (toll_count net.arcs)) in
      subst (λ n. Is (whole (pos (path_cost m k q)) +ℚ sum_by (at tolls) (filter (uses m k q) (range_with_len 0 n))) (t.denominator * path_cost m k q + set_toll t (useful_path m k q).tolls) 0 t.denominator) caps
      (price_is tolls t has (useful_path m k q).tolls (path_cost m k q))

  printed_is : (cost paid : ℕ) (q : Rational) → Is q paid 0 t.denominator → Is (whole (pos cost) +ℚ q) (t.denominator * cost + paid) 0 t.denominator
  printed_is cost paid q is = Is-equal (Is-add (Is-whole (pos cost)) is) has.positive (omega arith)

  no_less : (a b : ℕ) → a * t.denominator + 0 * t.denominator ≤ b * t.denominator + 0 * t.denominator → a ≤ b
  no_less a b h = le_of_mul-le-mul_right (omega (arith, h)) has.positive

  -- no walk of the commodity is cheaper
  pub cheapest_is : (limit k : ℕ) (covers : List CoverValue) (p : PathLine Rational) → IsClosedCover net.arcs (commodity_at net k) (slice_index_or covers k no_cover)
      → IsPrinted limit net tolls k p → IsNoDearer (path_model net covers) tolls k p
      → IsCheapest net.arcs t (commodity_at net k).origin.0 (commodity_at net k).destination.0 p.arcs
  cheapest_is limit k covers p cover printed dearer =
      let tests = both (is_walk net.arcs (commodity_at net k).origin.0 (commodity_at net k).destination.0 p.arcs) (walk_cost net.arcs p.arcs == p.cost) printed.walk in
      let cost : walk_cost net.arcs p.arcs ≡ p.cost = eqb-true (walk_cost net.arcs p.arcs) p.cost tests.1 in
      record {
        leads = walk_is net.arcs (commodity_at net k).origin.0 (commodity_at net k).destination.0 p.arcs tests.0;
        least = λ other leads.
            let found = cover.2.stand.no_worse other leads in
            let path = cover.2.each found.0 no_path found.1 in
            let worse = found.2 in
            let paid = pays_no_more net.arcs t (path_at (slice_index_or covers k no_cover).paths found.0).arcs other worse.tolls in
            let cross = le-Is (printed_is p.cost (toll_paid net.arcs t p.arcs) p.paid (paid_is limit k p printed)) (path_price_is covers k found.0) (dearer.least found.0 found.1) in
            let below = no_less (t.denominator * p.cost + toll_paid net.arcs t p.arcs)
            (t.denominator * path_cost (path_model net covers) k found.0 + set_toll t (useful_path (path_model net covers) k found.0).tolls) cross in
            omega (arith, below, paid, path.pays t, ap (λ z. t.denominator * z) cost, ap (λ z. t.denominator * z) path.costs, mul-le-mul_left t.denominator worse.cost);
      }

-- ---- all commodities

pub cheapest_from : (arcs : List NetArc) (t : TollVector) (ks : List Commodity) (ps : List (PathLine Rational)) → length ps ≡ length ks
    → ((k : ℕ) → k < length ks → IsCheapest arcs t (slice_index_or ks k no_commodity).origin.0 (slice_index_or ks k no_commodity).destination.0 (slice_index_or ps k no_path_line).arcs)
    → AreCheapest arcs t ks (map (λ p. p.arcs) ps)
cheapest_from arcs t [] [] size each = tt
cheapest_from arcs t [] (p ∷ ps) size each = absurd (omega (arith, size))
cheapest_from arcs t (k ∷ ks) [] size each = absurd (omega (arith, size))
cheapest_from arcs t (k ∷ ks) (p ∷ ps) size each = (each 0 (omega arith), cheapest_from arcs t ks ps (omega (arith, size)) (λ i lt. each (suc i) (omega (arith, lt))))

sum_below-first : (f : ℕ → ℕ) (n : ℕ) → sum_below f (suc n) ≡ f 0 + sum_below (λ i. f (suc i)) n
sum_below-first f zero = omega arith
sum_below-first f (suc n) = omega (arith, sum_below-first f n)

-- the revenue as a sum by the numbers of the commodities
pub revenue_is : (arcs : List NetArc) (t : TollVector) (ks : List Commodity) (ps : List (PathLine Rational)) → length ps ≡ length ks
    → revenue arcs t ks (map (λ p. p.arcs) ps) ≡ sum_below (λ k. (slice_index_or ks k no_commodity).demand * toll_paid arcs t (slice_index_or ps k no_path_line).arcs) (length ks)
revenue_is arcs t [] ps size = refl
revenue_is arcs t (k ∷ ks) [] size = absurd (omega (arith, size))
revenue_is arcs t (k ∷ ks) (p ∷ ps) size =
    ap (λ z. k.demand * toll_paid arcs t p.arcs + z) (revenue_is arcs t ks ps (omega (arith, size)))
    ∙ sym (sum_below-first (λ i. (slice_index_or (k ∷ ks) i no_commodity).demand * toll_paid arcs t (slice_index_or (p ∷ ps) i no_path_line).arcs) (length ks))

pub value_of_is : (q : Rational) (n d : ℕ) → Is q n 0 d → pos (n * q.den) ≡ q.num *ℤ pos d
value_of_is q n d is = let cross = is.cross in omega (arith, ints, cross)
