-- No outcome earns more than the basic bound.
use Rattle.std.proofs.Common.{◌≡◌, ℕ, ◌+◌, ◌-◌, ◌*◌, ◌≤◌, List, [], ◌∷◌, refl, ap, arith, false, cond, slice_index, pos}
use Rattle.std.proofs.lemmas.List.Sums.{sum_by-cons}
use Rattle.std.proofs.Math.Nat.{mul-le-mul_left}
use Rattle.std.proofs.lemmas.Int.{ints}
use Rattle.npp_net.specs.declared.types.ArcId.{ArcId}
use Rattle.npp_net.specs.declared.types.NetArc.{NetArc}
use Rattle.npp_net.specs.declared.types.Commodity.{Commodity}
use Rattle.npp_net.specs.Network.{Network, toll_number}
use Rattle.npp_net.specs.Walk.{walk_cost}
use Rattle.npp_net.specs.Distance.{IsUsableWalk, IsSpan}
use Rattle.npp_net.specs.Toll.{TollVector, IsCheapest, toll_at, toll_paid, price}
use Rattle.npp_net.specs.Outcome.{AreCheapest, IsUpperBound, revenue}
use Rattle.npp_net.specs.declared.types.Span.{Span}
use Rattle.npp_bounds.specs.Spans.{AreSpans, basic}
use Rattle.npp_bounds.proofs.SpanLemmas.{all_usable, zero_below}

enough : (d c p least r : ℕ) → d * c + p ≤ d * (least + r) → least ≤ c → p ≤ r * d
enough d c p least r le cost = omega (arith, mul-le-mul_left d cost)

both : (n p r d e b : ℕ) → p ≤ r * d → e ≤ b * d → n * p + e ≤ (n * r + b) * d
both n p r d e b here rest = omega (arith, mul-le-mul_left n here)

-- a walk with no toll arc pays nothing
free_pays_nothing : (arcs : List NetArc) (t : TollVector) (walk : List ArcId) → IsUsableWalk false arcs walk → toll_paid arcs t walk ≡ 0
free_pays_nothing arcs t [] may = refl
free_pays_nothing arcs t (a ∷ walk) may =
    let none : toll_at arcs t a ≡ 0 = ap (λ b. cond b (slice_index t.numerators (toll_number arcs a)) 0) may.0 in
    omega (arith, sum_by-cons (toll_at arcs t) a walk, none, free_pays_nothing arcs t walk may.1)

-- what a cheapest walk pays is within the span
pays_at_most : (arcs : List NetArc) (t : TollVector) (k : Commodity) (s : Span) (walk : List ArcId)
    → IsSpan arcs k s → IsCheapest arcs t k.origin.0 k.destination.0 walk → toll_paid arcs t walk ≤ (s.free - s.zero) * t.denominator
pays_at_most arcs t k s walk is c =
    let f = is.free_least.attained in
    let nothing = free_pays_nothing arcs t f.0 f.1.usable in
    let below = c.least f.0 f.1.path in
    let cost = is.zero_least.least walk (record { path = c.leads; usable = all_usable arcs walk }) in
    let above = zero_below arcs k s is in
    let whole : s.free ≡ s.zero + (s.free - s.zero) = omega (arith, above) in
    let price_free : price arcs t f.0 ≡ t.denominator * (s.zero + (s.free - s.zero)) = rw (nothing, f.2) (omega (arith, ap (λ (n : ℕ). t.denominator * n) whole)) in
    enough t.denominator (walk_cost arcs walk) (toll_paid arcs t walk) s.zero (s.free - s.zero) (omega (arith, below, price_free)) cost

revenue_at_most : (arcs : List NetArc) (t : TollVector) (ks : List Commodity) (ss : List Span) (ws : List (List ArcId))
    → AreSpans arcs ks ss → AreCheapest arcs t ks ws → revenue arcs t ks ws ≤ basic ks ss * t.denominator
revenue_at_most arcs t [] ss ws spans cheapest = omega arith
revenue_at_most arcs t (k ∷ ks) [] ws spans cheapest = absurd spans
revenue_at_most arcs t (k ∷ ks) (s ∷ ss) [] spans cheapest = absurd cheapest
revenue_at_most arcs t (k ∷ ks) (s ∷ ss) (w ∷ ws) spans cheapest =
    let here = pays_at_most arcs t k s w spans.0 cheapest.0 in
    let rest = revenue_at_most arcs t ks ss ws spans.1 cheapest.1 in
    both k.demand (toll_paid arcs t w) (s.free - s.zero) t.denominator (revenue arcs t ks ws) (basic ks ss) here rest

-- the basic bound is an upper bound of the instance
pub basic_bounds : (net : Network) (ss : List Span) → AreSpans net.arcs net.commodities ss → IsUpperBound net (pos (basic net.commodities ss)) 1
basic_bounds net ss spans = record {
  positive = omega arith;
  above = λ t walks outcome.
      let most = revenue_at_most net.arcs t net.commodities ss walks spans outcome.cheapest in
      omega (arith, ints, most);
}
