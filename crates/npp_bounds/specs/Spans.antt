-- The spans of an instance, and the basic bound.
use Rattle.std.specs.Prelude.{ℕ, ◌+◌, ◌-◌, ◌*◌, ◌<◌, List, [], ◌∷◌, length, take, slice_index_or, All}
use Rattle.npp_net.specs.declared.types.NetArc.{NetArc}
use Rattle.npp_net.specs.declared.types.Commodity.{Commodity}
use Rattle.npp_net.specs.declared.types.Span.{Span}
use Rattle.npp_net.specs.Network.{no_commodity}
use Rattle.npp_net.specs.Distance.{IsSpan, HasNoFreePath}
use Rattle.npp_bounds.specs.declared.refusal.BoundsRefusal.{BoundsRefusal}
use Rattle.npp_bounds.specs.declared.refusal.BoundsRefusal.TheVariants.{NoFreePath, Memory}

-- one span for each commodity, in order
abbrev pub AreSpans : List NetArc → List Commodity → List Span → Type 0
AreSpans arcs [] [] = Unit {0}
AreSpans arcs [] (s ∷ ss) = ⊥
AreSpans arcs (k ∷ ks) [] = ⊥
AreSpans arcs (k ∷ ks) (s ∷ ss) = IsSpan arcs k s × AreSpans arcs ks ss

-- the basic bound: the sum of demand times the difference of the two costs
abbrev pub basic : List Commodity → List Span → ℕ
basic [] ss = 0
basic (k ∷ ks) [] = 0
basic (k ∷ ks) (s ∷ ss) = k.demand * (s.free - s.zero) + basic ks ss

-- each of these commodities has a toll-free walk
abbrev pub AllHaveFreePaths : List NetArc → List Commodity → Type 0
AllHaveFreePaths arcs ks = All (λ k. HasNoFreePath arcs k → ⊥) ks

-- the first commodity that has no toll-free walk, or want of memory
abbrev pub IsBoundsRefusal : List NetArc → List Commodity → BoundsRefusal → Type 0
IsBoundsRefusal arcs ks (NoFreePath i) =
    (i < length ks) × HasNoFreePath arcs (slice_index_or ks i no_commodity) × AllHaveFreePaths arcs (take i ks)
IsBoundsRefusal arcs ks Memory = Unit {0}
