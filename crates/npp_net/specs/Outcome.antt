-- An outcome: tolls, and a cheapest walk for each commodity. What it earns, and what bounds all that can be earned.
-- After Labbé, Marcotte and Savard (1998), in the optimistic form: any of the cheapest walks may be taken.
use Rattle.std.specs.Prelude.{◌≡◌, ℕ, ◌+◌, ◌*◌, ◌≤◌, ℤ, pos, ◌≤ℤ◌, ◌*ℤ◌, List, [], ◌∷◌}
use Rattle.npp_net.specs.declared.types.ArcId.{ArcId}
use Rattle.npp_net.specs.declared.types.NetArc.{NetArc}
use Rattle.npp_net.specs.declared.types.Commodity.{Commodity}
use Rattle.npp_net.specs.Network.{Network}
use Rattle.npp_net.specs.Toll.{TollVector, IsTollVector, KeepsCeilings, IsCheapest, toll_paid}

-- one cheapest walk for each commodity, in order
abbrev pub AreCheapest : List NetArc → TollVector → List Commodity → List (List ArcId) → Type 0
AreCheapest arcs t [] [] = Unit {0}
AreCheapest arcs t [] (w ∷ ws) = ⊥
AreCheapest arcs t (k ∷ ks) [] = ⊥
AreCheapest arcs t (k ∷ ks) (w ∷ ws) = IsCheapest arcs t k.origin.0 k.destination.0 w × AreCheapest arcs t ks ws

-- tolls that keep the ceilings, with a cheapest walk for each commodity under them
pub record IsOutcome (net : Network) (t : TollVector) (walks : List (List ArcId)) : Type 0 where
  pub vector : IsTollVector net.arcs t
  pub ceilings : KeepsCeilings net.arcs t
  pub cheapest : AreCheapest net.arcs t net.commodities walks

-- the sum of demand times toll paid, over the denominator of the tolls
abbrev pub revenue : List NetArc → TollVector → List Commodity → List (List ArcId) → ℕ
revenue arcs t [] walks = 0
revenue arcs t (k ∷ ks) [] = 0
revenue arcs t (k ∷ ks) (w ∷ ws) = k.demand * toll_paid arcs t w + revenue arcs t ks ws

-- no outcome, of whatever common denominator, earns more than over / under
pub record IsUpperBound (net : Network) (over : ℤ) (under : ℕ) : Type 0 where
  pub positive : 1 ≤ under
  pub above : (t : TollVector) (walks : List (List ArcId)) → IsOutcome net t walks
      → pos (revenue net.arcs t net.commodities walks * under) ≤ℤ (over *ℤ pos t.denominator)

-- these tolls and walks are an outcome, and its revenue is exactly over / under
pub record IsEarned (net : Network) (t : TollVector) (walks : List (List ArcId)) (over : ℤ) (under : ℕ) : Type 0 where
  pub positive : 1 ≤ under
  pub outcome : IsOutcome net t walks
  pub value : pos (revenue net.arcs t net.commodities walks * under) ≡ over *ℤ pos t.denominator
