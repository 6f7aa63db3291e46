-- Walks of the least cost where all tolls are zero.
use Rattle.std.specs.Prelude.{◌≡◌, true, List, [], ◌∷◌, map}
use Rattle.npp_net.specs.declared.types.ArcId.{ArcId}
use Rattle.npp_net.specs.declared.types.NetArc.{NetArc}
use Rattle.npp_net.specs.declared.types.Commodity.{Commodity}
use Rattle.npp_net.specs.declared.types.Span.{Span}
use Rattle.npp_net.specs.declared.types.Walk.{Walk}
use Rattle.npp_net.specs.Walk.{walk_cost}
use Rattle.npp_short.specs.Shortest.{IsShortestWalk}

-- the arcs of each walk
abbrev pub arc_lists : List Walk → List (List ArcId)
arc_lists walks = map (λ w. w.arcs.items) walks

-- a shortest walk of the commodity, toll arcs at zero toll, whose cost is the span's `zero`
pub record IsLeastWalk (arcs : List NetArc) (k : Commodity) (s : Span) (walk : List ArcId) : Type 0 where
  pub shortest : IsShortestWalk arcs true k.origin.0 k.destination.0 walk
  pub cost : walk_cost arcs walk ≡ s.zero

-- one such walk for each commodity, in order
abbrev pub AreLeastWalks : List NetArc → List Commodity → List Span → List (List ArcId) → Type 0
AreLeastWalks arcs [] [] [] = Unit {0}
AreLeastWalks arcs (k ∷ ks) (s ∷ ss) (w ∷ ws) = IsLeastWalk arcs k s w × AreLeastWalks arcs ks ss ws
AreLeastWalks arcs _ _ _ = ⊥
