-- What a shortest walk is.
use Rattle.std.specs.Prelude.{ℕ, ◌≤◌, Bool, List}
use Rattle.npp_net.specs.declared.types.ArcId.{ArcId}
use Rattle.npp_net.specs.declared.types.NetArc.{NetArc}
use Rattle.npp_net.specs.Walk.{RepeatsNoNode, walk_cost}
use Rattle.npp_net.specs.Distance.{Leads}

-- it leads from u to v, without toll arcs where they are left out; no such walk costs less; it comes to no node twice
pub record IsShortestWalk (arcs : List NetArc) (with_tolls : Bool) (u v : ℕ) (walk : List ArcId) : Type 0 where
  pub leads : Leads arcs with_tolls u v walk
  pub least : (other : List ArcId) → Leads arcs with_tolls u v other → walk_cost arcs walk ≤ walk_cost arcs other
  pub simple : RepeatsNoNode arcs u walk
