-- A walk of a commodity that comes to no node twice can stand in a line: its arcs have numbers, there are some, and they are few.
use Rattle.std.proofs.Common.{◌≢◌, ℕ, ◌<◌, ◌≤◌, List, [], ◌∷◌, length, arith}
use Rattle.std.proofs.lemmas.List.Elements.{All-nil, All-cons}
use Rattle.npp_net.specs.declared.types.ArcId.{ArcId}
use Rattle.npp_net.specs.declared.types.NetArc.{NetArc}
use Rattle.npp_net.specs.declared.types.Commodity.{Commodity}
use Rattle.npp_net.specs.Network.{Network, IsNetwork, IsCommodity, arc_at}
use Rattle.npp_net.specs.Walk.{IsWalk, RepeatsNoNode}
use Rattle.npp_cover.proofs.SimpleWalks.{few_arcs}
use Rattle.npp_cert_text.specs.Form.{IsNumber, AreArcs}

-- a walk as it stands in a line
pub record IsWalkForm (walk : List ArcId) : Type 0 where
  pub arcs : AreArcs walk
  pub some : 0 < length walk
  pub few : length walk ≤ 2000

arc_numbers : (arcs : List NetArc) (u v : ℕ) (walk : List ArcId) → length arcs ≤ 5000 → IsWalk arcs u v walk → AreArcs walk
arc_numbers arcs u v [] few path = All-nil (λ (a : ArcId). IsNumber a.0)
arc_numbers arcs u v (a ∷ rest) few path =
    All-cons (λ (b : ArcId). IsNumber b.0) a rest (omega (arith, path.0, few)) (arc_numbers arcs (arc_at arcs a).head.0 v rest few path.2)

some_arc : (arcs : List NetArc) (u v : ℕ) (walk : List ArcId) → u ≢ v → IsWalk arcs u v walk → 0 < length walk
some_arc arcs u v [] apart path = absurd (apart path)
some_arc arcs u v (a ∷ rest) apart path = omega arith

pub walk_form : (net : Network) → IsNetwork net → (k : Commodity) → IsCommodity net.nodes k → (walk : List ArcId)
    → IsWalk net.arcs k.origin.0 k.destination.0 walk → RepeatsNoNode net.arcs k.origin.0 walk → IsWalkForm walk
walk_form net limits k ends walk path simple = record {
  arcs = arc_numbers net.arcs k.origin.0 k.destination.0 walk limits.arcs path;
  some = some_arc net.arcs k.origin.0 k.destination.0 walk ends.apart path;
  few = omega (arith, few_arcs net limits k.origin.0 k.destination.0 walk ends.origin path simple, limits.nodes);
}
