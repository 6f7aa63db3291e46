-- Which arcs leave a node, and which enter it.
use Rattle.std.specs.Prelude.{◌≡◌, ℕ, zero, suc, ◌<◌, List, [], ◌++◌, ◌∷◌, ◌==◌, if◌then◌else◌, length, slice_index_or, Vec}
use Rattle.std.specs.declared.alloc.Global.{Global}
use Rattle.npp_net.specs.declared.types.ArcId.{ArcId}
use Rattle.npp_net.specs.declared.types.NetArc.{NetArc}
use Rattle.npp_net.specs.declared.ends.End.{End}
use Rattle.npp_net.specs.declared.ends.End.TheVariants.{Tail, Head}
use Rattle.npp_net.specs.Network.{arc_at}

-- the node at one end of an arc
abbrev pub end_of : End → NetArc → ℕ
end_of Tail x = x.tail.0
end_of Head x = x.head.0

-- of the first n arcs those with this end at the node, in order
abbrev pub arcs_at : End → List NetArc → ℕ → ℕ → List ArcId
arcs_at end arcs v zero = []
arcs_at end arcs v (suc n) =
    arcs_at end arcs v n ++ (if end_of end (arc_at arcs (record { 0 = n })) == v then record { 0 = n } ∷ [] else [])

-- the arcs that begin at a node, in order
abbrev pub leaving_arcs : List NetArc → ℕ → List ArcId
leaving_arcs arcs v = arcs_at Tail arcs v (length arcs)

-- the arcs that end at a node, in order
abbrev pub entering_arcs : List NetArc → ℕ → List ArcId
entering_arcs arcs v = arcs_at Head arcs v (length arcs)

-- one list for each node: of the first n arcs those with this end there
pub record AreArcsAt (end : End) (arcs : List NetArc) (n nodes : ℕ) (lists : List (Vec ArcId Global)) : Type 0 where
  pub size : length lists ≡ nodes
  pub each : (v : ℕ) (d : Vec ArcId Global) → v < nodes → (slice_index_or lists v d).items ≡ arcs_at end arcs v n
