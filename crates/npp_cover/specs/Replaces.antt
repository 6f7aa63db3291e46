-- What a cover is, and what it is for: its paths stand for all walks of a commodity, whatever the tolls are.
use Rattle.std.specs.Prelude.{◌≡◌, ℕ, zero, suc, ◌+◌, ◌*◌, ◌<◌, ◌≤◌, List, [], length, slice_index, slice_index_or, All}
use Rattle.std.specs.Int.{bit_at}
use Rattle.npp_net.specs.declared.types.ArcId.{ArcId}
use Rattle.npp_net.specs.declared.types.NetArc.{NetArc}
use Rattle.npp_net.specs.declared.types.Commodity.{Commodity}
use Rattle.npp_net.specs.declared.types.Span.{Span}
use Rattle.npp_net.specs.Network.{toll_count}
use Rattle.npp_net.specs.Walk.{IsWalk, walk_cost, walk_tolls}
use Rattle.npp_net.specs.Toll.{TollVector, IsTollVector, IsCheapest, toll_paid}
use Rattle.npp_net.specs.TollSets.{Has, IsTollSetOf}
use Rattle.npp_cover.specs.declared.label.Label.{Label}
use Rattle.npp_cover.specs.Closed.{AreClosed, IsFreeWalk}
use Rattle.npp_cover.specs.Paths.{PathValue, ArePathsOf}

-- what a cover is: its labels, its paths in order, and the cost of a toll-free walk
pub record CoverValue : Type 0 where
  pub labels : List Label
  pub paths : List PathValue
  pub free : ℕ

-- the sum of f at each number below n
abbrev pub sum_below : (ℕ → ℕ) → ℕ → ℕ
sum_below f zero = 0
sum_below f (suc n) = sum_below f n + f n

-- the sum of the tolls of a set, each once, over the denominator
abbrev pub set_toll : TollVector → ℕ → ℕ
set_toll t s = sum_below (λ a. bit_at s a * slice_index t.numerators a) (length t.numerators)

-- its walk leads from the origin to the destination at its cost, uses each toll of its set once and no other, and so pays
-- the sum over the set. In the set are only numbers of toll arcs
pub record IsPath (arcs : List NetArc) (k : Commodity) (p : PathValue) : Type 0 where
  pub leads : IsWalk arcs k.origin.0 k.destination.0 p.arcs
  pub costs : walk_cost arcs p.arcs ≡ p.cost
  pub uses : IsTollSetOf arcs p.arcs p.tolls
  pub once : (a : ℕ) → walk_tolls arcs p.arcs a ≤ 1
  pub within : (a : ℕ) → Has p.tolls a → a < toll_count arcs
  pub pays : (t : TollVector) → toll_paid arcs t p.arcs ≡ set_toll t p.tolls

-- the path is as cheap as the walk, and pays the same toll
pub record Replaces (arcs : List NetArc) (k : Commodity) (t : TollVector) (walk : List ArcId) (p : PathValue) : Type 0 where
  pub cheapest : IsCheapest arcs t k.origin.0 k.destination.0 p.arcs
  pub pays : toll_paid arcs t p.arcs ≡ toll_paid arcs t walk

-- what is read past the end of a list of paths
abbrev pub no_path : PathValue
no_path = record { tolls = 0; cost = 0; arcs = [] }

-- the path of this number
abbrev pub path_at : List PathValue → ℕ → PathValue
path_at paths q = slice_index_or paths q no_path

-- some path of the list is such
abbrev pub SomePath : List PathValue → (PathValue → Type 0) → Type 0
SomePath paths P = (q : ℕ) × (q < length paths) × P (path_at paths q)

-- the path costs no more than the walk, and uses each toll no more often
pub record IsNoWorse (arcs : List NetArc) (walk : List ArcId) (p : PathValue) : Type 0 where
  pub cost : walk_cost arcs p.arcs ≤ walk_cost arcs walk
  pub tolls : (a : ℕ) → walk_tolls arcs p.arcs a ≤ walk_tolls arcs walk a

-- for each walk of the commodity, cheapest or not, some path is no worse; and under any tolls, with ceilings or not, for each
-- walk that is cheapest some path is cheapest too and pays the same
pub record StandForWalks (arcs : List NetArc) (k : Commodity) (paths : List PathValue) : Type 0 where
  pub no_worse : (walk : List ArcId) → IsWalk arcs k.origin.0 k.destination.0 walk → SomePath paths (IsNoWorse arcs walk)
  pub replaces : (t : TollVector) (walk : List ArcId) → IsTollVector arcs t → IsCheapest arcs t k.origin.0 k.destination.0 walk
      → SomePath paths (Replaces arcs k t walk)

-- closed labels; their paths in order, and last a toll-free walk of least cost; each path but the last costs less than that,
-- and none less than the least cost of all; and together the paths stand for all walks
pub record IsCoverOf (arcs : List NetArc) (k : Commodity) (span : Span) (c : CoverValue) : Type 0 where
  pub free : c.free ≡ span.free
  pub closed : AreClosed arcs k span c.labels
  pub made : (walk : List ArcId) × IsFreeWalk arcs k span.free walk × ArePathsOf c.labels k.destination.0 span.free walk c.paths
  pub each : All (IsPath arcs k) c.paths
  pub least : All (λ p. span.zero ≤ p.cost) c.paths
  pub below : (q : ℕ) → q + 1 < length c.paths → (path_at c.paths q).cost < span.free
  pub stand : StandForWalks arcs k c.paths
