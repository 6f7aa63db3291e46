-- Tolls, and which walks are cheapest under them.
use Rattle.std.specs.Prelude.{◌≡◌, ℕ, ◌+◌, ◌*◌, ◌<◌, ◌≤◌, List, length, sum_by, slice_index, Some, if◌then◌else◌}
use Rattle.npp_net.specs.declared.types.ArcId.{ArcId}
use Rattle.npp_net.specs.declared.types.NetArc.{NetArc}
use Rattle.npp_net.specs.Network.{arc_at, toll_number, toll_count, ceiling_of}
use Rattle.npp_net.specs.Walk.{IsWalk, walk_cost}

-- the toll of toll arc a is numerators[a] / denominator
pub record TollVector : Type 0 where
  pub denominator : ℕ
  pub numerators : List ℕ

-- one toll for each toll arc, over one common denominator
pub record IsTollVector (arcs : List NetArc) (t : TollVector) : Type 0 where
  pub positive : 1 ≤ t.denominator
  pub count : length t.numerators ≡ toll_count arcs

-- no toll is above its ceiling
abbrev pub KeepsCeilings : List NetArc → TollVector → Type 0
KeepsCeilings arcs t = (a u : ℕ) → a < toll_count arcs → ceiling_of arcs a ≡ Some u → slice_index t.numerators a ≤ u * t.denominator

-- what one use of an arc pays, over the denominator
abbrev pub toll_at : List NetArc → TollVector → ArcId → ℕ
toll_at arcs t a = if (arc_at arcs a).toll then slice_index t.numerators (toll_number arcs a) else 0

-- what a walk pays, each arc as often as it stands, over the denominator
abbrev pub toll_paid : List NetArc → TollVector → List ArcId → ℕ
toll_paid arcs t walk = sum_by (toll_at arcs t) walk

-- cost plus toll, over the denominator
abbrev pub price : List NetArc → TollVector → List ArcId → ℕ
price arcs t walk = t.denominator * walk_cost arcs walk + toll_paid arcs t walk

-- it leads from u to v, and no walk that does has a lower price, of whatever length
pub record IsCheapest (arcs : List NetArc) (t : TollVector) (u v : ℕ) (walk : List ArcId) : Type 0 where
  pub leads : IsWalk arcs u v walk
  pub least : (other : List ArcId) → IsWalk arcs u v other → price arcs t walk ≤ price arcs t other
