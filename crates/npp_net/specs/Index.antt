-- The numbers of toll arcs, both ways.
use Rattle.std.specs.Prelude.{◌≡◌, ℕ, ◌<◌, true, List, length, slice_index_or, Option, Some, None, if◌then◌else◌}
use Rattle.npp_net.specs.declared.types.ArcId.{ArcId}
use Rattle.npp_net.specs.declared.types.TollId.{TollId}
use Rattle.npp_net.specs.declared.types.NetArc.{NetArc}
use Rattle.npp_net.specs.Network.{arc_at, toll_count, toll_number}

-- the toll number of an arc, or None where the arc is toll-free
abbrev pub toll_of : List NetArc → ArcId → Option TollId
toll_of arcs a = if (arc_at arcs a).toll then Some (record { 0 = toll_number arcs a }) else None

-- the place of each toll arc in this list is its toll number
pub record ListsTolls (arcs : List NetArc) (found : List ArcId) : Type 0 where
  pub all : length found ≡ toll_count arcs
  pub in_range : (t : ℕ) (d : ArcId) → t < length found → (slice_index_or found t d).0 < length arcs
  pub tolls : (t : ℕ) (d : ArcId) → t < length found → (arc_at arcs (slice_index_or found t d)).toll ≡ true
  pub numbers : (t : ℕ) (d : ArcId) → t < length found → toll_number arcs (slice_index_or found t d) ≡ t

-- at the place of each arc stands its toll number
pub record NumbersTolls (arcs : List NetArc) (numbers : List (Option TollId)) : Type 0 where
  pub size : length numbers ≡ length arcs
  pub each : (k : ℕ) → k < length numbers → slice_index_or numbers k None ≡ toll_of arcs (record { 0 = k })
