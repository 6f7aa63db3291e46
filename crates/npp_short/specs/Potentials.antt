-- What the potentials of a destination are.
use Rattle.std.specs.Prelude.{◌≡◌, ℕ, ◌<◌, Bool, List, length, MatchOption, Option}
use Rattle.npp_net.specs.declared.types.NetArc.{NetArc}
use Rattle.npp_net.specs.Distance.{IsDistance, IsUnreachable}
use Rattle.npp_short.specs.declared.reach.Reach.{Reach}
use Rattle.npp_short.specs.Reach.{reach_at, cost_at, IsNearest}

-- one entry for each node: the reach of its nearest walks to the destination, or None where it has no walk there
pub record ArePotentials (arcs : List NetArc) (with_tolls : Bool) (nodes destination : ℕ) (table : List (Option Reach)) : Type 0 where
  pub size : length table ≡ nodes
  pub each : (v : ℕ) → v < nodes
      → MatchOption (reach_at table v) (IsUnreachable arcs with_tolls v destination) (IsNearest arcs with_tolls v destination)

-- one entry for each node: the least cost of a walk from it to the destination, or None where it has no walk there
pub record AreDistances (arcs : List NetArc) (with_tolls : Bool) (nodes destination : ℕ) (table : List (Option Reach)) : Type 0 where
  pub size : length table ≡ nodes
  pub each : (v : ℕ) → v < nodes → IsDistance arcs with_tolls v destination (cost_at table v)
