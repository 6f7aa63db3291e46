-- Tolls that the leader may set.
use Rattle.std.specs.Prelude.{◌≡◌, ℕ, ◌<◌, pos, List, length, Some}
use Rattle.npp_frac.specs.Rational.{Rational, zero_ℚ, whole, ◌≤ℚ◌}
use Rattle.npp_net.specs.Network.{Network, toll_count, ceiling_of}
use Rattle.npp_lp.specs.Programs.{at}

-- one for each toll arc, none below 0, and none above its ceiling
pub record AreAllowed (net : Network) (tolls : List Rational) : Type 0 where
  pub size : length tolls ≡ toll_count net.arcs
  pub not_negative : (a : ℕ) → a < length tolls → zero_ℚ ≤ℚ at tolls a
  pub ceilings : (a u : ℕ) → a < length tolls → ceiling_of net.arcs a ≡ Some u → at tolls a ≤ℚ whole (pos u)
