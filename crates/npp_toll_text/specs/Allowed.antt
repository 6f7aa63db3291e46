-- Which tolls may be set on the toll arcs of a network.
use Rattle.std.specs.Prelude.{◌≡◌, ℕ, ◌<◌, pos, List, length, slice_index_or, Some}
use Rattle.npp_frac.specs.Rational.{Rational, zero_ℚ, whole, ◌≤ℚ◌}
use Rattle.npp_frac.specs.Fits.{FitsBelow, limit_of}
use Rattle.npp_net.specs.declared.types.NetArc.{NetArc}
use Rattle.npp_net.specs.Network.{ceiling_of}

-- a toll of toll arc a: its two numbers are below 2 ^ 127 in size, it is not negative, and it is not above the ceiling
pub record IsToll (arcs : List NetArc) (a : ℕ) (toll : Rational) : Type 0 where
  pub fits : FitsBelow (limit_of 128) toll
  pub not_negative : zero_ℚ ≤ℚ toll
  pub ceiling : (u : ℕ) → ceiling_of arcs a ≡ Some u → toll ≤ℚ whole (pos u)

-- tolls of the first toll arcs, in order
abbrev pub AreTolls : List NetArc → List Rational → Type 0
AreTolls arcs tolls = (a : ℕ) → a < length tolls → IsToll arcs a (slice_index_or tolls a zero_ℚ)
