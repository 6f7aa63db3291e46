use Rattle.std.proofs.Common.{◌≡◌, ◌==◌, ◌++◌, pos, map, take, if◌then◌else◌}
use Rattle.std.specs.Int.{bit_at}
use Rattle.npp_frac.specs.Rational.{whole, zero_ℚ}
use Rattle.npp_lp.specs.Meaning.{terms_of}
use Rattle.npp_cover.specs.PathValue.{path_value}
use Rattle.npp_cover.specs.Replaces.{path_at}
use Rattle.npp_rows.specs.Named.{numbers_from}
use Rattle.npp_rows.proofs.entries.push_caps.Given as goal

abbrev pub invariant-loop-i : goal.invariant-loop-i
invariant-loop-i g l = terms_of g.N.Exact.rational l.entries.items ≡ terms_of g.N.Exact.rational l.initial.entries.items ++ numbers_from l.base (λ p. if bit_at (path_at (map path_value l.paths) p).tolls l.toll.0 == 1 then whole (pos l.cap) else zero_ℚ) (take l.i l.part)
