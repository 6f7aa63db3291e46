use Rattle.std.proofs.Common.{◌≡◌, ◌++◌, pos, map, take}
use Rattle.npp_frac.specs.Rational.{whole}
use Rattle.npp_lp.specs.Meaning.{terms_of}
use Rattle.npp_cover.specs.PathValue.{path_value}
use Rattle.npp_cover.specs.Replaces.{path_at}
use Rattle.npp_rows.specs.Named.{numbers_from}
use Rattle.npp_rows.proofs.entries.push_costs.Given as goal

abbrev pub invariant-loop-i : goal.invariant-loop-i
invariant-loop-i g l = terms_of g.N.Exact.rational l.entries.items ≡ terms_of g.N.Exact.rational l.initial.entries.items ++ numbers_from l.base (λ p. whole (pos (path_at (map path_value l.paths) p).cost)) (take l.i l.part)
