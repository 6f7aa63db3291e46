-- The tolls with which a search starts: the best under which each commodity's cheapest path of all is its choice.
use Rattle.std.specs.Prelude.{ℕ, List, length, replicate}
use Rattle.npp_frac.specs.Rational.{Rational, zero_ℚ}
use Rattle.npp_rows.specs.PathModel.{PathModel}
use Rattle.npp_inverse.specs.Work.{Ending, AtPoint, WithoutPoint, AtMark, inverse_work}

-- path 0 of each commodity
abbrev pub zero_choice : PathModel → List ℕ
zero_choice m = replicate (length m.covers) 0

-- zero on each toll arc
abbrev pub no_tolls : PathModel → List Rational
no_tolls m = replicate (length m.caps) zero_ℚ

-- the tolls of a point, where the work on a program ends with one, and else zero tolls
abbrev pub tolls_found : PathModel → Ending → List Rational
tolls_found m (AtPoint x y v) = x
tolls_found m (WithoutPoint y) = no_tolls m
tolls_found m (AtMark k) = no_tolls m

-- the tolls of the zero choice where its inverse program is quiet and has a point, and else zero tolls
unfoldable pub start_tolls : ℕ → PathModel → List Rational
start_tolls limit m = tolls_found m (inverse_work limit m (zero_choice m))
