-- Tolls as rational numbers, and over a common denominator.
use Rattle.std.specs.Prelude.{◌≡◌, ℕ, ◌<◌, List, length}
use Rattle.npp_frac.specs.Rational.{Rational}
use Rattle.npp_net.specs.Toll.{TollVector}
use Rattle.npp_lp.specs.Programs.{at}
use Rattle.npp_rows.specs.Piece.{toll_value}

-- a toll vector has these tolls, over a common denominator
pub record HasTolls (T : List Rational) (t : TollVector) : Type 0 where
  pub positive : 0 < t.denominator
  pub size : length t.numerators ≡ length T
  pub each : (a : ℕ) → a < length T → at T a ≡ toll_value t a
