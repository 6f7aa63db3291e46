-- The value of a fraction of 128 bits.
use Rattle.npp_frac.specs.Rational.{Rational}
use Rattle.npp_frac.specs.Value.{value_of}
use Rattle.npp_frac.specs.declared.frac128.Frac128.{Frac128}

unfoldable pub value_of_wide : Frac128 → Rational
value_of_wide f = value_of f.pair
