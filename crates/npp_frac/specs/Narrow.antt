-- The values of fractions of 32 and of 64 bits.
use Rattle.npp_frac.specs.Rational.{Rational}
use Rattle.npp_frac.specs.Value.{value_of_words}
use Rattle.npp_frac.specs.declared.frac32.Frac32.{Frac32}
use Rattle.npp_frac.specs.declared.frac64.Frac64.{Frac64}

unfoldable pub value_of_32 : Frac32 → Rational
value_of_32 f = record { num = f.num; den = f.den; positive = f.positive; reduced = f.reduced }

unfoldable pub value_of_64 : Frac64 → Rational
value_of_64 f = value_of_words f.pair
