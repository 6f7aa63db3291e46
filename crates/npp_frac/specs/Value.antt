-- The values of the reduced pairs of the program, in long numbers and in words.
use Rattle.npp_frac.specs.Rational.{Rational}
use Rattle.npp_frac.specs.declared.reduced.Reduced.{Reduced}
use Rattle.npp_frac.specs.declared.reduced_words.ReducedWords.{ReducedWords}

abbrev pub value_of : Reduced → Rational
value_of f = record { num = f.num; den = f.den; positive = f.positive; reduced = f.reduced }

abbrev pub value_of_words : ReducedWords → Rational
value_of_words f = record { num = f.num; den = f.den; positive = f.positive; reduced = f.reduced }
