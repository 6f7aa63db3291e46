-- What the work of the code stands for.
use Rattle.std.specs.Prelude.{map}
use Rattle.npp_frac.specs.Rational.{Rational}
use Rattle.npp_inverse.specs.declared.quiet.Work.{Work}
use Rattle.npp_inverse.specs.declared.quiet.Work.TheVariants as work
use Rattle.npp_inverse.specs.Work.{Ending, AtPoint, WithoutPoint, AtMark}

abbrev pub ending_of : {N : Type 0} → (N → Rational) → Work N → Ending
ending_of value (work.Solved x y v) = AtPoint (map value x.items) (map value y.items) (value v)
ending_of value (work.NoPoint y) = WithoutPoint (map value y.items)
ending_of value (work.Loud k) = AtMark k
