-- The fractions of an outcome have 128 bits.
use Rattle.std.specs.Prelude.{List, [], All}
use Rattle.npp_frac.specs.Fits.{FitsBelow, limit_of}
use Rattle.npp_frac.specs.Rational.{Rational}
use Rattle.npp_rows.specs.declared.names.Multiplier.{Multiplier}
use Rattle.npp_tree.specs.declared.node.Evidence.{Evidence}
use Rattle.npp_tree.specs.declared.node.Evidence.TheVariants.{Unopened, Basic, Dual, Farkas, Inverse, NoInverse}
use Rattle.npp_tree.specs.Outcome.{OutcomeValue}

-- the multipliers that stand with evidence
abbrev pub multipliers_in : Evidence Rational → List (Multiplier Rational)
multipliers_in Unopened = []
multipliers_in (Basic mark) = []
multipliers_in (Dual ys) = ys
multipliers_in (Farkas ys) = ys
multipliers_in (Inverse ys) = ys
multipliers_in (NoInverse ys) = ys

-- the value of each multiplier has 128 bits
abbrev pub HaveValues : List (Multiplier Rational) → Type 0
HaveValues ys = All (λ y. FitsBelow (limit_of 128) y.value) ys

-- both values, each toll, each payment and each multiplier have 128 bits
pub record HasNumbers (o : OutcomeValue) : Type 0 where
  pub lower : FitsBelow (limit_of 128) o.lower
  pub upper : FitsBelow (limit_of 128) o.upper
  pub tolls : All (FitsBelow (limit_of 128)) o.tolls
  pub paid : All (λ p. FitsBelow (limit_of 128) p.paid) o.paths
  pub multipliers : All (λ e. HaveValues (multipliers_in e.node.evidence)) o.entries
