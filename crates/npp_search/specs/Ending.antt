-- How the answer of a search is put together where it ends.
use Rattle.std.specs.Prelude.{◌≡◌, ◌↔◌, Option, Some, None}
use Rattle.npp_frac.specs.Rational.{Rational}
use Rattle.npp_tree.specs.declared.outcome.Status.{Status}
use Rattle.npp_tree.specs.declared.outcome.Status.TheVariants.{Optimal, Budget}
use Rattle.npp_leaf.specs.Found.{BestTolls}

-- the status by the two values and by whether a node waits
pub record IsStatusBy (lower upper : Rational) (Waits : Type 0) (s : Status) : Type 0 where
  pub optimal : (s ≡ Optimal) ↔ (lower ≡ upper)
  pub budget : (s ≡ Budget) ↔ ((lower ≡ upper → ⊥) × Waits)

-- what was found better, and else what was given
abbrev pub found_or : BestTolls → Option BestTolls → BestTolls
found_or given None = given
found_or given (Some b) = b
