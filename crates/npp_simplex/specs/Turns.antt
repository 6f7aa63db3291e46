-- What comes of a turn of a run.
use Rattle.std.specs.Prelude.{ℕ, ◌+◌, Option, Some, None}
use Rattle.npp_frac.specs.Rational.{Rational}
use Rattle.npp_simplex.specs.declared.run.Turn.{Turn}
use Rattle.npp_simplex.specs.declared.run.Turn.TheVariants.{GoesOn, Ends}
use Rattle.npp_simplex.specs.Tableau.{Tableau, pivoted}
use Rattle.npp_simplex.specs.Run.{Outcome, run_from}
use Rattle.npp_simplex.specs.Meaning.{outcome_of}

-- the tableau after the pivot on column c, where a row leaves
abbrev pub pivoted_in : Tableau → ℕ → Option ℕ → Tableau
pivoted_in t c (Some r) = pivoted t r c
pivoted_in t c None = t

-- how a run ends after a turn, before which so many pivots were made, with so many left after it
abbrev pub goes_on : {N : Type 0} → (N → Rational) → Option ℕ → ℕ → ℕ → Turn N → Outcome
goes_on value limit left made (GoesOn y) = run_from limit left (made + 1) y
goes_on value limit left made (Ends a) = outcome_of value a
