-- The multipliers above 0 of a vector, by the names of their rows.
use Rattle.std.specs.Prelude.{List, [], ◌∷◌, ◌++◌, if◌then◌else◌}
use Rattle.npp_frac.specs.Rational.{Rational, zero_ℚ, is_less}
use Rattle.npp_rows.specs.declared.names.RowName.{RowName}
use Rattle.npp_rows.specs.declared.names.Multiplier.{Multiplier}

-- of a vector that has a number for each row those above 0, each with the name of its row, in row order
abbrev pub positive_multipliers : List RowName → List Rational → List (Multiplier Rational)
positive_multipliers [] ys = []
positive_multipliers (r ∷ rows) [] = []
positive_multipliers (r ∷ rows) (y ∷ ys) = (if is_less zero_ℚ y then record { row = r; value = y } ∷ [] else []) ++ positive_multipliers rows ys
