-- How a tableau lies in memory.
use Rattle.std.specs.Prelude.{◌≡◌, ◌+◌, List, length, All}
use Rattle.npp_frac.specs.Rational.{Rational}
use Rattle.npp_simplex.specs.declared.shape.Shape.{Shape}
use Rattle.npp_simplex.specs.Tableau.{Tableau}

-- the table with these rows
abbrev pub tableau_of : Shape → List (List Rational) → Tableau
tableau_of s lines = record { rows = s.rows; columns = s.columns; cells = lines }

-- as many rows as a table of this size has, each with as many numbers as it has columns
pub record IsGrid (s : Shape) (lines : List (List Rational)) : Type 0 where
  pub height : length lines ≡ s.rows + 2
  pub width : All (λ line. length line ≡ s.columns + s.rows + 2) lines
