-- What a run works in: the tableau and the basis of its state, and room for the lists of a pivot.
use Rattle.std.specs.Prelude.{◌≡◌, ◌≢◌, ℕ, ◌+◌, ◌<◌, List, length, ⊤}
use Rattle.npp_frac.specs.Rational.{zero_ℚ}
use Rattle.npp_simplex.specs.declared.room.Room.{Room}
use Rattle.npp_simplex.specs.declared.stage.Stage.{Stage}
use Rattle.npp_simplex.specs.declared.stage.Stage.TheVariants.{Entry, PhaseOne, PhaseTwo}
use Rattle.npp_simplex.specs.Tableau.{Tableau, cell, extra_column}

-- the lists are as long as a program of m rows and n columns needs
pub record IsRoom {N : Type 0} (m n : ℕ) (r : Room N) : Type 0 where
  pub candidates : length r.candidates.items ≡ m
  pub numbers : length r.numbers.items ≡ n + m + 2
  pub divided : length r.divided ≡ n + m + 2
  pub columns : length r.columns.items ≡ n + m + 2

-- the goal row of phase one and the extra column hold 0
pub record HasNoExtra (t : Tableau) : Type 0 where
  pub row : (j : ℕ) → cell t t.rows j ≡ zero_ℚ
  pub column : (i : ℕ) → cell t i (extra_column t) ≡ zero_ℚ

-- what a stage needs of its table: that the extra column can enter in each row of the program, and that what phase two
-- has not holds 0
abbrev pub IsReadyFor : Stage → Tableau → Type 0
IsReadyFor Entry t = (i : ℕ) → i < t.rows → cell t i (extra_column t) ≢ zero_ℚ
IsReadyFor PhaseOne t = ⊤
IsReadyFor PhaseTwo t = HasNoExtra t

-- a stage with its tableau, a basic column for each row of the program, and room
pub record IsStanding {N : Type 0} (s : Stage) (t : Tableau) (b : List ℕ) (r : Room N) : Type 0 where
  pub ready : IsReadyFor s t
  pub basis : length b ≡ t.rows
  pub room : IsRoom t.rows t.columns r
