-- A program in the making.
use Rattle.std.specs.Prelude.{ℕ, ◌+◌, ◌≤◌, ◌<◌, ◌^◌, List, [], ◌∷◌, ◌++◌, length, All, if◌then◌else◌}
use Rattle.npp_frac.specs.Rational.{Rational}
use Rattle.npp_frac.specs.Sign.{is_zero}
use Rattle.npp_lp.specs.declared.program.Entry.{Entry}
use Rattle.npp_lp.specs.Programs.{Term, AreTerms}
use Rattle.npp_lp.specs.ProgramOver.{RowOver, ProgramOver}
use Rattle.npp_lp.specs.Meaning.{terms_of, linear_program}

-- the rows so far, and the row that is being written: its entries, and the least column that may come next
pub record Started (N : Type 0) : Type 0 where
  pub columns : ℕ
  pub rows : List (RowOver N)
  pub entries : List (Entry N)
  pub next : ℕ

-- no row yet
abbrev pub started : {N : Type 0} → ℕ → Started N
started columns = record { columns = columns; rows = []; entries = []; next = 0 }

-- the entry of a column, and none where the value is 0
abbrev pub entry_at : {N : Type 0} → (N → Rational) → ℕ → N → List (Entry N)
entry_at value column x = if is_zero (value x) then [] else record { column = column; value = x } ∷ []

-- the term of a column, and none where the value is 0
abbrev pub term_at : ℕ → Rational → List Term
term_at column q = if is_zero q then [] else record { column = column; value = q } ∷ []

-- with one more column of the row
abbrev pub with_entry : {N : Type 0} → (N → Rational) → Started N → ℕ → N → Started N
with_entry value s column x = record { columns = s.columns; rows = s.rows; entries = s.entries ++ entry_at value column x; next = column + 1 }

-- with the row ended by its right side
abbrev pub with_row : {N : Type 0} → Started N → N → Started N
with_row s right = record { columns = s.columns; rows = s.rows ++ record { entries = s.entries; right = right } ∷ []; entries = []; next = 0 }

-- the program of the rows so far
abbrev pub program_of : {N : Type 0} → Started N → List N → ProgramOver N
program_of s goal = record { columns = s.columns; rows = s.rows; goal = goal }

-- the form of a program in the making: that of a program, but for the goal, and the row that is being written is one over
-- the columns so far
pub record IsStarted {N : Type 0} (value : N → Rational) (s : Started N) : Type 0 where
  pub rows : All (λ r. AreTerms s.columns r.terms) (linear_program value (program_of s [])).rows
  pub entries : AreTerms s.next (terms_of value s.entries)
  pub within : s.next ≤ s.columns
  pub numbered : s.columns + length s.rows < 2 ^ 31
