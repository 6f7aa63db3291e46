-- The run of the lexicographic simplex on a program, and how it ends.
use Rattle.std.specs.Prelude.{ℕ, zero, suc, ◌+◌, List, [], ◌∷◌, length, Bool, nat_eq, nat_lt, slice_index, slice_set, Option, Some, None, if◌then◌else◌}
use Rattle.std.specs.List.{range_with_len, list_any}
use Rattle.npp_frac.specs.Rational.{Rational, zero_ℚ, one_ℚ, negative, is_less}
use Rattle.npp_frac.specs.Sums.{unit}
use Rattle.npp_lp.specs.Programs.{LinearProgram, at, row_of}
use Rattle.npp_lp.specs.Duals.{coefficient}
use Rattle.npp_simplex.specs.declared.place.Place.{Place}
use Rattle.npp_simplex.specs.declared.stage.Stage.{Stage}
use Rattle.npp_simplex.specs.declared.stage.Stage.TheVariants.{Entry, PhaseOne, PhaseTwo}
use Rattle.npp_simplex.specs.Tableau.{Tableau, table, extra_column, pivoted, without_extra}
use Rattle.npp_simplex.specs.Ratio.{entering, candidates, leaving}
use Rattle.npp_simplex.specs.Places.{first_stop}
use Rattle.npp_simplex.specs.Vectors.{point, multipliers, value, ray}

-- ---- the first tableau

-- phase one stands where a right side is negative
abbrev pub has_phase_one : LinearProgram → Bool
has_phase_one p = list_any (λ r. is_less r.right zero_ℚ) p.rows

-- the entry of the extra column in each row, and in the goal row of phase one, whose goal is the negative of the extra variable
abbrev pub extra_entry : LinearProgram → Rational
extra_entry p = if has_phase_one p then negative one_ℚ else zero_ℚ

-- row i of the program: its coefficients, 1 at its own slack, the extra variable, and its right side
abbrev pub first_row_cell : LinearProgram → ℕ → ℕ → Rational
first_row_cell p i j =
    if nat_lt j p.columns then coefficient (row_of p i).terms j
    else if nat_lt j (p.columns + length p.rows) then unit (p.columns + i) one_ℚ j
    else if nat_eq j (p.columns + length p.rows) then extra_entry p
    else (row_of p i).right

abbrev pub first_cell : LinearProgram → ℕ → ℕ → Rational
first_cell p i j =
    if nat_lt i (length p.rows) then first_row_cell p i j
    else if nat_eq i (length p.rows) then unit (p.columns + length p.rows) (extra_entry p) j
    else if nat_lt j p.columns then at p.goal j
    else zero_ℚ

abbrev pub first_tableau : LinearProgram → Tableau
first_tableau p = record {
  rows = length p.rows;
  columns = p.columns;
  cells = table (length p.rows + 2) (p.columns + length p.rows + 2) (first_cell p);
}

-- where a run stands
pub record State : Type 0 where
  pub stage : Stage
  pub tableau : Tableau
  -- the basic column of each row of the program
  pub basis : List ℕ

-- the stage in which a run begins
abbrev pub first_stage : Bool → Stage
first_stage phase_one = if phase_one then Entry else PhaseTwo

-- the slacks are basic
abbrev pub first_state : LinearProgram → State
first_state p = record {
  stage = first_stage (has_phase_one p);
  tableau = first_tableau p;
  basis = range_with_len p.columns (length p.rows);
}

-- ---- one pivot

-- what a state asks for next
pub data Next : Type 0 where
  PivotOn : ℕ → ℕ → Next
  NoColumn : Next
  NoRow : ℕ → Next

abbrev pub chosen_row : Stage → Tableau → ℕ → List ℕ → Next
chosen_row s t c [] = NoRow c
chosen_row s t c (i ∷ rows) = PivotOn (leaving s t c) c

abbrev pub chosen_column : Stage → Tableau → Option ℕ → Next
chosen_column s t None = NoColumn
chosen_column s t (Some c) = chosen_row s t c (candidates s t c)

abbrev pub next : State → Next
next x = chosen_column x.stage x.tableau (entering x.stage x.tableau)

-- the stage after a pivot in which a basic column leaves: phase one ends when the extra variable leaves
abbrev pub stage_when_leaves : Stage → ℕ → ℕ → Stage
stage_when_leaves Entry extra leaves = PhaseOne
stage_when_leaves PhaseOne extra leaves = if nat_eq leaves extra then PhaseTwo else PhaseOne
stage_when_leaves PhaseTwo extra leaves = PhaseTwo

abbrev pub stage_after : Stage → Tableau → List ℕ → ℕ → Stage
stage_after s t basis r = stage_when_leaves s (extra_column t) (slice_index basis r)

-- the tableau with which the stage begins that follows
abbrev pub handed_on : Stage → Stage → Tableau → Tableau
handed_on PhaseOne PhaseTwo t = without_extra t
handed_on s after t = t

abbrev pub state_after : State → ℕ → ℕ → State
state_after x r c = record {
  stage = stage_after x.stage x.tableau x.basis r;
  tableau = handed_on x.stage (stage_after x.stage x.tableau x.basis r) (pivoted x.tableau r c);
  basis = slice_set x.basis r c;
}

-- ---- the whole run

-- how a run ends, with the number of its pivots
pub data Outcome : Type 0 where
  -- point, multipliers, value
  Optimal : List Rational → List Rational → Rational → ℕ → Outcome
  -- multipliers
  Infeasible : List Rational → ℕ → Outcome
  -- ray
  Unbounded : List Rational → ℕ → Outcome
  -- the pivot, numbered from 1, and the place in it that does not fit
  Overflow : ℕ → Place → Outcome
  Capped : Outcome

-- no reduced cost is positive: in phase one the program has no point
abbrev pub no_column : Stage → Tableau → List ℕ → ℕ → Outcome
no_column Entry t basis made = Infeasible (multipliers t t.rows) made
no_column PhaseOne t basis made = Infeasible (multipliers t t.rows) made
no_column PhaseTwo t basis made = Optimal (point t basis) (multipliers t (t.rows + 1)) (value t) made

-- no row may leave, which comes in phase two alone: the goal rises without end
abbrev pub no_row : Tableau → List ℕ → ℕ → ℕ → Outcome
no_row t basis c made = Unbounded (ray t basis c) made

-- where no pivot is left, the run ends or is capped
abbrev pub finished : State → ℕ → Next → Outcome
finished x made (PivotOn r c) = Capped
finished x made NoColumn = no_column x.stage x.tableau x.basis made
finished x made (NoRow c) = no_row x.tableau x.basis c made

-- after a pivot the run goes on, unless a number of the pivot does not fit
abbrev pub stepped : ℕ → Option Place → Outcome → Outcome
stepped made (Some place) rest = Overflow (made + 1) place
stepped made None rest = rest

-- where a pivot is left, the run ends or goes on from the state after it
abbrev pub turned : Option ℕ → State → ℕ → (State → Outcome) → Next → Outcome
turned limit x made rest (PivotOn r c) = stepped made (first_stop limit x.stage x.tableau r c) (rest (state_after x r c))
turned limit x made rest NoColumn = no_column x.stage x.tableau x.basis made
turned limit x made rest (NoRow c) = no_row x.tableau x.basis c made

-- the run from a state on, after so many pivots and with so many left
abbrev pub run_from : Option ℕ → ℕ → ℕ → State → Outcome
run_from limit zero made x = finished x made (next x)
run_from limit (suc left) made x = turned limit x made (λ y. run_from limit left (made + 1) y) (next x)

-- the run with at most cap pivots. A limit says below which size each number has to be; None is the run over all rational numbers
abbrev pub run : Option ℕ → ℕ → LinearProgram → Outcome
run limit cap p = run_from limit cap 0 (first_state p)
