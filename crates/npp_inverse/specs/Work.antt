-- How the exact work on a program ends below a size: with a point, without one, or with the mark of what does not fit.
use Rattle.std.specs.Prelude.{◌≡◌, ℕ, List, Bool, ◌&&◌, is_ok, Option, Some, None, if◌then◌else◌, ⊤}
use Rattle.std.specs.List.{range_with_len, list_all}
use Rattle.npp_frac.specs.Rational.{Rational}
use Rattle.npp_lp.specs.Programs.{LinearProgram}
use Rattle.npp_lp.specs.Duals.{IsFarkasAnswer}
use Rattle.npp_lp.specs.Checked.{checked_column, checked_right}
use Rattle.npp_simplex.specs.declared.place.Step.{Step as SimplexStep}
use Rattle.npp_simplex.specs.declared.place.Step.TheVariants as simplex
use Rattle.npp_simplex.specs.Run.{run, Outcome, Optimal, Infeasible, Unbounded, Overflow, Capped}
use Rattle.npp_simplex.specs.Proved.{AreOptimal}
use Rattle.npp_rows.specs.declared.mark.Step.{Step}
use Rattle.npp_rows.specs.declared.mark.Step.TheVariants as step
use Rattle.npp_rows.specs.declared.mark.Mark.{Mark}
use Rattle.npp_rows.specs.declared.mark.Mark.TheVariants as mark
use Rattle.npp_rows.specs.PathModel.{PathModel}
use Rattle.npp_rows.specs.Named.{NamedProgram, numbered}
use Rattle.npp_rows.specs.Relax.{is_large}
use Rattle.npp_rows.specs.Inverse.{inverse, conflict_program}
use Rattle.npp_rows.specs.Response.{reply_fits}

pub data Ending : Type 0 where
  -- the point of the run, the multipliers of the rows, and the goal at the point
  AtPoint : List Rational → List Rational → Rational → Ending
  -- the multipliers of the rows
  WithoutPoint : List Rational → Ending
  -- why the program is not quiet
  AtMark : Mark → Ending

abbrev pub step_as : SimplexStep → Step
step_as simplex.Ratio = step.Ratio
step_as simplex.Pivot = step.Pivot

-- how many pivots a run may have
abbrev pub pivot_cap : ℕ
pivot_cap = 100000

-- whether the sums by which multipliers are judged are formed
abbrev pub sums_fit : ℕ → LinearProgram → List Rational → Bool
sums_fit limit p y = list_all (λ j. is_ok (checked_column limit p y j)) (range_with_len 0 p.columns) && is_ok (checked_right limit p y)

-- what a run gives. The programs of an instance have no ray, so the case of one never comes
abbrev pub judged : ℕ → LinearProgram → Outcome → Ending
judged limit p (Optimal x y v k) = if sums_fit limit p y then AtPoint x y v else AtMark mark.Sum
judged limit p (Infeasible y k) = if sums_fit limit p y then WithoutPoint y else AtMark mark.Sum
judged limit p (Unbounded d k) = AtMark mark.Sum
judged limit p (Overflow k place) = AtMark (mark.Overflow k (step_as place.step) place.row place.column)
judged limit p Capped = AtMark mark.Capped

-- the work on a program: its run below the size, judged
unfoldable pub program_work : ℕ → LinearProgram → Ending
program_work limit p = judged limit p (run (Some limit) pivot_cap p)

-- the work on a relaxation, which has no run where it is too large
unfoldable pub relaxation_work : ℕ → NamedProgram → Ending
relaxation_work limit p = if is_large p then AtMark mark.Large else program_work limit (numbered p)

-- the reply to the tolls of a point has to fit too
abbrev pub with_reply : ℕ → PathModel → Ending → Ending
with_reply limit m (AtPoint x y v) = if reply_fits limit m x then AtPoint x y v else AtMark mark.Sum
with_reply limit m (WithoutPoint y) = WithoutPoint y
with_reply limit m (AtMark k) = AtMark k

-- the work on the inverse program of a choice
unfoldable pub inverse_work : ℕ → PathModel → List ℕ → Ending
inverse_work limit m choice = with_reply limit m (program_work limit (numbered (inverse m choice)))

-- the mark of an ending, and none where the program is quiet
abbrev pub mark_of : Ending → Option Mark
mark_of (AtPoint x y v) = None
mark_of (WithoutPoint y) = None
mark_of (AtMark k) = Some k

-- a program is quiet at a size where its work ends without a mark
abbrev pub IsQuiet : Ending → Type 0
IsQuiet e = mark_of e ≡ None

-- what an ending proves of the program: an optimal point with a dual answer of its value, or a Farkas answer
abbrev pub IsProvedEnding : LinearProgram → Ending → Type 0
IsProvedEnding p (AtPoint x y v) = AreOptimal p x y v
IsProvedEnding p (WithoutPoint y) = IsFarkasAnswer p y
IsProvedEnding p (AtMark k) = ⊤

-- there are no multipliers
pub record HasNoPoint (e : Ending) : Type 0 where
  pub multipliers : List Rational
  pub ends : e ≡ WithoutPoint multipliers

-- two paths are in conflict at a size: the program of both is quiet and has no point
abbrev pub AreInConflict : ℕ → PathModel → ℕ → ℕ → ℕ → ℕ → Type 0
AreInConflict limit m k p l q = HasNoPoint (program_work limit (numbered (conflict_program m k p l q)))
