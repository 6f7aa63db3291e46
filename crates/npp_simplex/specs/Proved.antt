-- What the vectors of an outcome prove of the program.
use Rattle.std.specs.Prelude.{◌≡◌, ⊤, List}
use Rattle.npp_frac.specs.Rational.{Rational}
use Rattle.npp_lp.specs.Programs.{LinearProgram, goal_at, IsPoint, IsRay}
use Rattle.npp_lp.specs.Duals.{IsDualAnswer, IsFarkasAnswer}
use Rattle.npp_simplex.specs.Run.{Outcome, Optimal, Infeasible, Unbounded, Overflow, Capped}

-- a point and a dual answer of one value: by weak duality it is the optimum
pub record AreOptimal (p : LinearProgram) (x y : List Rational) (v : Rational) : Type 0 where
  pub point : IsPoint p x
  pub goal : goal_at p x ≡ v
  pub dual : IsDualAnswer p y v

-- an optimal point with a dual answer of its value; a Farkas answer; a ray. An outcome without vectors proves nothing
abbrev pub IsProved : LinearProgram → Outcome → Type 0
IsProved p (Optimal x y v k) = AreOptimal p x y v
IsProved p (Infeasible y k) = IsFarkasAnswer p y
IsProved p (Unbounded d k) = IsRay p d
IsProved p (Overflow k place) = ⊤
IsProved p Capped = ⊤
