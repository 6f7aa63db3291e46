-- The best tolls of a choice, and what proves them.
use Rattle.std.specs.Prelude.{◌≡◌, ℕ, ◌<◌, pos, List, map, length, All, ⊤}
use Rattle.npp_frac.specs.Rational.{Rational, zero_ℚ, whole, ◌≤ℚ◌}
use Rattle.npp_lp.specs.Programs.{at, goal_at, IsPoint, IsOptimum}
use Rattle.npp_lp.specs.Duals.{IsDualAnswer, IsFarkasAnswer}
use Rattle.npp_rows.specs.Meaning.{reply_value}
use Rattle.npp_rows.specs.PathModel.{PathModel, cap_at}
use Rattle.npp_rows.specs.Named.{numbered}
use Rattle.npp_rows.specs.Inverse.{inverse}
use Rattle.npp_rows.specs.Response.{Reply, reply}
use Rattle.npp_inverse.specs.declared.best.Best.{Best}
use Rattle.npp_inverse.specs.declared.best.Best.TheVariants as best
use Rattle.npp_inverse.specs.Work.{Ending, AtPoint, WithoutPoint, AtMark}

-- no toll is below 0 or above its cap
abbrev pub AreWithinCaps : PathModel → List Rational → Type 0
AreWithinCaps m T = (a : ℕ) → a < length m.caps → (zero_ℚ ≤ℚ at T a) × (at T a ≤ℚ whole (pos (cap_at m a)))

-- tolls that are a best point of the inverse program, multipliers that prove it, and the reply to the tolls
pub record AreBestTolls (m : PathModel) (choice : List ℕ) (T y : List Rational) (v : Rational) (r : Reply) : Type 0 where
  pub point : IsPoint (numbered (inverse m choice)) T
  pub goal : goal_at (numbered (inverse m choice)) T ≡ v
  pub dual : IsDualAnswer (numbered (inverse m choice)) y v
  pub optimum : IsOptimum (numbered (inverse m choice)) v
  pub capped : AreWithinCaps m T
  pub replied : r ≡ reply m T
  pub earns : v ≤ℚ r.revenue

-- how the work that an answer tells of ended
abbrev pub best_ending : {N : Type 0} → (N → Rational) → Best N → Ending
best_ending value (best.Found tolls v y r) = AtPoint (map value tolls) (map value y.items) (value v)
best_ending value (best.NoTolls y) = WithoutPoint (map value y.items)
best_ending value (best.Loud k) = AtMark k

-- what an answer proves
abbrev pub IsProvedBest : {N : Type 0} → (N → Rational) → PathModel → List ℕ → Best N → Type 0
IsProvedBest value m choice (best.Found tolls v y r) = AreBestTolls m choice (map value tolls) (map value y.items) (value v) (reply_value value r)
IsProvedBest value m choice (best.NoTolls y) = IsFarkasAnswer (numbered (inverse m choice)) (map value y.items)
IsProvedBest value m choice (best.Loud k) = ⊤

-- path 0 of each commodity is chosen
abbrev pub IsZeroChoice : List ℕ → Type 0
IsZeroChoice choice = All (λ path. path ≡ 0) choice

-- it is not answered that there are no tolls
abbrev pub LeavesTolls : {N : Type 0} → Best N → Type 0
LeavesTolls (best.Found tolls v y r) = ⊤
LeavesTolls (best.NoTolls y) = ⊥
LeavesTolls (best.Loud k) = ⊤
