-- Limits of size, and the runs that stay within one.
use Rattle.std.specs.Prelude.{ℕ, ◌≤◌, ⊤, Option, Some, None}
use Rattle.npp_simplex.specs.Run.{Outcome, Optimal, Infeasible, Unbounded, Overflow, Capped}

-- the second limit allows each number that the first one allows. None allows every number
abbrev pub IsWider : Option ℕ → Option ℕ → Type 0
IsWider (Some m) (Some n) = m ≤ n
IsWider (Some m) None = ⊤
IsWider None (Some n) = ⊥
IsWider None None = ⊤

-- a run that ends so met no number beyond its limit
abbrev pub IsNarrow : Outcome → Type 0
IsNarrow (Optimal x y v k) = ⊤
IsNarrow (Infeasible y k) = ⊤
IsNarrow (Unbounded d k) = ⊤
IsNarrow (Overflow k place) = ⊥
IsNarrow Capped = ⊤
