-- The bases of a run as sets of columns, and how many there can be.
use Rattle.std.specs.Prelude.{◌↔◌, ℕ, zero, suc, ◌+◌, ◌<◌, List, [], ◌∷◌, length, Contains}
use Rattle.std.specs.List.{AllPairs}
use Rattle.npp_lp.specs.Programs.{LinearProgram}
use Rattle.npp_simplex.specs.Run.{State, Next, PivotOn, NoColumn, NoRow, next, state_after, first_state, Outcome, Optimal, Infeasible, Unbounded, Overflow, Capped}

-- what comes after a state where a pivot is left, and nothing where the run ends
abbrev pub after_pivot : State → (State → List (List ℕ)) → Next → List (List ℕ)
after_pivot x rest (PivotOn r c) = rest (state_after x r c)
after_pivot x rest NoColumn = []
after_pivot x rest (NoRow c) = []

-- the basis of a state, and those of the states that follow it by at most so many pivots
abbrev pub bases_from : ℕ → State → List (List ℕ)
bases_from zero x = x.basis ∷ []
bases_from (suc left) x = x.basis ∷ after_pivot x (bases_from left) (next x)

-- the bases of the run of a program over all rational numbers, up to so many pivots
abbrev pub bases : LinearProgram → ℕ → List (List ℕ)
bases p pivots = bases_from pivots (first_state p)

-- the same columns, in whatever order
abbrev pub AreSameColumns : List ℕ → List ℕ → Type 0
AreSameColumns xs ys = (c : ℕ) → Contains xs c ↔ Contains ys c

-- no two of the bases have the same columns
abbrev pub AreAllDifferent : List (List ℕ) → Type 0
AreAllDifferent bs = AllPairs (λ xs ys. AreSameColumns xs ys → ⊥) bs

-- how many sets of k there are among n
abbrev pub choose : ℕ → ℕ → ℕ
choose n zero = 1
choose zero (suc k) = 0
choose (suc n) (suc k) = choose n k + choose n (suc k)

-- how many sets of basic columns a program has: those of the rows' number among its columns, its slacks and the extra column
abbrev pub basis_count : LinearProgram → ℕ
basis_count p = choose (p.columns + length p.rows + 1) (length p.rows)

-- an outcome of a run that is capped at so many pivots has fewer pivots than this number, and is Capped only where the
-- cap and one more are fewer
abbrev pub HasFewerPivots : ℕ → ℕ → Outcome → Type 0
HasFewerPivots count cap (Optimal x y v k) = k < count
HasFewerPivots count cap (Infeasible y k) = k < count
HasFewerPivots count cap (Unbounded d k) = k < count
HasFewerPivots count cap (Overflow k place) = k < count
HasFewerPivots count cap Capped = cap + 1 < count
