use Rattle.std.proofs.Common.{◌≡◌, None}
use Rattle.npp_lp.specs.Verdict.{first_below}
use Rattle.npp_simplex.specs.Ratio.{rising_at}
use Rattle.npp_simplex.proofs.tableau.Tableau.rising_column.Given as goal

-- no column before this one rises
abbrev pub invariant-loop-j : goal.invariant-loop-j
invariant-loop-j g l = first_below l.j (rising_at l.self l.goal) ≡ None
