use Rattle.std.proofs.Common.{◌≡◌, None, map}
use Rattle.npp_lp.specs.Verdict.{first_below}
use Rattle.npp_lp.specs.DualVerdict.{sum_fault_at}
use Rattle.npp_lp.specs.RunningSums.{sums_meant, column_of}
use Rattle.npp_lp.proofs.running.RunningSums.judge_dual.Given as goal

-- no column so far has a fault
abbrev pub invariant-loop-column : goal.invariant-loop-column
invariant-loop-column g l = first_below l.column (sum_fault_at (column_of (sums_meant g.N.Exact.rational l.self)) (map g.N.Exact.rational l.goal)) ≡ None
