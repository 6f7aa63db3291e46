use Rattle.std.proofs.Common.{◌≡◌, None, Some, cond, nat_eq, slice_index}
use Rattle.npp_lp.specs.Verdict.{first_below}
use Rattle.npp_simplex.proofs.vectors.basic_row.Given as goal

abbrev pub invariant-loop-i : goal.invariant-loop-i
invariant-loop-i l = first_below l.i (λ i. cond (nat_eq (slice_index l.basis i) l.column) (Some i) None) ≡ None
