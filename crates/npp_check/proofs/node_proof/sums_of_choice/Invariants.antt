use Rattle.std.proofs.Common.{◌≡◌, length}
use Rattle.npp_frac.specs.Fits.{limit_of}
use Rattle.npp_rows.specs.Inverse.{inverse}
use Rattle.npp_check.proofs.NodeProofLemmas.{TakenTo}
use Rattle.npp_check.proofs.node_proof.sums_of_choice.Given as goal

-- the multipliers so far are taken
abbrev pub invariant-loop-multiplier : goal.invariant-loop-multiplier
invariant-loop-multiplier g l = record {
  taken : TakenTo g.N.Exact.rational (limit_of g.N.Exact.WIDTH) (inverse l.table l.choice) l.multipliers l.multiplier-index l.sums;
  columns : length l.sums.sums.columns ≡ length l.table.caps;
}
