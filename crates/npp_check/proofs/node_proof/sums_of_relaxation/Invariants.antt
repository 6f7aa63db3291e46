use Rattle.std.proofs.Common.{◌≡◌, length, map}
use Rattle.npp_frac.specs.Fits.{limit_of}
use Rattle.npp_rows.specs.Meaning.{cut_value}
use Rattle.npp_rows.specs.Relax.{relaxation, relaxation_columns}
use Rattle.npp_check.proofs.NodeProofLemmas.{TakenTo}
use Rattle.npp_check.proofs.node_proof.sums_of_relaxation.Given as goal

-- the multipliers so far are taken
abbrev pub invariant-loop-multiplier : goal.invariant-loop-multiplier
invariant-loop-multiplier g l = record {
  taken : TakenTo g.N.Exact.rational (limit_of g.N.Exact.WIDTH) (relaxation l.index.paths l.index.parts (map (cut_value g.N.Exact.rational) l.cuts)) l.multipliers l.multiplier-index l.sums;
  columns : length l.sums.sums.columns ≡ length (relaxation_columns l.index.paths l.index.parts);
}
