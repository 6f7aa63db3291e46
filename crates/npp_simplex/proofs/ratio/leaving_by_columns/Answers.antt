use Rattle.std.proofs.Common.{Some, sym, subst}
use Rattle.npp_frac.specs.Fits.{limit_of}
use Rattle.npp_simplex.specs.Meaning.{AreCandidates}
use Rattle.npp_simplex.proofs.Refining.{least_candidates}
use Rattle.npp_simplex.proofs.ratio.leaving_by_columns.Goals as goal

pub refine_by_slacks-requires-clause-rows : goal.refine_by_slacks-requires-clause-rows
refine_by_slacks-requires-clause-rows g c =
    subst (AreCandidates c.args.tableau.now c.args.entering.column) (sym c.in-Ok.ensures.rows)
    (least_candidates (Some (limit_of g.N.Exact.WIDTH)) c.args.entering.stage c.args.tableau.now c.args.entering.column c.right-right.result c.args.candidates.now c.requires.rows)
