use Rattle.std.proofs.Common.{◌≡◌, subst}
use Rattle.std.specs.Prelude.{IfOk}
use Rattle.npp_frac.specs.Fits.{limit_of}
use Rattle.npp_rows.specs.PathModel.{PathModel}
use Rattle.npp_inverse.specs.Work.{inverse_work}
use Rattle.npp_inverse.specs.Best.{best_ending}
use Rattle.npp_inverse.proofs.CoverLaws.{has_useful_paths, is_model}
use Rattle.npp_inverse.proofs.best.best_tolls.Goals as goal

pub best_tolls_for-requires-clause-useful : goal.best_tolls_for-requires-clause-useful
best_tolls_for-requires-clause-useful g c = rw c.in_ok-table.ensures.paths (has_useful_paths c.args.instance.now c.args.covers.now c.requires.covers)

pub returns-clause-work : goal.returns-clause-work
returns-clause-work g c =
    subst (λ (m : PathModel). IfOk c.best_tolls_for.result (λ b. best_ending g.N.Exact.rational b ≡ inverse_work (limit_of g.N.Exact.WIDTH) m c.args.choice.now)) c.in_ok-table.ensures.paths c.best_tolls_for.ensures.work

pub returns-clause-zero_choice : goal.returns-clause-zero_choice
returns-clause-zero_choice g c =
    λ zeros. c.best_tolls_for.ensures.zero_choice c.args.instance.now (rw c.in_ok-table.ensures.paths (is_model c.args.instance.now c.args.covers.now c.requires.covers)) zeros
