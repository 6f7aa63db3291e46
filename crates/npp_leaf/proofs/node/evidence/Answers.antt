use Rattle.std.proofs.Common.{◌≡◌, map, sym, subst, All}
use Rattle.std.specs.Prelude.{IfOk}
use Rattle.npp_frac.specs.Fits.{limit_of}
use Rattle.npp_rows.specs.PathModel.{PathModel}
use Rattle.npp_rows.specs.Caps.{path_model}
use Rattle.npp_rows.specs.Cuts.{IsCut}
use Rattle.npp_rows.specs.Meaning.{cut_value}
use Rattle.npp_inverse.proofs.CoverLaws.{has_useful_paths, is_model}
use Rattle.npp_leaf.specs.Found.{found_value}
use Rattle.npp_leaf.specs.Work.{leaf_work}
use Rattle.npp_leaf.proofs.ResultLaws.{passes_ok, optimum_ok, tolls_ok, bounds_ok}
use Rattle.npp_leaf.proofs.node.evidence.Goals as goal

pub evidence_for-requires-clause-useful : goal.evidence_for-requires-clause-useful
evidence_for-requires-clause-useful g c = rw c.in_ok-table.ensures.paths (has_useful_paths c.args.instance.now c.args.covers.now c.requires.covers)

pub evidence_for-requires-clause-allowed : goal.evidence_for-requires-clause-allowed
evidence_for-requires-clause-allowed g c = rw c.in_ok-table.ensures.paths c.requires.allowed

pub evidence_for-requires-clause-cuts : goal.evidence_for-requires-clause-cuts
evidence_for-requires-clause-cuts g c =
    subst (λ (m : PathModel). All (λ x. IsCut m (cut_value g.N.Exact.rational x)) c.args.cuts.now) (sym c.in_ok-table.ensures.paths) c.requires.cuts

pub returns-clause-work : goal.returns-clause-work
returns-clause-work g c =
    subst (λ (m : PathModel). IfOk c.evidence_for.result (λ w. found_value g.N.Exact.rational w ≡ leaf_work (limit_of g.N.Exact.WIDTH) m c.args.allowed.now.parts (map (cut_value g.N.Exact.rational) c.args.cuts.now))) c.in_ok-table.ensures.paths c.evidence_for.ensures.work

pub returns-clause-passes : goal.returns-clause-passes
returns-clause-passes g c =
    passes_ok g.N.Exact.rational (limit_of g.N.Exact.WIDTH) (path_model c.args.instance.now c.args.covers.now) c.args.allowed.now.parts (map (cut_value g.N.Exact.rational) c.args.cuts.now) c.evidence_for.result (returns-clause-work g c)

pub returns-clause-optimum : goal.returns-clause-optimum
returns-clause-optimum g c =
    optimum_ok g.N.Exact.rational (limit_of g.N.Exact.WIDTH) (path_model c.args.instance.now c.args.covers.now) c.args.allowed.now.parts (map (cut_value g.N.Exact.rational) c.args.cuts.now) c.evidence_for.result (returns-clause-work g c)

pub returns-clause-bounds : goal.returns-clause-bounds
returns-clause-bounds g c =
    bounds_ok g.N.Exact.rational (limit_of g.N.Exact.WIDTH) (path_model c.args.instance.now c.args.covers.now) c.args.allowed.now.parts (map (cut_value g.N.Exact.rational) c.args.cuts.now) c.evidence_for.result (returns-clause-work g c)
    c.args.instance.now (is_model c.args.instance.now c.args.covers.now c.requires.covers) c.requires.allowed

pub returns-clause-tolls : goal.returns-clause-tolls
returns-clause-tolls g c =
    tolls_ok g.N.Exact.rational (limit_of g.N.Exact.WIDTH) (path_model c.args.instance.now c.args.covers.now) c.args.allowed.now.parts (map (cut_value g.N.Exact.rational) c.args.cuts.now) c.evidence_for.result (returns-clause-work g c)
    (has_useful_paths c.args.instance.now c.args.covers.now c.requires.covers) c.requires.allowed
