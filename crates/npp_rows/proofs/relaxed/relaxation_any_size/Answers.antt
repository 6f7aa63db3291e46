use Rattle.std.proofs.Common.{◌≡◌, map, All, IfOk, sym, ap, subst, ◌∙◌}
use Rattle.npp_lp.specs.Meaning.{linear_program}
use Rattle.npp_rows.specs.PathModel.{PathModel}
use Rattle.npp_rows.specs.Family.{Family}
use Rattle.npp_rows.specs.Named.{numbered}
use Rattle.npp_rows.specs.Cuts.{IsCut}
use Rattle.npp_rows.specs.Meaning.{cut_value}
use Rattle.npp_rows.specs.Relax.{relaxation}
use Rattle.npp_rows.specs.Caps.{path_model}
use Rattle.npp_rows.proofs.GoalLaws.{relaxation_holds}
use Rattle.npp_rows.proofs.relaxed.relaxation_any_size.Goals as goal

pub program-requires-clause-cuts : goal.program-requires-clause-cuts
program-requires-clause-cuts g c =
    let e = ap (λ (f : Family). f.paths) c.in_ok-index.ensures ∙ c.in_ok-table.ensures.paths in
    subst (λ (m : PathModel). All (λ x. IsCut m (cut_value g.N.Exact.rational x)) c.args.cuts.now) (sym e) c.requires.cuts

pub returns-clause-program : goal.returns-clause-program
returns-clause-program g c =
    let e = c.in_ok-index.ensures ∙ ap (λ (m : PathModel). let f : Family = record { paths = m; parts = c.args.allowed.now.parts } in f) c.in_ok-table.ensures.paths in
    subst (λ (f : Family). IfOk c.program.result (λ p. linear_program g.N.Exact.rational p ≡ numbered (relaxation f.paths f.parts (map (cut_value g.N.Exact.rational) c.args.cuts.now)))) e c.program.ensures.program

pub returns-clause-holds : goal.returns-clause-holds
returns-clause-holds g c = relaxation_holds c.args.instance.now (path_model c.args.instance.now c.args.covers.now) c.args.allowed.now.parts (map (cut_value g.N.Exact.rational) c.args.cuts.now)

pub returns-in_err-table-clause-holds : goal.returns-in_err-table-clause-holds
returns-in_err-table-clause-holds g c = relaxation_holds c.args.instance.now (path_model c.args.instance.now c.args.covers.now) c.args.allowed.now.parts (map (cut_value g.N.Exact.rational) c.args.cuts.now)

pub returns-in_err-index-clause-holds : goal.returns-in_err-index-clause-holds
returns-in_err-index-clause-holds g c = relaxation_holds c.args.instance.now (path_model c.args.instance.now c.args.covers.now) c.args.allowed.now.parts (map (cut_value g.N.Exact.rational) c.args.cuts.now)
