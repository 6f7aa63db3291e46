use Rattle.std.proofs.Common.{◌≡◌, map, All, sym, ap, subst, ◌∙◌}
use Rattle.npp_lp.specs.Meaning.{linear_program}
use Rattle.npp_rows.specs.PathModel.{PathModel}
use Rattle.npp_rows.specs.Family.{Family}
use Rattle.npp_rows.specs.Named.{numbered}
use Rattle.npp_rows.specs.Cuts.{IsCut}
use Rattle.npp_rows.specs.Meaning.{cut_value}
use Rattle.npp_rows.specs.Relax.{relaxation}
use Rattle.npp_rows.proofs.relaxed.relaxation.Goals as goal

pub program-requires-clause-cuts : goal.program-requires-clause-cuts
program-requires-clause-cuts g c =
    let e = ap (λ (f : Family). f.paths) c.in_ok-index.ensures ∙ c.in_ok-table.ensures.paths in
    subst (λ (m : PathModel). All (λ x. IsCut m (cut_value g.N.Exact.rational x)) c.args.cuts.now) (sym e) c.requires.cuts

pub returns-clause-program : goal.returns-clause-program
returns-clause-program g c =
    let e = c.in_ok-index.ensures ∙ ap (λ (m : PathModel). let f : Family = record { paths = m; parts = c.args.allowed.now.parts } in f) c.in_ok-table.ensures.paths in
    subst (λ (f : Family). linear_program g.N.Exact.rational c.in_ok-program.field-0 ≡ numbered (relaxation f.paths f.parts (map (cut_value g.N.Exact.rational) c.args.cuts.now))) e c.in_ok-program.ensures.program
