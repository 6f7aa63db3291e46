use Rattle.std.proofs.Common.{map, Err, sym, subst}
use Rattle.npp_frac.specs.Fits.{limit_of}
use Rattle.npp_rows.specs.Caps.{path_model}
use Rattle.npp_rows.specs.Cuts.{IsCut}
use Rattle.npp_rows.specs.Derivations.{derivation_verdict}
use Rattle.npp_rows.specs.Meaning.{cut_value, derivation_value}
use Rattle.npp_check.specs.CutLines.{derived}
use Rattle.npp_check.specs.Judges.{Judges}
use Rattle.npp_check.specs.declared.stop.Stop.{Stop}
use Rattle.npp_check.proofs.CutStepLemmas.{row_derived, row_refused}
use Rattle.npp_check.proofs.TreeStandLemmas.{all_of_map}
use Rattle.npp_check.proofs.cut_steps.derived_row.Goals as goal

pub check_derivation-requires-clause-earlier : goal.check_derivation-requires-clause-earlier
check_derivation-requires-clause-earlier g c =
    rw (c.deref.ensures.value, c.deref-2.ensures.value)
    (all_of_map (IsCut (path_model c.args.instance.now c.args.known.now.covers.items)) (cut_value g.N.Exact.rational) c.args.known.now.cuts.items c.requires.good)

pub returns-in-Ok-clause-said : goal.returns-in-Ok-clause-said
returns-in-Ok-clause-said g c = row_derived g.N.Exact.rational c.in-Ok.row (derivation_verdict (limit_of g.N.Exact.WIDTH) (path_model c.args.instance.now c.args.known.now.covers.items) (map (cut_value g.N.Exact.rational) c.args.known.now.cuts.items) (derivation_value g.N.Exact.rational c.args.cut.now)) (rw (c.deref.ensures.value, c.deref-2.ensures.value) at c.in-Ok.ensures.verdict)

pub returns-in-Err-clause-said : goal.returns-in-Err-clause-said
returns-in-Err-clause-said g c =
    subst (λ (s : Stop). Judges (cut_value g.N.Exact.rational) (Err s) (derived (derivation_verdict (limit_of g.N.Exact.WIDTH) (path_model c.args.instance.now c.args.known.now.covers.items) (map (cut_value g.N.Exact.rational) c.args.known.now.cuts.items) (derivation_value g.N.Exact.rational c.args.cut.now)))) (sym c.stop_of_cut_fault.ensures)
    (row_refused g.N.Exact.rational c.in-Err.fault (derivation_verdict (limit_of g.N.Exact.WIDTH) (path_model c.args.instance.now c.args.known.now.covers.items) (map (cut_value g.N.Exact.rational) c.args.known.now.cuts.items) (derivation_value g.N.Exact.rational c.args.cut.now)) (rw (c.deref.ensures.value, c.deref-2.ensures.value) at c.in-Err.ensures.verdict))
