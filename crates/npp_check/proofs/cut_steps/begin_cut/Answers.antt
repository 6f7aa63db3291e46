use Rattle.std.proofs.Common.{[], map, sym, arith}
use Rattle.npp_frac.specs.Fits.{limit_of}
use Rattle.npp_rows.specs.Meaning.{cut_value, multiplier_value, derivation_value}
use Rattle.npp_check.specs.StageValue.{head_value, cut_value_at, step_value}
use Rattle.npp_check.specs.Stages.{from_cut_multipliers, from_stage, cut_by}
use Rattle.npp_check.proofs.CutStepLemmas.{cut_alone, leads_same}
use Rattle.npp_check.proofs.cut_steps.begin_cut.Goals as goal

pub returns : goal.returns
returns g c =
    leads_same (limit_of g.N.Exact.WIDTH) c.args.measured.now (from_stage (limit_of g.N.Exact.WIDTH) c.args.measured.now (cut_value_at g.N.Exact.rational c.args.known.value c.args.left c.args.block))
    (from_cut_multipliers (limit_of g.N.Exact.WIDTH) c.args.measured.now (head_value g.N.Exact.rational c.args.known.value.head) c.args.known.value.covers.items c.args.left (map (cut_value g.N.Exact.rational) c.args.known.value.cuts.items) (λ y. derivation_value g.N.Exact.rational c.derivation_of-cut.result) 0 []) (step_value g.N.Exact.rational c.args.measured.now.net c.end_cut.result)
    (λ coming. cut_alone (limit_of g.N.Exact.WIDTH) c.args.measured.now (head_value g.N.Exact.rational c.args.known.value.head) c.args.known.value.covers.items c.args.left (map (cut_value g.N.Exact.rational) c.args.known.value.cuts.items) (cut_by c.args.block.kind) (λ y. derivation_value g.N.Exact.rational c.derivation_of-cut.result) c.args.block.lines
    (map (multiplier_value g.N.Exact.rational) c.args.block.multipliers.items) (omega arith) (sym c.derivation_of-cut.ensures) coming)
    c.end_cut.ensures
