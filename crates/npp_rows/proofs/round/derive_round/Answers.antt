use Rattle.std.proofs.Common.{ℕ, List, map, Ok, ap, ap₂, ◌∙◌}
use Rattle.npp_frac.specs.Fits.{limit_of}
use Rattle.npp_lp.specs.Verdict.{unless}
use Rattle.npp_rows.specs.PathModel.{PathModel}
use Rattle.npp_rows.specs.Family.{Family}
use Rattle.npp_rows.specs.RowOrder.{multipliers_of}
use Rattle.npp_rows.specs.Relax.{relaxation}
use Rattle.npp_rows.specs.Derivations.{round_fault, round_cut}
use Rattle.npp_rows.specs.Meaning.{cut_value, multiplier_value}
use Rattle.npp_rows.proofs.WholeLaws.{whole_allowed}
use Rattle.npp_rows.proofs.FaultLaws.{verdict_moved}
use Rattle.npp_rows.proofs.round.derive_round.Goals as goal

pub new-requires : goal.new-requires
new-requires g c = rw c.in_ok-whole.ensures (whole_allowed c.args.table.now c.commodities-commodities.ensures.limits.some)

pub round-requires-clause-earlier : goal.round-requires-clause-earlier
round-requires-clause-earlier g c = rw (ap (λ (f : Family). f.paths) c.in_ok-index.ensures) c.requires.earlier

pub returns-clause-verdict : goal.returns-clause-verdict
returns-clause-verdict g c =
    let cuts = map (cut_value g.N.Exact.rational) c.args.earlier.now in
    let ys = map (multiplier_value g.N.Exact.rational) c.args.multipliers.now in
    verdict_moved g.N.Exact.rational _ _ c.round.result
    (ap₂ (λ (m : PathModel) (parts : List (List ℕ)). unless (round_fault (limit_of g.N.Exact.WIDTH) (relaxation m parts cuts) ys) (Ok (round_cut (relaxation m parts cuts) (multipliers_of (relaxation m parts cuts).rows ys))))
    (ap (λ (f : Family). f.paths) c.in_ok-index.ensures) (ap (λ (f : Family). f.parts) c.in_ok-index.ensures ∙ c.in_ok-whole.ensures))
    c.round.ensures.verdict
