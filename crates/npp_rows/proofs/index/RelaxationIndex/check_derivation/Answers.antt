use Rattle.std.proofs.Common.{List, ℕ, map, Ok, sym, ap, ◌∙◌}
use Rattle.npp_frac.specs.Fits.{limit_of}
use Rattle.npp_lp.specs.Verdict.{unless}
use Rattle.npp_rows.specs.declared.names.Multiplier.{Multiplier}
use Rattle.npp_rows.specs.declared.cut.Derivation.{Derivation}
use Rattle.npp_rows.specs.RowOrder.{multipliers_of}
use Rattle.npp_rows.specs.Relax.{relaxation}
use Rattle.npp_rows.specs.Derivations.{whole_relaxation, round_fault, round_cut, derivation_verdict}
use Rattle.npp_rows.specs.Meaning.{cut_value, multiplier_value, derivation_value}
use Rattle.npp_rows.proofs.FaultLaws.{verdict_moved}
use Rattle.npp_rows.proofs.index.RelaxationIndex.check_derivation.Goals as goal

pub returns-in-Round-clause-verdict : goal.returns-in-Round-clause-verdict
returns-in-Round-clause-verdict g c =
    let m = c.args.self.now.paths in
    let cuts = map (cut_value g.N.Exact.rational) c.args.earlier.now in
    let whole = whole_relaxation m cuts in
    verdict_moved g.N.Exact.rational _ _ c.round.result
    (ap (λ (parts : List (List ℕ)). unless (round_fault (limit_of g.N.Exact.WIDTH) (relaxation m parts cuts) (map (multiplier_value g.N.Exact.rational) c.entries.result.now))
    (Ok (round_cut (relaxation m parts cuts) (multipliers_of (relaxation m parts cuts).rows (map (multiplier_value g.N.Exact.rational) c.entries.result.now))))) c.requires.whole
    ∙ ap (λ (ys : List (Multiplier g.row.N.Denot)). unless (round_fault (limit_of g.N.Exact.WIDTH) whole (map (multiplier_value g.N.Exact.rational) ys))
    (Ok (round_cut whole (multipliers_of whole.rows (map (multiplier_value g.N.Exact.rational) ys))))) c.entries.ensures
    ∙ sym (ap (λ (d : Derivation g.row.N.Denot). derivation_verdict (limit_of g.N.Exact.WIDTH) m cuts (derivation_value g.N.Exact.rational d)) c.in-Round.is))
    c.round.ensures.verdict

pub check_derivation-requires-clause-earlier : goal.check_derivation-requires-clause-earlier
check_derivation-requires-clause-earlier g c = rw c.table.ensures.same c.requires.earlier
