use Rattle.std.proofs.Common.{List, map, Ok, sym, ap, ◌∙◌}
use Rattle.npp_frac.specs.Fits.{limit_of}
use Rattle.npp_lp.specs.Verdict.{unless}
use Rattle.npp_rows.specs.declared.names.Multiplier.{Multiplier}
use Rattle.npp_rows.specs.declared.cut.Derivation.{Derivation}
use Rattle.npp_rows.specs.Cuts.{conflict_cut}
use Rattle.npp_rows.specs.RowOrder.{multipliers_of}
use Rattle.npp_rows.specs.Derivations.{whole_relaxation, conflict_fault, round_fault, round_cut, derivation_verdict}
use Rattle.npp_rows.specs.Meaning.{cut_value, multiplier_value, derivation_value}
use Rattle.npp_rows.proofs.FaultLaws.{verdict_moved}
use Rattle.npp_rows.proofs.table.PathTable.check_derivation.Goals as goal

pub returns-in-Conflict-clause-verdict : goal.returns-in-Conflict-clause-verdict
returns-in-Conflict-clause-verdict g c =
    verdict_moved g.N.Exact.rational _ _ c.derive_conflict.result
    (ap (λ (ys : List (Multiplier g.row.N.Denot)). unless (conflict_fault (limit_of g.N.Exact.WIDTH) c.args.self.now c.in-Conflict.k c.in-Conflict.p c.in-Conflict.l c.in-Conflict.q (map (multiplier_value g.N.Exact.rational) ys))
    (Ok (conflict_cut c.in-Conflict.k c.in-Conflict.p c.in-Conflict.l c.in-Conflict.q))) c.entries.ensures
    ∙ sym (ap (λ (d : Derivation g.row.N.Denot). derivation_verdict (limit_of g.N.Exact.WIDTH) c.args.self.now (map (cut_value g.N.Exact.rational) c.args.earlier.now) (derivation_value g.N.Exact.rational d)) c.in-Conflict.is))
    c.derive_conflict.ensures.verdict

pub returns-in-Round-clause-verdict : goal.returns-in-Round-clause-verdict
returns-in-Round-clause-verdict g c =
    let whole = whole_relaxation c.args.self.now (map (cut_value g.N.Exact.rational) c.args.earlier.now) in
    verdict_moved g.N.Exact.rational _ _ c.derive_round.result
    (ap (λ (ys : List (Multiplier g.row.N.Denot)). unless (round_fault (limit_of g.N.Exact.WIDTH) whole (map (multiplier_value g.N.Exact.rational) ys))
    (Ok (round_cut whole (multipliers_of whole.rows (map (multiplier_value g.N.Exact.rational) ys))))) c.entries-in-Round.ensures
    ∙ sym (ap (λ (d : Derivation g.row.N.Denot). derivation_verdict (limit_of g.N.Exact.WIDTH) c.args.self.now (map (cut_value g.N.Exact.rational) c.args.earlier.now) (derivation_value g.N.Exact.rational d)) c.in-Round.is))
    c.derive_round.ensures.verdict
