use Rattle.std.proofs.Common.{◌≡◌, length, is_some, map, ap, ap₂, sym, ◌∙◌, subst}
use Rattle.std.specs.List.{list_any, range_with_len}
use Rattle.std.proofs.lemmas.List.FromFn.{length-range_with_len}
use Rattle.npp_frac.specs.Rational.{zero_ℚ, is_less}
use Rattle.npp_lp.specs.Meaning.{linear_program}
use Rattle.npp_lp.specs.VerdictLaws.{some_negative}
use Rattle.npp_simplex.specs.Run.{has_phase_one, first_stage, first_tableau}
use Rattle.npp_simplex.specs.Standing.{IsRoom, IsReadyFor}
use Rattle.npp_simplex.proofs.Starting.{phase_one_is, rows_agree}
use Rattle.npp_simplex.proofs.Ready.{ready_at_first}
use Rattle.npp_simplex.proofs.run.State.first.Goals as goal

pub first-requires-clause-phase_one : goal.first-requires-clause-phase_one
first-requires-clause-phase_one g c =
    let v = g.N.Exact.rational in
    c.is_some-phase_one.ensures ∙ ap is_some c.first_negative.ensures ∙ some_negative (map v c.right.result.now)
    ∙ ap (λ xs. list_any (λ q. is_less q zero_ℚ) (map v xs)) c.right.ensures
    ∙ phase_one_is v c.args.program.now.rows

pub invariant_of-result : goal.invariant_of-result
invariant_of-result g c =
    let v = g.N.Exact.rational in
    let p = linear_program v c.args.program.now in
    let t = c.in_ok-tableau.tableau in
    let stands : c.is_some-phase_one.result ≡ has_phase_one p = c.is_some-phase_one.ensures ∙ ap is_some c.first_negative.ensures ∙ some_negative (map v c.right.result.now)
    ∙ ap (λ xs. list_any (λ q. is_less q zero_ℚ) (map v xs)) c.right.ensures ∙ phase_one_is v c.args.program.now.rows in
    let rows : c.row_count.result ≡ t.rows = rows_agree v c.args.program.now c.row_count.result c.row_count.ensures.form c.row_count.ensures.rows ∙ sym (ap (λ u. u.rows) c.in_ok-tableau.ensures) in
    let columns : c.columns.result ≡ t.columns = c.columns.ensures.columns ∙ sym (ap (λ u. u.columns) c.in_ok-tableau.ensures) in
    record {
      ready = subst (IsReadyFor c.first_stage-stage.result) (sym c.in_ok-tableau.ensures) (subst (λ z. IsReadyFor z (first_tableau p)) (sym c.first_stage-stage.ensures) (ready_at_first p c.is_some-phase_one.result stands));
      basis = ap length c.in_ok-basis.ensures ∙ length-range_with_len c.columns.result c.row_count.result ∙ rows;
      room = subst (λ k. IsRoom k t.columns c.in_ok-room.room) rows (subst (λ k. IsRoom c.row_count.result k c.in_ok-room.room) columns c.in_ok-room.ensures);
    }

pub returns-clause-state : goal.returns-clause-state
returns-clause-state g c =
    let v = g.N.Exact.rational in
    let p = linear_program v c.args.program.now in
    let t = c.in_ok-tableau.tableau in
    let stands : c.is_some-phase_one.result ≡ has_phase_one p = c.is_some-phase_one.ensures ∙ ap is_some c.first_negative.ensures ∙ some_negative (map v c.right.result.now)
    ∙ ap (λ xs. list_any (λ q. is_less q zero_ℚ) (map v xs)) c.right.ensures ∙ phase_one_is v c.args.program.now.rows in
    let rows = rows_agree v c.args.program.now c.row_count.result c.row_count.ensures.form c.row_count.ensures.rows in
    ap (λ s. record { stage = s; tableau = t; basis = c.in_ok-basis.basis.items }) (c.first_stage-stage.ensures ∙ ap first_stage stands)
    ∙ ap₂ (λ t b. record { stage = first_stage (has_phase_one p); tableau = t; basis = b }) c.in_ok-tableau.ensures (c.in_ok-basis.ensures ∙ ap₂ range_with_len c.columns.ensures.columns rows)
