use Rattle.std.proofs.Common.{List, map, Ok, sym, ◌∙◌, inr}
use Rattle.npp_frac.specs.Rational.{Rational}
use Rattle.npp_frac.specs.Fits.{limit_of}
use Rattle.npp_lp.specs.Meaning.{farkas_fault}
use Rattle.npp_lp.specs.Verdict.{unless}
use Rattle.npp_rows.specs.declared.names.Multiplier.{Multiplier}
use Rattle.npp_rows.specs.Named.{NamedProgram}
use Rattle.npp_rows.specs.Cuts.{conflict_cut}
use Rattle.npp_rows.specs.Inverse.{conflict_program, two_chosen}
use Rattle.npp_rows.specs.Derivations.{conflict_fault}
use Rattle.npp_rows.specs.Meaning.{multiplier_value, cut_fault_value}
use Rattle.npp_rows.proofs.RowPlaces.{choice_rows_rise}
use Rattle.npp_rows.proofs.FaultLaws.{all_taken, conflict_proved, conflict_refused, row_given, cut_given}
use Rattle.npp_rows.proofs.MarkLaws.{conflict_is_cut}
use Rattle.npp_rows.proofs.conflict.derive_conflict.Goals as goal

pub returns-in-Ok-clause-verdict : goal.returns-in-Ok-clause-verdict
returns-in-Ok-clause-verdict g c =
    let v = g.N.Exact.rational in
    let m = c.args.table.now in
    let ys : List (Multiplier Rational) = map (multiplier_value g.N.Exact.rational) c.args.multipliers.now in
    let program : NamedProgram = conflict_program c.args.table.now c.args.two.k c.args.two.p c.args.two.l c.args.two.q in
    let names = sym c.are_two_paths.ensures ∙ c.if-not-are_two_paths.false in
    let rows = sym c.are_conflict_rows.ensures ∙ c.if-not-are_conflict_rows.false in
    let order = sym c.are_in_order.ensures ∙ c.if-not-are_in_order.false in
    let positive = sym c.are_positive.ensures ∙ c.if-not-are_positive.false in
    let taken = all_taken v g.N.Exact.WIDTH m c.args.two.k c.args.two.p c.args.two.l c.args.two.q ys names rows order positive c.in_ok-sums.sums c.in_ok-sums.ensures in
    row_given v (conflict_cut c.args.two.k c.args.two.p c.args.two.l c.args.two.q) (unless (conflict_fault (limit_of g.N.Exact.WIDTH) m c.args.two.k c.args.two.p c.args.two.l c.args.two.q ys) (Ok (conflict_cut c.args.two.k c.args.two.p c.args.two.l c.args.two.q))) c.conflict_row.result
    (conflict_proved v g.N.Exact.WIDTH m c.args.two.k c.args.two.p c.args.two.l c.args.two.q ys names rows order positive (c.in-Ok.ensures program ys (choice_rows_rise m (two_chosen c.args.two.k c.args.two.p c.args.two.l c.args.two.q)) taken))
    c.conflict_row.ensures.row c.conflict_row.ensures.refused

pub returns-in-Ok-clause-cut : goal.returns-in-Ok-clause-cut
returns-in-Ok-clause-cut g c =
    cut_given g.N.Exact.rational c.args.table.now (conflict_cut c.args.two.k c.args.two.p c.args.two.l c.args.two.q) c.conflict_row.result
    (conflict_is_cut c.args.table.now c.args.two.k c.args.two.p c.args.two.l c.args.two.q (sym c.are_two_paths.ensures ∙ c.if-not-are_two_paths.false)) c.conflict_row.ensures.row

pub returns-clause-verdict : goal.returns-clause-verdict
returns-clause-verdict g c =
    let v = g.N.Exact.rational in
    let m = c.args.table.now in
    let ys : List (Multiplier Rational) = map (multiplier_value g.N.Exact.rational) c.args.multipliers.now in
    let program : NamedProgram = conflict_program c.args.table.now c.args.two.k c.args.two.p c.args.two.l c.args.two.q in
    let names = sym c.are_two_paths.ensures ∙ c.if-not-are_two_paths.false in
    let rows = sym c.are_conflict_rows.ensures ∙ c.if-not-are_conflict_rows.false in
    let order = sym c.are_in_order.ensures ∙ c.if-not-are_in_order.false in
    let positive = sym c.are_positive.ensures ∙ c.if-not-are_positive.false in
    let taken = all_taken v g.N.Exact.WIDTH m c.args.two.k c.args.two.p c.args.two.l c.args.two.q ys names rows order positive c.in_ok-sums.sums c.in_ok-sums.ensures in
    inr (conflict_refused v g.N.Exact.WIDTH m c.args.two.k c.args.two.p c.args.two.l c.args.two.q ys names rows order positive (farkas_fault v c.in-Err.fault) (cut_fault_value v c.cut_fault.result)
    (c.in-Err.ensures program ys (choice_rows_rise m (two_chosen c.args.two.k c.args.two.p c.args.two.l c.args.two.q)) taken) c.cut_fault.ensures)
