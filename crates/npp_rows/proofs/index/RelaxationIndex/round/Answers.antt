use Rattle.std.proofs.Common.{List, length, map, true, false, refl, sym, ◌∙◌, inr}
use Rattle.npp_frac.specs.Rational.{Rational}
use Rattle.npp_rows.specs.declared.names.Multiplier.{Multiplier}
use Rattle.npp_rows.specs.Meaning.{cut_value, cut_fault_value, multiplier_value}
use Rattle.npp_rows.specs.Relax.{relaxation, relaxation_columns}
use Rattle.npp_rows.proofs.RowPlaces.{relaxation_rows_rise}
use Rattle.npp_rows.proofs.FaultLaws.{fault_handed, verdict_moved}
use Rattle.npp_rows.proofs.SumFaults.{rows_of_cuts, round_bad_rows, round_bad_order, round_bad_sign, toll_refused, round_proved, rounded_row}
use Rattle.npp_rows.proofs.index.RelaxationIndex.round.Goals as goal

pub returns-then-not-are_rows-clause-verdict : goal.returns-then-not-are_rows-clause-verdict
returns-then-not-are_rows-clause-verdict g c =
    let ys : List (Multiplier Rational) = map (multiplier_value g.N.Exact.rational) c.args.multipliers.now in
    inr (round_bad_rows g.N.Exact.WIDTH g.met.N.Exact.width (relaxation c.args.self.now.paths c.args.self.now.parts (map (cut_value g.N.Exact.rational) c.args.earlier.now)) ys
    (rows_of_cuts g.N.Exact.rational c.args.self.now.paths c.args.self.now.parts c.args.earlier.now ys false (sym c.are_rows.ensures ∙ c.if-not-are_rows.true)))

pub returns-then-not-are_in_order-clause-verdict : goal.returns-then-not-are_in_order-clause-verdict
returns-then-not-are_in_order-clause-verdict g c =
    let ys : List (Multiplier Rational) = map (multiplier_value g.N.Exact.rational) c.args.multipliers.now in
    let rows = rows_of_cuts g.N.Exact.rational c.args.self.now.paths c.args.self.now.parts c.args.earlier.now (map (multiplier_value g.N.Exact.rational) c.args.multipliers.now) true (sym c.are_rows.ensures ∙ c.if-not-are_rows.false) in
    inr (round_bad_order g.N.Exact.WIDTH g.met.N.Exact.width (relaxation c.args.self.now.paths c.args.self.now.parts (map (cut_value g.N.Exact.rational) c.args.earlier.now)) ys rows (sym c.are_in_order.ensures ∙ c.if-not-are_in_order.true))

pub returns-then-not-are_positive-clause-verdict : goal.returns-then-not-are_positive-clause-verdict
returns-then-not-are_positive-clause-verdict g c =
    let ys : List (Multiplier Rational) = map (multiplier_value g.N.Exact.rational) c.args.multipliers.now in
    let rows = rows_of_cuts g.N.Exact.rational c.args.self.now.paths c.args.self.now.parts c.args.earlier.now (map (multiplier_value g.N.Exact.rational) c.args.multipliers.now) true (sym c.are_rows.ensures ∙ c.if-not-are_rows.false) in
    let order = sym c.are_in_order.ensures ∙ c.if-not-are_in_order.false in
    inr (round_bad_sign g.N.Exact.WIDTH g.met.N.Exact.width (relaxation c.args.self.now.paths c.args.self.now.parts (map (cut_value g.N.Exact.rational) c.args.earlier.now)) ys rows order (sym c.are_positive.ensures ∙ c.if-not-are_positive.true))

pub returns-in_err-tolls_cancel-clause-verdict : goal.returns-in_err-tolls_cancel-clause-verdict
returns-in_err-tolls_cancel-clause-verdict g c =
    let ys : List (Multiplier Rational) = map (multiplier_value g.N.Exact.rational) c.args.multipliers.now in
    let rows = rows_of_cuts g.N.Exact.rational c.args.self.now.paths c.args.self.now.parts c.args.earlier.now (map (multiplier_value g.N.Exact.rational) c.args.multipliers.now) true (sym c.are_rows.ensures ∙ c.if-not-are_rows.false) in
    let order = sym c.are_in_order.ensures ∙ c.if-not-are_in_order.false in
    let positive = sym c.are_positive.ensures ∙ c.if-not-are_positive.false in
    let rises = relaxation_rows_rise c.args.self.now.paths c.args.self.now.parts (length (map (cut_value g.N.Exact.rational) c.args.earlier.now)) in
    fault_handed g.N.Exact.rational _ c.from_residual-in_err-tolls_cancel.result c.in_err-tolls_cancel.field-0.0 c.from_residual-in_err-tolls_cancel.ensures.1
    (inr (toll_refused g.N.Exact.WIDTH g.met.N.Exact.width (relaxation c.args.self.now.paths c.args.self.now.parts (map (cut_value g.N.Exact.rational) c.args.earlier.now)) ys rows order positive rises c.in_ok-sums.sums.all c.in_ok-sums.ensures
    (relaxation_columns c.args.self.now.paths c.args.self.now.parts) refl (cut_fault_value g.N.Exact.rational c.in_err-tolls_cancel.field-0.0) c.in_err-tolls_cancel.ensures))

pub returns-clause-verdict : goal.returns-clause-verdict
returns-clause-verdict g c =
    let ys : List (Multiplier Rational) = map (multiplier_value g.N.Exact.rational) c.args.multipliers.now in
    let rows = rows_of_cuts g.N.Exact.rational c.args.self.now.paths c.args.self.now.parts c.args.earlier.now (map (multiplier_value g.N.Exact.rational) c.args.multipliers.now) true (sym c.are_rows.ensures ∙ c.if-not-are_rows.false) in
    let order = sym c.are_in_order.ensures ∙ c.if-not-are_in_order.false in
    let positive = sym c.are_positive.ensures ∙ c.if-not-are_positive.false in
    let rises = relaxation_rows_rise c.args.self.now.paths c.args.self.now.parts (length (map (cut_value g.N.Exact.rational) c.args.earlier.now)) in
    verdict_moved g.N.Exact.rational _ _ c.rounded.result
    (round_proved g.N.Exact.WIDTH g.met.N.Exact.width (relaxation c.args.self.now.paths c.args.self.now.parts (map (cut_value g.N.Exact.rational) c.args.earlier.now)) ys rows order positive rises c.in_ok-sums.sums.all c.in_ok-sums.ensures
    (relaxation_columns c.args.self.now.paths c.args.self.now.parts) refl c.in_ok-tolls_cancel.ensures) c.rounded.ensures

pub returns-clause-cut : goal.returns-clause-cut
returns-clause-cut g c =
    rounded_row g.N.Exact.rational c.args.self.now.paths c.args.self.now.parts c.in_ok-sums.sums.all (relaxation_columns c.args.self.now.paths c.args.self.now.parts) c.rounded.result c.table-table.ensures.allowed
    refl c.rounded.ensures
