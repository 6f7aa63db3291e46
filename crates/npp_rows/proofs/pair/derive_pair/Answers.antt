use Rattle.std.proofs.Common.{◌≡◌, ◌<◌, ℕ, map, All, Result, Ok, sym, ap, subst, ◌∙◌, inl, inr}
use Rattle.std.proofs.lemmas.List.{length-map}
use Rattle.npp_frac.specs.Rational.{Rational}
use Rattle.npp_rows.specs.declared.cut.CutFault.{CutFault}
use Rattle.npp_rows.specs.Cuts.{Cut, IsCut, exclusion, conflict_choices}
use Rattle.npp_rows.specs.Meaning.{cut_value, cut_fault_value}
use Rattle.npp_rows.proofs.PairLaws.{marked_are_choices}
use Rattle.npp_rows.proofs.FaultLaws.{fault_handed}
use Rattle.npp_rows.proofs.MarkLaws.{names_meant, pair_bad_names, pair_bad_cuts, pair_strange, pair_proved, pair_is_cut, other_is_there, cuts_are_there}
use Rattle.npp_rows.proofs.pair.derive_pair.Goals as goal

pub returns-then-not-are_pair_names-clause-verdict : goal.returns-then-not-are_pair_names-clause-verdict
returns-then-not-are_pair_names-clause-verdict g c =
    inr (pair_bad_names c.args.table.now (map (cut_value g.N.Exact.rational) c.args.earlier.now) c.args.pair.k c.args.pair.p c.args.pair.l c.args.cuts.now (sym (names_meant g.N.Exact.rational c.args.table.now c.args.earlier.now c.args.pair.k c.args.pair.p c.args.pair.l c.args.cuts.now c.are_pair_names.result c.are_pair_names.ensures) ∙ c.if-not-are_pair_names.true))

pub returns-then-not-are_pair_cuts-clause-verdict : goal.returns-then-not-are_pair_cuts-clause-verdict
returns-then-not-are_pair_cuts-clause-verdict g c =
    let names = sym (names_meant g.N.Exact.rational c.args.table.now c.args.earlier.now c.args.pair.k c.args.pair.p c.args.pair.l c.args.cuts.now c.are_pair_names.result c.are_pair_names.ensures) ∙ c.if-not-are_pair_names.false in
    inr (pair_bad_cuts c.args.table.now (map (cut_value g.N.Exact.rational) c.args.earlier.now) c.args.pair.k c.args.pair.p c.args.pair.l c.args.cuts.now names (sym c.are_pair_cuts.ensures ∙ c.if-not-are_pair_cuts.true))

pub choices-requires-clause-pair : goal.choices-requires-clause-pair
choices-requires-clause-pair g c =
    let names = sym (names_meant g.N.Exact.rational c.args.table.now c.args.earlier.now c.args.pair.k c.args.pair.p c.args.pair.l c.args.cuts.now c.are_pair_names.result c.are_pair_names.ensures) ∙ c.if-not-are_pair_names.false in
    other_is_there c.args.table.now (map (cut_value g.N.Exact.rational) c.args.earlier.now) c.args.pair.k c.args.pair.p c.args.pair.l c.args.cuts.now names

pub choices-requires-clause-cuts : goal.choices-requires-clause-cuts
choices-requires-clause-cuts g c =
    let names = sym (names_meant g.N.Exact.rational c.args.table.now c.args.earlier.now c.args.pair.k c.args.pair.p c.args.pair.l c.args.cuts.now c.are_pair_names.result c.are_pair_names.ensures) ∙ c.if-not-are_pair_names.false in
    subst (λ (n : ℕ). All (λ i. i < n) c.args.cuts.now) (length-map c.args.earlier.now (cut_value g.N.Exact.rational)) (cuts_are_there c.args.table.now (map (cut_value g.N.Exact.rational) c.args.earlier.now) c.args.pair.k c.args.pair.p c.args.pair.l c.args.cuts.now names)

pub returns-in_err-marks-clause-verdict : goal.returns-in_err-marks-clause-verdict
returns-in_err-marks-clause-verdict g c =
    let names = sym (names_meant g.N.Exact.rational c.args.table.now c.args.earlier.now c.args.pair.k c.args.pair.p c.args.pair.l c.args.cuts.now c.are_pair_names.result c.are_pair_names.ensures) ∙ c.if-not-are_pair_names.false in
    let rising = sym c.are_pair_cuts.ensures ∙ c.if-not-are_pair_cuts.false in
    fault_handed g.N.Exact.rational _ c.from_residual.result c.in_err-marks.field-0.0 c.from_residual.ensures.1
    (elim c.in_err-marks.ensures.strange [
      | inl e ↦ inl e
      | inr e ↦ inr (pair_strange c.args.table.now (map (cut_value g.N.Exact.rational) c.args.earlier.now) c.args.pair.k c.args.pair.p c.args.pair.l c.args.cuts.now names rising (cut_fault_value g.N.Exact.rational c.in_err-marks.field-0.0) e)
    ])

pub returns-clause-verdict : goal.returns-clause-verdict
returns-clause-verdict g c =
    let names = sym (names_meant g.N.Exact.rational c.args.table.now c.args.earlier.now c.args.pair.k c.args.pair.p c.args.pair.l c.args.cuts.now c.are_pair_names.result c.are_pair_names.ensures) ∙ c.if-not-are_pair_names.false in
    let rising = sym c.are_pair_cuts.ensures ∙ c.if-not-are_pair_cuts.false in
    let row : cut_value g.N.Exact.rational c.in_ok-exclusion.field-0 ≡ exclusion c.args.pair.k c.args.pair.p c.args.pair.l (conflict_choices c.args.table.now (map (cut_value g.N.Exact.rational) c.args.earlier.now) c.args.pair.k c.args.pair.p c.args.pair.l c.args.cuts.now) =
    c.in_ok-exclusion.ensures ∙ ap (exclusion c.args.pair.k c.args.pair.p c.args.pair.l) (marked_are_choices c.args.table.now (map (cut_value g.N.Exact.rational) c.args.earlier.now) c.args.pair.k c.args.pair.p c.args.pair.l c.args.cuts.now c.deref.result.now (c.deref.ensures.value ∙ c.in_ok-marks.ensures.marks)) in
    let same : ◌≡◌ {A = Result Cut (CutFault Rational)} (Ok (cut_value g.N.Exact.rational c.in_ok-exclusion.field-0)) (Ok (exclusion c.args.pair.k c.args.pair.p c.args.pair.l (conflict_choices c.args.table.now (map (cut_value g.N.Exact.rational) c.args.earlier.now) c.args.pair.k c.args.pair.p c.args.pair.l c.args.cuts.now))) = ap Ok row in
    inr (same ∙ sym (pair_proved c.args.table.now (map (cut_value g.N.Exact.rational) c.args.earlier.now) c.args.pair.k c.args.pair.p c.args.pair.l c.args.cuts.now names rising c.in_ok-marks.ensures.strange))

pub returns-clause-cut : goal.returns-clause-cut
returns-clause-cut g c =
    let names = sym (names_meant g.N.Exact.rational c.args.table.now c.args.earlier.now c.args.pair.k c.args.pair.p c.args.pair.l c.args.cuts.now c.are_pair_names.result c.are_pair_names.ensures) ∙ c.if-not-are_pair_names.false in
    let row : cut_value g.N.Exact.rational c.in_ok-exclusion.field-0 ≡ exclusion c.args.pair.k c.args.pair.p c.args.pair.l (conflict_choices c.args.table.now (map (cut_value g.N.Exact.rational) c.args.earlier.now) c.args.pair.k c.args.pair.p c.args.pair.l c.args.cuts.now) =
    c.in_ok-exclusion.ensures ∙ ap (exclusion c.args.pair.k c.args.pair.p c.args.pair.l) (marked_are_choices c.args.table.now (map (cut_value g.N.Exact.rational) c.args.earlier.now) c.args.pair.k c.args.pair.p c.args.pair.l c.args.cuts.now c.deref.result.now (c.deref.ensures.value ∙ c.in_ok-marks.ensures.marks)) in
    subst (λ (d : Cut). IsCut c.args.table.now d) (sym row) (pair_is_cut c.args.table.now (map (cut_value g.N.Exact.rational) c.args.earlier.now) c.args.pair.k c.args.pair.p c.args.pair.l c.args.cuts.now names)
