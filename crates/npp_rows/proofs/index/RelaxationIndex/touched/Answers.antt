use Rattle.std.proofs.Common.{◌≡◌, ◌<◌, ◌+◌, ◌++◌, ℕ, List, true, refl, length, map, take, take_all, All, sym, ap, subst, ◌∙◌, eqb}
use Rattle.std.proofs.lemmas.List.Elements.{All-nil}
use Rattle.std.proofs.lemmas.List.Filters.{dedup_is}
use Rattle.npp_lp.specs.Meaning.{terms_of}
use Rattle.npp_frac.specs.Rational.{Rational}
use Rattle.npp_rows.specs.declared.names.Multiplier.{Multiplier}
use Rattle.npp_rows.specs.RowOrder.{has_row}
use Rattle.npp_rows.specs.Named.{NamedProgram}
use Rattle.npp_rows.specs.Meaning.{cut_value, multiplier_value}
use Rattle.npp_rows.specs.Relax.{relaxation, relaxation_rows, relaxation_columns}
use Rattle.npp_rows.specs.Rows.{IsRow}
use Rattle.npp_rows.specs.Rounding.{StandOnlyIn}
use Rattle.npp_rows.proofs.ProgramLaws.{all_rows}
use Rattle.npp_rows.proofs.TakenLaws.{passes_each, rows_meant, meant_more}
use Rattle.npp_rows.proofs.TouchedLaws.{no_row_stands, row_stands, row_inside, row_is, sorted_rise, sorted_inside, sorted_stand}
use Rattle.npp_rows.proofs.index.RelaxationIndex.touched.Goals as goal

pub loop-multiplier-init : goal.loop-multiplier-init
loop-multiplier-init g c = (
  rw c.new-columns.ensures.items (All-nil (λ j. j < length (relaxation_columns c.args.self.now.paths c.args.self.now.parts))),
  rw c.new-columns.ensures.items (no_row_stands (relaxation c.args.self.now.paths c.args.self.now.parts (map (cut_value g.N.Exact.rational) c.args.cuts.now))),
)

pub write_row-requires-clause-row : goal.write_row-requires-clause-row
write_row-requires-clause-row g c =
    let m = c.args.self.now.paths in
    let parts = c.args.self.now.parts in
    let rows = relaxation_rows c.args.self.now.paths c.args.self.now.parts (length c.args.cuts.now) in
    let here : has_row (relaxation_rows c.args.self.now.paths c.args.self.now.parts (length c.args.cuts.now)) c.multiplier-item.result.row ≡ true =
    passes_each (λ (y : Multiplier g.row.N.Denot). has_row (relaxation_rows c.args.self.now.paths c.args.self.now.parts (length c.args.cuts.now)) y.row) c.args.multipliers.now c.loop-multiplier.multiplier-index c.multiplier-item.result c.loop-multiplier-test.true c.multiplier-item.is
    (sym (rows_meant g.N.Exact.rational (relaxation_rows c.args.self.now.paths c.args.self.now.parts (length c.args.cuts.now)) c.args.multipliers.now) ∙ c.requires.rows) in
    row_is (IsRow m parts (length c.args.cuts.now)) rows c.multiplier-item.result.row _ (all_rows m parts (length c.args.cuts.now)) refl here

pub loop-multiplier-preserved : goal.loop-multiplier-preserved
loop-multiplier-preserved g c =
    let v = g.N.Exact.rational in
    let p : NamedProgram = relaxation c.args.self.now.paths c.args.self.now.parts (map (cut_value g.N.Exact.rational) c.args.cuts.now) in
    let y = multiplier_value v c.multiplier-item.result in
    let is = ap (terms_of v) c.deref.ensures.value ∙ c.in_ok-write_row.ensures in
    let before = map (multiplier_value v) (take c.loop-multiplier.multiplier-index c.args.multipliers.now) in (
      subst (λ (xs : List ℕ). All (λ j. j < length (relaxation_columns c.args.self.now.paths c.args.self.now.parts)) xs) (sym c.in_ok-push_columns.ensures)
          (row_inside v p y c.deref.result.now is c.loop-multiplier.columns.items c.loop-multiplier.invariant.0),
      subst (λ (xs : List ℕ). StandOnlyIn p (map (multiplier_value v) (take (c.loop-multiplier.multiplier-index + 1) c.args.multipliers.now)) xs) (sym c.in_ok-push_columns.ensures)
          (subst (λ (ys : List (Multiplier Rational)). StandOnlyIn p ys (c.loop-multiplier.columns.items ++ map (λ e. e.column) c.deref.result.now)) (sym (meant_more v c.args.multipliers.now c.loop-multiplier.multiplier-index c.multiplier-item.result c.loop-multiplier-test.true c.multiplier-item.is))
          (row_stands v p y c.deref.result.now is before c.loop-multiplier.columns.items c.loop-multiplier.invariant.1)),
    )

pub returns-clause-rising : goal.returns-clause-rising
returns-clause-rising g c = rw (dedup_is eqb _ _ c.dedup.ensures.filtered) (sorted_rise _ _ c.sort_unstable.ensures.permutation c.sort_unstable.ensures.sorted)

pub returns-clause-inside : goal.returns-clause-inside
returns-clause-inside g c =
    rw (dedup_is eqb _ _ c.dedup.ensures.filtered)
    (sorted_inside _ _ c.sort_unstable.ensures.permutation (length (relaxation_columns c.args.self.now.paths c.args.self.now.parts)) c.loop-multiplier.invariant.0)

pub returns-clause-all : goal.returns-clause-all
returns-clause-all g c =
    let v = g.N.Exact.rational in
    let p : NamedProgram = relaxation c.args.self.now.paths c.args.self.now.parts (map (cut_value g.N.Exact.rational) c.args.cuts.now) in
    rw (dedup_is eqb _ _ c.dedup.ensures.filtered)
    (sorted_stand _ _ c.sort_unstable.ensures.permutation p (map (multiplier_value v) c.args.multipliers.now)
    (subst (λ (ys : List (Multiplier g.row.N.Denot)). StandOnlyIn p (map (multiplier_value v) ys) c.loop-multiplier.columns.items) (take_all c.loop-multiplier.multiplier-index c.args.multipliers.now c.loop-multiplier-test.false) c.loop-multiplier.invariant.1))
