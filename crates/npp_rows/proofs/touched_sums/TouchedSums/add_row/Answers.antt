use Rattle.std.proofs.Common.{◌≡◌, ◌<◌, ◌^◌, ℕ, List, All, length, map, sym, subst, ◌∙◌, arith}
use Rattle.std.specs.Prelude.{Contains}
use Rattle.std.proofs.lemmas.List.{length-map}
use Rattle.npp_frac.specs.Fits.{limit_of}
use Rattle.npp_lp.specs.declared.program.Entry.{Entry}
use Rattle.npp_lp.specs.Programs.{Term}
use Rattle.npp_lp.specs.Meaning.{terms_of, sum_result}
use Rattle.npp_lp.specs.RunningSums.{Sums, sums_meant, TakesRow}
use Rattle.npp_rows.specs.Spread.{Touched, spread, in_column}
use Rattle.npp_rows.proofs.SpreadLaws.{few_below, places_of_rising, terms_inside, spread_takes}
use Rattle.npp_rows.proofs.touched_sums.TouchedSums.add_row.Goals as goal

pub place_entries-requires-clause-few : goal.place_entries-requires-clause-few
place_entries-requires-clause-few g c =
    let few : length c.self.inside.columns.items < 2 ^ 32 = omega (arith, few_below c.self.inside.count c.self.inside.columns.items c.self.invariant.rising c.self.invariant.inside, c.self.invariant.few) in
    rw c.deref.ensures.value few

pub place_entries-requires-clause-stand : goal.place_entries-requires-clause-stand
place_entries-requires-clause-stand g c =
    rw c.deref.ensures.value
    (subst (λ (t : Touched). All (λ (e : Entry g.row.N.Denot). Contains t.columns e.column) c.args.entries.now) (sym c.self.view_is) c.requires.stand)

pub add_row-requires-clause-rising : goal.add_row-requires-clause-rising
add_row-requires-clause-rising g c =
    rw c.deref-2.ensures.value
    (places_of_rising g.N.Exact.rational c.self.inside.columns.items c.args.entries.now c.place_entries.new.placed.items c.self.invariant.rising
    (rw c.deref.ensures.value at c.in_ok-place_entries.ensures.same) (rw c.deref.ensures.value at c.in_ok-place_entries.ensures.inside) c.requires.rising)

pub returns-clause-row : goal.returns-clause-row
returns-clause-row g c =
    let v = g.N.Exact.rational in
    let inside = c.self.inside in
    let columns : List ℕ = inside.columns.items in
    let now : Sums _ = spread inside.count columns (sums_meant v c.add_row.new.self) in
    let same : terms_of v c.args.entries.now ≡ map (in_column columns) (terms_of v c.place_entries.new.placed.items) = rw c.deref.ensures.value at c.in_ok-place_entries.ensures.same in
    let within = terms_inside v columns c.place_entries.new.placed.items (rw c.deref.ensures.value at c.in_ok-place_entries.ensures.inside) in
    subst (λ (t : Touched). TakesRow (limit_of g.N.Exact.WIDTH) t.all now c.args.row (terms_of v c.args.entries.now) (v c.args.right) (v c.args.multiplier)) c.self.view_is
    (subst (λ (ts : List Term). TakesRow (limit_of g.N.Exact.WIDTH) (spread inside.count columns (sums_meant v inside.sums)) now c.args.row ts (v c.args.right) (v c.args.multiplier)) (sym same)
    (spread_takes g.N.Exact.WIDTH g.met.N.Exact.width inside.count columns c.self.invariant.rising (sums_meant v inside.sums) (sums_meant v c.add_row.new.self) (length-map inside.sums.columns (sum_result v) ∙ c.self.invariant.size)
    c.args.row (terms_of v c.place_entries.new.placed.items) (v c.args.right) (v c.args.multiplier) within (rw c.deref-2.ensures.value at c.add_row.ensures)))
