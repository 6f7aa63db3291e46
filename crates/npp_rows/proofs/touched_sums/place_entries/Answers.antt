use Rattle.std.proofs.Common.{◌≡◌, ◌<◌, ◌+◌, List, All, length, map, take, sym, subst}
use Rattle.npp_lp.specs.declared.program.Entry.{Entry}
use Rattle.npp_lp.specs.Meaning.{terms_of}
use Rattle.npp_rows.specs.Spread.{in_column}
use Rattle.npp_rows.proofs.SpreadLaws.{entry_stands, placed_more}
use Rattle.npp_rows.proofs.touched_sums.place_entries.Goals as goal

pub place_near-place-requires-clause-here : goal.place_near-place-requires-clause-here
place_near-place-requires-clause-here g c = entry_stands c.args.columns.now c.args.entries.now c.loop-entry.entry-index c.entry-item.result c.requires.stand c.loop-entry-test.true c.entry-item.is

pub loop-entry-preserved : goal.loop-entry-preserved
loop-entry-preserved g c =
    let v = g.N.Exact.rational in
    let columns = c.args.columns.now in
    let P : List (Entry g.row.N.Denot) → Type 0 = λ ps. (All (λ e. e.column < length columns) ps) × (terms_of v (take (c.loop-entry.entry-index + 1) c.args.entries.now) ≡ map (in_column columns) (terms_of v ps)) in
    subst P (sym c.in_ok-push.ensures.items)
    (placed_more v columns c.args.entries.now c.loop-entry.placed.items c.loop-entry.entry-index c.place_near-place.result c.entry-item.result c.loop-entry-test.true c.entry-item.is c.place_near-place.ensures.inside c.place_near-place.ensures.at c.loop-entry.invariant)
