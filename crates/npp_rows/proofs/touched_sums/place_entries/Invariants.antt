use Rattle.std.proofs.Common.{◌≡◌, ◌<◌, All, length, map, take}
use Rattle.npp_lp.specs.Meaning.{terms_of}
use Rattle.npp_rows.specs.Spread.{in_column}
use Rattle.npp_rows.proofs.touched_sums.place_entries.Given as goal

abbrev pub invariant-loop-entry : goal.invariant-loop-entry
invariant-loop-entry g l =
    (All (λ e. e.column < length l.columns) l.placed.items)
    × (terms_of g.N.Exact.rational (take l.entry-index l.entries) ≡ map (in_column l.columns) (terms_of g.N.Exact.rational l.placed.items))
