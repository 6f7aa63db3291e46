use Rattle.std.proofs.Common.{length, subst}
use Rattle.npp_lp.specs.RunningSums.{sums_meant}
use Rattle.npp_rows.specs.Rounding.{HoldSums}
use Rattle.npp_rows.specs.Spread.{Touched, spread}
use Rattle.npp_rows.proofs.SpreadLaws.{spread_size, spread_held}
use Rattle.npp_rows.proofs.touched_sums.TouchedSums.columns.Goals as goal

pub returns-clause-hold : goal.returns-clause-hold
returns-clause-hold g c =
    let inside = c.self.inside in
    let all = spread inside.count inside.columns.items (sums_meant g.N.Exact.rational inside.sums) in
    subst (λ (t : Touched). HoldSums (length t.all.columns) t.all c.deref.result.now) c.self.view_is
    (rw (c.deref.ensures.value, spread_size inside.count inside.columns.items c.self.invariant.rising (sums_meant g.N.Exact.rational inside.sums))
    (spread_held inside.count inside.columns.items c.self.invariant.rising (sums_meant g.N.Exact.rational inside.sums) c.self.invariant.inside))
