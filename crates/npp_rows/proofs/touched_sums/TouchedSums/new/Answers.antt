use Rattle.std.proofs.Common.{◌≡◌, length, arith}
use Rattle.npp_lp.specs.RunningSums.{sums_meant}
use Rattle.npp_rows.proofs.SpreadLaws.{few_below, spread_empty}
use Rattle.npp_rows.proofs.touched_sums.TouchedSums.new.Goals as goal

pub overflow_cast-len : goal.overflow_cast-len
overflow_cast-len g c = omega (arith, few_below c.args.count c.args.columns.items c.requires.rising c.requires.inside, c.ranges.count.fits, c.len.ensures)

pub returns-clause-empty : goal.returns-clause-empty
returns-clause-empty g c =
    let size : c.len.result ≡ length c.args.columns.items = omega (arith, c.len.ensures) in
    spread_empty c.args.count c.args.columns.items c.requires.rising (sums_meant g.N.Exact.rational c.in-Ok.sums) (rw size at c.in-Ok.ensures)
