use Rattle.std.proofs.Common.{◌+◌, ◌<◌, take, get_or, arith}
use Rattle.std.proofs.lemmas.List.{get_or_default}
use Rattle.npp_fixtures.proofs.RisingLaws.{front_more, all_more, pairs_more}
use Rattle.npp_fixtures.proofs.families.is_part.Goals as goal

pub loop-i-preserved : goal.loop-i-preserved
loop-i-preserved c =
    let xs = c.args.part.now in
    let i = c.loop-i.i in
    let x = get_or xs i 0 in
    let more = front_more xs i x c.loop-i-test.true (get_or_default xs i 0 x c.loop-i-test.true) in (
      pairs_more (take i xs) (take (i + 1) xs) x more (λ p q. p < q) c.loop-i.invariant.0 (c.are_below.ensures c.if-not-are_below.false),
      all_more (take i xs) (take (i + 1) xs) x more (λ p. p < c.args.count) c.loop-i.invariant.1 (omega arith),
    )
