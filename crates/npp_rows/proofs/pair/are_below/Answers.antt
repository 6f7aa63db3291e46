use Rattle.std.proofs.Common.{get_or, nat_lt}
use Rattle.std.proofs.lemmas.Bool.{lt-ltb, le-ltb}
use Rattle.std.proofs.lemmas.List.{get_or_default}
use Rattle.npp_rows.proofs.TakenLaws.{passes_more, passes_not, passes_all}
use Rattle.npp_rows.proofs.pair.are_below.Goals as goal

pub returns-then-number-count : goal.returns-then-number-count
returns-then-number-count c =
    let i = c.loop-number.number-index in
    let x = get_or c.args.numbers.now c.loop-number.number-index 0 in
    passes_not (λ j. nat_lt j c.args.count) c.args.numbers.now i x c.loop-number-test.true (get_or_default c.args.numbers.now i 0 x c.loop-number-test.true) (le-ltb x c.args.count c.if-number-count.true)

pub loop-number-preserved : goal.loop-number-preserved
loop-number-preserved c =
    let i = c.loop-number.number-index in
    let x = get_or c.args.numbers.now c.loop-number.number-index 0 in
    passes_more (λ j. nat_lt j c.args.count) c.args.numbers.now i x c.loop-number-test.true (get_or_default c.args.numbers.now i 0 x c.loop-number-test.true) (lt-ltb x c.args.count c.if-number-count.false) c.loop-number.invariant

pub returns : goal.returns
returns c = passes_all (λ j. nat_lt j c.args.count) c.args.numbers.now c.loop-number.number-index c.loop-number-test.false c.loop-number.invariant
