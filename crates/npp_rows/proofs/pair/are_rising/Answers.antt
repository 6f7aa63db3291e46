use Rattle.std.proofs.Common.{get_or, nat_lt, sym, ◌∙◌, refl}
use Rattle.std.proofs.lemmas.List.{get_or_default}
use Rattle.npp_rows.proofs.TakenLaws.{rises_more, rises_no_more, rises_whole}
use Rattle.npp_rows.proofs.pair.are_rising.Goals as goal

pub loop-number-init : goal.loop-number-init
loop-number-init c = (refl, refl)

pub returns-then-not-is_above : goal.returns-then-not-is_above
returns-then-not-is_above c =
    let i = c.loop-number.number-index in
    let x = get_or c.args.numbers.now c.loop-number.number-index 0 in
    rises_no_more nat_lt c.args.numbers.now i x c.loop-number.last c.loop-number-test.true (get_or_default c.args.numbers.now i 0 x c.loop-number-test.true) (sym c.is_above.ensures ∙ c.if-not-is_above.true) c.loop-number.invariant

pub loop-number-preserved : goal.loop-number-preserved
loop-number-preserved c =
    let i = c.loop-number.number-index in
    let x = get_or c.args.numbers.now c.loop-number.number-index 0 in
    rises_more nat_lt c.args.numbers.now i x c.loop-number.last c.loop-number-test.true (get_or_default c.args.numbers.now i 0 x c.loop-number-test.true) (sym c.is_above.ensures ∙ c.if-not-is_above.false) c.loop-number.invariant

pub returns : goal.returns
returns c = rises_whole nat_lt c.args.numbers.now c.loop-number.number-index c.loop-number.last c.loop-number-test.false c.loop-number.invariant
