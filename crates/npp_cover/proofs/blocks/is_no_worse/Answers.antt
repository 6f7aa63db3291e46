use Rattle.std.proofs.Common.{◌&&◌, nat_eq, bit_and, sym, ◌∙◌, ap, Bool}
use Rattle.npp_cover.proofs.TestLemmas.{test_of_le}
use Rattle.npp_cover.proofs.SetLemmas.{within_is}
use Rattle.npp_cover.proofs.blocks.is_no_worse.Goals as goal

pub returns-then-pair-cost : goal.returns-then-pair-cost
returns-then-pair-cost c =
    within_is c.is_within.result c.args.pair.tolls c.args.tolls c.is_within.ensures
    ∙ ap (λ (b : Bool). b && nat_eq (bit_and c.args.pair.tolls c.args.tolls) c.args.pair.tolls) (sym (test_of_le c.args.pair.cost c.args.cost c.if-pair-cost.true))
