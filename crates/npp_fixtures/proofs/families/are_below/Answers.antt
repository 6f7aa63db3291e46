use Rattle.std.proofs.Common.{ℕ, ◌<◌, List, All, subst}
use Rattle.std.proofs.lemmas.List.{take_all}
use Rattle.std.proofs.lemmas.List.Elements.{All-more}
use Rattle.npp_fixtures.proofs.families.are_below.Goals as goal

pub loop-number-preserved : goal.loop-number-preserved
loop-number-preserved c =
    All-more (λ (n : ℕ). n < c.args.limit) c.args.numbers.now c.loop-number.number-index 0 c.loop-number-test.true c.loop-number.invariant c.if-number-limit.false

pub returns : goal.returns
returns c = λ t.
    subst (λ (ns : List ℕ). All (λ n. n < c.args.limit) ns) (take_all c.loop-number.number-index c.args.numbers.now c.loop-number-test.false) c.loop-number.invariant
