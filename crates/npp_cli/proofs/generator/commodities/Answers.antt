use Rattle.std.proofs.Common.{◌≡◌, sym, ◌∙◌, ap, map, arith}
use Rattle.npp_cli.specs.Generated.{side_pair, first_numbers}
use Rattle.npp_cli.proofs.Growth.{map_first_more}
use Rattle.npp_cli.proofs.generator.commodities.Goals as goal

pub loop-j-preserved : goal.loop-j-preserved
loop-j-preserved c =
    rw (map_first_more (side_pair c.args.number) c.loop-j.j, sym c.loop-j.invariant) (rw c.side_pair.ensures at c.in_ok-push.ensures.items)

pub returns : goal.returns
returns c =
    let all : c.loop-j.j ≡ 10 = omega arith in
    c.loop-j.invariant ∙ ap (λ n. map (side_pair c.args.number) (first_numbers n)) all
