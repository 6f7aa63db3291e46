use Rattle.std.proofs.Common.{map, sym, ◌∙◌, arith}
use Rattle.npp_search.proofs.DivisionLaws.{shares_take, shares_keep, shares_pass}
use Rattle.npp_search.proofs.division.by_shares.Goals as goal
use Rattle.npp_search.proofs.division.by_shares.Goals.{then-len-ge2+then-is_below, then-len-ge2+else-is_below, else-len-ge2}

pub loop-k-preserved : goal.loop-k-preserved
loop-k-preserved g c =
    let v = g.N.Exact.rational in
    let shares = map (map v) c.args.shares.now in
    elim c.if-len-ge2.branch [
      | then-len-ge2+then-is_below w ↦
          shares_take v c.args.parts.now shares c.loop-k.k c.loop-k.least c.loop-k.invariant.0 c.loop-k.invariant.1 c.if-len-ge2.least w.candidate_of-next.result w.candidate_of-next.ensures
          c.index-parts-k.result c.loop-k-test.true c.index-parts-k.is (omega (arith, w.if-len-ge2.true, c.len.ensures)) (sym w.is_below.ensures ∙ w.if-is_below.true) w.least-is
      | then-len-ge2+else-is_below w ↦
          shares_keep v c.args.parts.now shares c.loop-k.k c.loop-k.least c.loop-k.invariant.0 c.loop-k.invariant.1 c.if-len-ge2.least w.candidate_of-next.result w.candidate_of-next.ensures
          c.index-parts-k.result c.loop-k-test.true c.index-parts-k.is (omega (arith, w.if-len-ge2.true, c.len.ensures)) (sym w.is_below.ensures ∙ w.if-is_below.false) w.least-is
      | else-len-ge2 w ↦
          shares_pass v c.args.parts.now shares c.loop-k.k c.loop-k.least c.loop-k.invariant.0 c.loop-k.invariant.1 c.if-len-ge2.least
          c.index-parts-k.result c.loop-k-test.true c.index-parts-k.is (λ more. (let few = w.if-len-ge2.false in absurd (omega (arith, more, few, c.len.ensures)))) w.least-is
    ]
