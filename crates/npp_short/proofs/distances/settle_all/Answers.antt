use Rattle.std.proofs.Common.{List, Option, Some, ap, set, arith}
use Rattle.npp_short.specs.declared.reach.Reach.{Reach}
use Rattle.npp_short.proofs.Partial.{no_way, partial_start, partial_more}
use Rattle.npp_short.proofs.Waiting.{waits_start}
use Rattle.npp_short.proofs.Nearest.{are_potentials}
use Rattle.npp_short.proofs.distances.settle_all.Goals as goal

pub loop-node-init : goal.loop-node-init
loop-node-init c = record {
  partial = partial_start _ _ _ _ _ _ c.requires.within c.requires.empty c.requires.none;
  waiting =
      waits_start _ _ _ _ _ _ c.requires.within
      (ap (λ (t : List (Option Reach)). set t c.args.destination.0 (Some no_way)) c.requires.empty)
      c.new-queue.ensures c.in_ok-push.ensures;
}

pub loop-node-preserved : goal.loop-node-preserved
loop-node-preserved c = record {
  partial = partial_more _ _ _ _ _ _ _ _ _ _ c.requires.limits.each_arc c.in-Some.ensures.next c.in_ok-settle.ensures.settles c.loop-node.invariant.partial;
  waiting = c.in_ok-settle.ensures.waiting _ c.in-Some.ensures.waiting;
}

pub loop-node-smaller : goal.loop-node-smaller
loop-node-smaller c =
    let within = (partial_more _ _ _ _ _ _ _ _ _ _ c.requires.limits.each_arc c.in-Some.ensures.next c.in_ok-settle.ensures.settles c.loop-node.invariant.partial).within in
    omega (arith, within)

pub returns : goal.returns
returns c = are_potentials _ _ _ _ _ _ _ c.in_default.ensures.next c.loop-node.invariant.partial
