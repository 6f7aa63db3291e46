use Rattle.std.proofs.Common.{subst}
use Rattle.npp_net.specs.declared.types.NetArc.{NetArc}
use Rattle.npp_short.specs.Following.{IsTight}
use Rattle.npp_short.proofs.Following.{tight_listed, leaving_at}
use Rattle.npp_short.proofs.walk.next_arc.Goals as goal

pub arc_at-x-requires : goal.arc_at-x-requires
arc_at-x-requires c = (leaving_at _ _ _ _ c.leaving-arc-items.ensures c.loop-arc-test.true).in_range

pub unreachable-requires : goal.unreachable-requires
unreachable-requires c = tight_listed _ _ _ _ _ _ _ _ _ c.requires.potentials c.requires.limits.each_arc c.requires.within c.requires.here c.requires.more c.leaving-arc-items.ensures c.loop-arc-test.false c.loop-arc.invariant

pub returns-in-Some : goal.returns-in-Some
returns-in-Some c =
    let at = leaving_at _ _ _ _ c.leaving-arc-items.ensures c.loop-arc-test.true in
    record {
      in_range = at.in_range;
      from = at.node;
      tight = subst (λ (x : NetArc). IsTight c.args.with_tolls c.args.table.now c.args.left x c.in-Some.after) c.arc_at-x.ensures.value c.in-Some.ensures;
    }
