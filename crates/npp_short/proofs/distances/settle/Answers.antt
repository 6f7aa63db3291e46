use Rattle.std.proofs.Common.{subst}
use Rattle.npp_net.specs.declared.types.NetArc.{NetArc}
use Rattle.npp_net.specs.Distance.{IsUsable}
use Rattle.npp_short.specs.Settling.{Offers}
use Rattle.npp_short.proofs.Offering.{entering_at, offers_skip, offers_take, offers_all}
use Rattle.npp_short.proofs.distances.settle.Goals as goal
use Rattle.npp_short.proofs.distances.settle.Goals.{then-is_usable+in_ok-relax, else-is_usable}

pub arc_at-x-requires : goal.arc_at-x-requires
arc_at-x-requires c = (entering_at _ _ _ _ c.entering-arc-items.ensures c.loop-arc-test.true).in_range

pub loop-arc-preserved : goal.loop-arc-preserved
loop-arc-preserved c = elim c.if-is_usable.branch [
  | then-is_usable+in_ok-relax w ↦
      let x = c.arc_at-x.ensures.value in
      let usable = subst (λ (y : NetArc). IsUsable c.args.with_tolls y) x w.if-is_usable.ensures in
      let offered = subst (λ (y : NetArc). Offers y c.args.from c.loop-arc.table w.relax.new.table) x w.in_ok-relax.ensures.offers in
      rw (w.table-is, w.queue-is) (record {
        offers = offers_take _ _ _ _ _ _ _ _ _ c.entering-arc-items.ensures c.loop-arc-test.true usable offered c.loop-arc.invariant.offers;
        waiting = λ done a. w.in_ok-relax.ensures.waiting done (c.loop-arc.invariant.waiting done a);
      })
  | else-is_usable w ↦
      let not_usable = subst (λ (y : NetArc). ¬ IsUsable c.args.with_tolls y) c.arc_at-x.ensures.value w.if-is_usable.ensures in
      rw (w.table-is, w.queue-is) (record {
        offers = offers_skip _ _ _ _ _ _ _ _ not_usable c.loop-arc.invariant.offers;
        waiting = c.loop-arc.invariant.waiting;
      })
]

pub returns-clause-settles : goal.returns-clause-settles
returns-clause-settles c = offers_all _ _ _ _ _ _ _ _ c.entering-arc-items.ensures c.loop-arc-test.false c.loop-arc.invariant.offers
