use Rattle.std.proofs.Common.{◌≡◌, [], ◌∷◌, ◌++◌, ◌∙◌, ap}
use Rattle.npp_cover.proofs.PartLemmas.{parted_with, parted_without}
use Rattle.npp_cover.proofs.blocks.parted.Goals as goal
use Rattle.npp_cover.proofs.blocks.parted.Goals.{then-has+in_ok-push, else-has+in_ok-push-2}

pub loop-pair-preserved : goal.loop-pair-preserved
loop-pair-preserved c = elim c.if-has.branch [
  | then-has+in_ok-push w ↦
      let with_toll : c.if-has.with.items ≡ c.loop-pair.with.items ++ c.pair-item.result ∷ [] = ap (λ v. v.items) w.with-is ∙ w.in_ok-push.ensures.items in
      let without : c.if-has.without.items ≡ c.loop-pair.without.items = ap (λ v. v.items) w.without-is in
      rw (with_toll, without) (parted_with c.args.toll.0 c.args.pairs.now c.loop-pair.pair-index c.loop-pair.with.items c.loop-pair.without.items c.pair-item.result
      c.loop-pair-test.true c.pair-item.is c.loop-pair.invariant (c.has.ensures.0 w.if-has.true))
  | else-has+in_ok-push-2 w ↦
      let with_toll : c.if-has.with.items ≡ c.loop-pair.with.items = ap (λ v. v.items) w.with-is in
      let without : c.if-has.without.items ≡ c.loop-pair.without.items ++ c.pair-item.result ∷ [] = ap (λ v. v.items) w.without-is ∙ w.in_ok-push-2.ensures.items in
      rw (with_toll, without) (parted_without c.args.toll.0 c.args.pairs.now c.loop-pair.pair-index c.loop-pair.with.items c.loop-pair.without.items c.pair-item.result
      c.loop-pair-test.true c.pair-item.is c.loop-pair.invariant)
]
