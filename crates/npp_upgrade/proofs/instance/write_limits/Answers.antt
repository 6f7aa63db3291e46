use Rattle.std.proofs.Common.{ℕ, Option, sym, subst, arith}
use Rattle.npp_net.specs.Network.{ceiling_of}
use Rattle.npp_tree.specs.declared.item.Item.TheVariants as item
use Rattle.npp_cert_text.specs.Form.{HasLine}
use Rattle.npp_report.proofs.Growth.{grown_by_more}
use Rattle.npp_report.proofs.TextLaws.{limits_more}
use Rattle.npp_upgrade.proofs.LineLemmas.{limit_has_line}
use Rattle.npp_upgrade.proofs.instance.write_limits.Goals as goal

pub write_line-requires : goal.write_line-requires
write_line-requires c =
    subst (λ (o : Option ℕ). HasLine (item.Limit c.loop-toll.toll o)) (sym c.ceiling.ensures)
    (limit_has_line c.args.instance.now c.tolls-toll-end.ensures.limits c.loop-toll.toll (omega (arith, c.loop-toll-test.true, c.tolls-toll-end.ensures.count, c.tolls-toll-end.ensures.limits.tolls)))

pub loop-toll-preserved : goal.loop-toll-preserved
loop-toll-preserved c =
    grown_by_more _ _ _ _ _ _ c.loop-toll.invariant (rw c.ceiling.ensures at c.in_ok-write_line.ensures)
    (limits_more (λ a. item.Limit a (ceiling_of c.args.instance.now.arcs a)) c.loop-toll.toll)
