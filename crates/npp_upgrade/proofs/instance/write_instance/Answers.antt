use Rattle.npp_upgrade.proofs.LineLemmas.{sizes_have_line}
use Rattle.npp_upgrade.proofs.instance.write_instance.Goals as goal

pub write_line-requires : goal.write_line-requires
write_line-requires c =
    rw c.nodes.ensures.count (rw c.arcs.ensures.list (rw c.tolls.ensures.count (rw c.commodities.ensures.list (sizes_have_line c.args.instance.now c.nodes.ensures.limits))))
