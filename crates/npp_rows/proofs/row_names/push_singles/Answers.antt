use Rattle.npp_rows.specs.KindNames.{single_name}
use Rattle.npp_rows.proofs.ListLaws.{named_next}
use Rattle.npp_rows.proofs.row_names.push_singles.Goals as goal

pub loop-i-preserved : goal.loop-i-preserved
loop-i-preserved c = named_next (single_name c.args.kind) c.loop-i.i _ _ _ c.loop-i.invariant (rw c.name.ensures at c.in_ok-push.ensures.items)
