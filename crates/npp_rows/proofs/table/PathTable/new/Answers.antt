use Rattle.npp_rows.proofs.LimitLaws.{limits_kept}
use Rattle.npp_rows.proofs.table.PathTable.new.Goals as goal

pub invariant_of-result : goal.invariant_of-result
invariant_of-result c =
    (rw c.in_ok-caps.ensures.caps (limits_kept c.args.instance.now c.args.covers.now c.in_ok-caps.ensures.limits c.requires.covers c.requires.few), c.in_ok-starts.ensures)

pub returns-clause-limits : goal.returns-clause-limits
returns-clause-limits c =
    rw c.in_ok-caps.ensures.caps (limits_kept c.args.instance.now c.args.covers.now c.in_ok-caps.ensures.limits c.requires.covers c.requires.few)
