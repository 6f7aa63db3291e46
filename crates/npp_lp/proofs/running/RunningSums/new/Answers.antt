use Rattle.std.proofs.Common.{None, Ok, refl, ap}
use Rattle.npp_lp.specs.RowSums.{all_empty}
use Rattle.npp_lp.proofs.running.RunningSums.new.Goals as goal

pub returns : goal.returns
returns g c =
    all_empty g.N.Exact.rational c.args.columns (record { negative = None; columns = c.in_ok-empty_sums.field-0.items; right = Ok c.of_whole.result })
    c.in_ok-empty_sums.ensures.size c.in_ok-empty_sums.ensures.empty refl (ap Ok c.of_whole.ensures)
