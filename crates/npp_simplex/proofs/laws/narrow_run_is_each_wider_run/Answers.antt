use Rattle.npp_simplex.specs.WidthLaws.{run_wider}
use Rattle.npp_simplex.proofs.laws.narrow_run_is_each_wider_run.Goals as goal

pub returns : goal.returns
returns c = run_wider
