use Rattle.npp_simplex.proofs.RunBases.{bases_of_run}
use Rattle.npp_simplex.proofs.laws.no_basis_comes_twice.Goals as goal

pub returns : goal.returns
returns c = bases_of_run
