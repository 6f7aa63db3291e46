use Rattle.npp_accept.proofs.Final.{outcomes_accepted}
use Rattle.npp_accept.proofs.outcomes_are_accepted.Goals as goal

pub returns : goal.returns
returns c = outcomes_accepted
