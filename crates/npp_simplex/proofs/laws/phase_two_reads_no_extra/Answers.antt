use Rattle.npp_simplex.proofs.Unread.{unread}
use Rattle.npp_simplex.proofs.laws.phase_two_reads_no_extra.Goals as goal

pub returns : goal.returns
returns c = unread
