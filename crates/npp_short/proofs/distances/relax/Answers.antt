use Rattle.npp_short.proofs.Waiting.{keeps_put}
use Rattle.npp_short.proofs.distances.relax.Goals as goal

pub returns-in_ok-push-clause-waiting : goal.returns-in_ok-push-clause-waiting
returns-in_ok-push-clause-waiting c =
    let put = c.in-Some.ensures.put in
    keeps_put _ _ _ _ _ _ c.offer.ensures.offers (rw (← put.0) put.1) (rw put.0 at c.in_ok-push.ensures)
