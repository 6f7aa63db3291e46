use Rattle.npp_fixtures.proofs.CoverLaws.{found_closed, found_few}
use Rattle.npp_fixtures.proofs.networks.covers_of.Goals as goal

pub returns-in-Ok-clause-covers : goal.returns-in-Ok-clause-covers
returns-in-Ok-clause-covers c = found_closed (λ v. v.items) c.args.instance.now c.useful_all.result c.useful_all.ensures.covers

pub returns-in-Ok-clause-few : goal.returns-in-Ok-clause-few
returns-in-Ok-clause-few c = found_few (λ v. v.items) c.useful_all.result c.useful_all.ensures.limit
