use Rattle.npp_inverse.proofs.OfferLaws.{less_is_better, greater_is_worse, equal_by_toll}
use Rattle.npp_inverse.proofs.offer.is_better.Goals as goal

pub returns-in-Less : goal.returns-in-Less
returns-in-Less g c = less_is_better _ _ _ _ c.in-Less.ensures

pub returns-in-Equal : goal.returns-in-Equal
returns-in-Equal g c = equal_by_toll _ _ _ _ c.pays_more.result c.in-Equal.ensures c.pays_more.ensures

pub returns-in-Greater : goal.returns-in-Greater
returns-in-Greater g c = greater_is_worse _ _ _ _ c.in-Greater.ensures
