use Rattle.npp_cover.proofs.DominanceLemmas.{empty_answers, empty_keyed}
use Rattle.npp_cover.proofs.dominance.DominanceTable.new.Goals as goal

pub invariant_of-result : goal.invariant_of-result
invariant_of-result c = empty_keyed c.in_ok-empty_lists.field-0.items c.in_ok-empty_lists.ensures.empty

pub returns-clause-empty : goal.returns-clause-empty
returns-clause-empty c = empty_answers c.in_ok-empty_lists.field-0.items c.in_ok-empty_lists.ensures.empty
