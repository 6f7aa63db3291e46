use Rattle.std.proofs.Common.{◌∙◌}
use Rattle.npp_search.proofs.HeapLaws.{left_nothing}
use Rattle.npp_search.proofs.waiting.WaitingList.is_empty.Goals as goal

pub returns-else-is_empty-clause-no : goal.returns-else-is_empty-clause-no
returns-else-is_empty-clause-no c = λ no e. c.is_empty.ensures.no no (left_nothing c.self.inside.ranked.nodes c.self.inside.listed (c.self.view_is ∙ e))
