use Rattle.npp_tests.proofs.named.has_no_tolls.Goals as goal

pub take_for_choice-requires-clause-choice : goal.take_for_choice-requires-clause-choice
take_for_choice-requires-clause-choice g c = rw c.in_ok-table.ensures.paths (c.is_choice.ensures c.if-not-is_choice.false c.in_ok-net.net)
