use Rattle.npp_tests.proofs.replies.best_text.Goals as goal

pub best_tolls-requires-clause-choice : goal.best_tolls-requires-clause-choice
best_tolls-requires-clause-choice g c = c.is_choice.ensures c.if-not-is_choice.false c.in_ok-net.net
