use Rattle.npp_tests.proofs.rows.inverse_text.Goals as goal

pub inverse-requires-clause-choice : goal.inverse-requires-clause-choice
inverse-requires-clause-choice g c = c.is_choice.ensures c.if-not-is_choice.false c.in_ok-net.net
