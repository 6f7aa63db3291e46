use Rattle.npp_tests.proofs.rows.relaxation_text.Goals as goal

pub relaxation-requires-clause-allowed : goal.relaxation-requires-clause-allowed
relaxation-requires-clause-allowed g c = c.is_family.ensures c.if-not-is_family.false c.in_ok-net.net

pub relaxation-requires-clause-cuts : goal.relaxation-requires-clause-cuts
relaxation-requires-clause-cuts g c = c.are_cuts.ensures.cuts c.if-not-are_cuts.false c.in_ok-net.net
