use Rattle.npp_tests.proofs.rows.row_count.Goals as goal

pub relaxation_any_size-requires-clause-cuts : goal.relaxation_any_size-requires-clause-cuts
relaxation_any_size-requires-clause-cuts c = c.are_cuts.ensures.cuts c.if-not-are_cuts.false c.in_ok-net.net

pub relaxation-requires-clause-cuts : goal.relaxation-requires-clause-cuts
relaxation-requires-clause-cuts c = c.are_cuts.ensures.cuts c.if-not-are_cuts.false c.in_ok-net.net
