use Rattle.npp_tests.proofs.rows.basic.Goals as goal

pub basic_of-requires-clause-allowed : goal.basic_of-requires-clause-allowed
basic_of-requires-clause-allowed c = c.is_family.ensures c.if-not-is_family.false c.in_ok-net.net
