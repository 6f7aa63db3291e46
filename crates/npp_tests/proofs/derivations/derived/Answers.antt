use Rattle.npp_tests.proofs.derivations.derived.Goals as goal

pub check_derivation-requires-clause-earlier : goal.check_derivation-requires-clause-earlier
check_derivation-requires-clause-earlier g c = c.are_cuts.ensures.cuts c.if-not-are_cuts.false c.in_ok-net.net
