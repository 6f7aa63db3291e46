use Rattle.npp_leaf_tests.proofs.certificates.push_node.Goals as goal

pub evidence-requires-clause-allowed : goal.evidence-requires-clause-allowed
evidence-requires-clause-allowed g c = c.is_family.ensures c.if-not-is_family.false c.args.instance.now

pub evidence-requires-clause-cuts : goal.evidence-requires-clause-cuts
evidence-requires-clause-cuts g c = c.are_cuts.ensures.cuts c.if-not-are_cuts.false c.args.instance.now
