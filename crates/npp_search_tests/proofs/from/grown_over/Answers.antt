use Rattle.npp_search_tests.proofs.from.grown_over.Goals as goal

pub search_from-requires-clause-allowed : goal.search_from-requires-clause-allowed
search_from-requires-clause-allowed g c = c.is_family.ensures c.if-not-is_family.false c.args.instance.now
