use Rattle.npp_fixtures.proofs.cuts.is_cut.Goals as goal

pub returns : goal.returns
returns g c = λ t net. rw c.entries.ensures at (c.are_terms.ensures t net (g.N.Exact.rational c.args.cut.now.right))
