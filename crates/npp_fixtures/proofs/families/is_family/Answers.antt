use Rattle.npp_fixtures.proofs.families.is_family.Goals as goal

pub returns : goal.returns
returns c = λ t net. rw c.entries.ensures at (c.are_parts.ensures t net)
