use Rattle.npp_upgrade.proofs.EndLemmas.{end_behind, end_open}
use Rattle.npp_upgrade.proofs.splice.line_end.Goals as goal

pub returns-in-Some-clause-end : goal.returns-in-Some-clause-end
returns-in-Some-clause-end c = end_behind c.args.bytes.now c.in-Some.place c.in-Some.ensures.place

pub returns-in-None-clause-end : goal.returns-in-None-clause-end
returns-in-None-clause-end c = end_open c.args.bytes.now c.in-None.ensures.place
