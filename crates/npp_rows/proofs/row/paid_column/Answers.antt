use Rattle.npp_rows.proofs.FamilyLaws.{used_inside}
use Rattle.npp_rows.proofs.row.paid_column.Goals as goal

pub returns-clause-toll : goal.returns-clause-toll
returns-clause-toll c = used_inside c.args.index.now.paths c.args.index.now.parts c.args.k c.args.a c.requires.used
