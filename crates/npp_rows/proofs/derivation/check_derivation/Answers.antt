use Rattle.npp_rows.specs.Caps.{path_model}
use Rattle.npp_rows.proofs.RoundLaws.{derivation_holds}
use Rattle.npp_rows.proofs.derivation.check_derivation.Goals as goal

pub returns-in_err-table-clause-holds : goal.returns-in_err-table-clause-holds
returns-in_err-table-clause-holds g c = derivation_holds c.args.instance.now (path_model c.args.instance.now c.args.covers.now)

pub returns-clause-holds : goal.returns-clause-holds
returns-clause-holds g c = derivation_holds c.args.instance.now (path_model c.args.instance.now c.args.covers.now)

pub check_derivation-requires-clause-earlier : goal.check_derivation-requires-clause-earlier
check_derivation-requires-clause-earlier g c = rw c.in_ok-table.ensures.paths c.requires.earlier
