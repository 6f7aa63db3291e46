use Rattle.std.proofs.Common.{◌≡◌, IfOk, refl, subst}
use Rattle.npp_lp.specs.Meaning.{linear_program}
use Rattle.npp_rows.specs.PathModel.{PathModel}
use Rattle.npp_rows.specs.Named.{numbered}
use Rattle.npp_rows.specs.Inverse.{inverse}
use Rattle.npp_rows.specs.Caps.{path_model}
use Rattle.npp_rows.proofs.ExactLaws.{inverse_is_exact}
use Rattle.npp_rows.proofs.InverseLaws.{inverse_holds}
use Rattle.npp_rows.proofs.choice.inverse.Goals as goal

pub returns-clause-program : goal.returns-clause-program
returns-clause-program g c =
    subst (λ (m : PathModel). IfOk c.inverse.result (λ p. linear_program g.N.Exact.rational p ≡ numbered (inverse m c.args.choice.now))) c.in_ok-table.ensures.paths c.inverse.ensures.program

pub returns-clause-holds : goal.returns-clause-holds
returns-clause-holds g c = λ parts same. inverse_holds c.args.instance.now (path_model c.args.instance.now c.args.covers.now) parts

pub returns-in_err-table-clause-holds : goal.returns-in_err-table-clause-holds
returns-in_err-table-clause-holds g c = λ parts same. inverse_holds c.args.instance.now (path_model c.args.instance.now c.args.covers.now) parts

pub returns-clause-exact : goal.returns-clause-exact
returns-clause-exact g c = inverse_is_exact c.args.instance.now (path_model c.args.instance.now c.args.covers.now) c.args.choice.now (record { covers = c.requires.covers; same = refl }) c.requires.choice

pub returns-in_err-table-clause-exact : goal.returns-in_err-table-clause-exact
returns-in_err-table-clause-exact g c = inverse_is_exact c.args.instance.now (path_model c.args.instance.now c.args.covers.now) c.args.choice.now (record { covers = c.requires.covers; same = refl }) c.requires.choice
