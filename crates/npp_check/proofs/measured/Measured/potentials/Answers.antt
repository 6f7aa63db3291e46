use Rattle.std.proofs.Common.{◌<◌, length, refl, arith}
use Rattle.npp_check.proofs.MeasureReads.{table_within, table_held, table_held_is}
use Rattle.npp_check.proofs.measured.Measured.potentials.Goals as goal

pub index-requires : goal.index-requires
index-requires c =
    let within : c.args.k < length c.self.inside.potentials.items = table_within _ _ c.self.view_is c.self.invariant c.args.k c.requires c.self.inside.potentials.items refl in
    omega (arith, within, c.self.inside.potentials.ok.0)

pub returns-clause-distances : goal.returns-clause-distances
returns-clause-distances c = table_held_is _ _ c.self.view_is c.self.invariant c.args.k c.requires c.self.inside.potentials.items refl c.index.result.now c.index.ensures

pub returns-clause-costs : goal.returns-clause-costs
returns-clause-costs c = table_held _ _ c.self.view_is c.self.invariant c.args.k c.requires c.self.inside.potentials.items refl c.index.result.now c.index.ensures
