use Rattle.std.proofs.Common.{◌<◌, length, arith}
use Rattle.npp_check.proofs.MeasureReads.{span_within, span_held, span_held_is}
use Rattle.npp_check.proofs.measured.Measured.span.Goals as goal

pub index-requires : goal.index-requires
index-requires c =
    let within : c.args.k < length c.self.inside.spans.items = span_within _ _ c.self.view_is c.self.invariant c.args.k c.requires in
    omega (arith, within, c.self.inside.spans.ok.0)

pub returns-clause-value : goal.returns-clause-value
returns-clause-value c = span_held _ _ c.self.view_is c.self.invariant c.args.k c.requires c.index.result.now c.index.ensures

pub returns-clause-span : goal.returns-clause-span
returns-clause-span c = span_held_is _ _ c.self.view_is c.self.invariant c.args.k c.requires c.index.result.now c.index.ensures
