use Rattle.npp_cli.proofs.GeneratedLimits.{only_memory}
use Rattle.npp_cli.proofs.GeneratedNames.{texts_are_names}
use Rattle.npp_cli.proofs.generator.generate.Goals as goal

pub new-requires : goal.new-requires
new-requires c = texts_are_names c.in_ok-node_names.field-0.items c.in_ok-node_names.ensures

pub unreachable-requires : goal.unreachable-requires
unreachable-requires c = only_memory c.args.number _ _ _ c.in_ok-arcs.ensures c.in_ok-pairs.ensures c.in-Err.ensures.refused c.in_default.not-Memory
