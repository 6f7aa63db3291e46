use Rattle.npp_rows.proofs.WholeLaws.{covers_allowed}
use Rattle.npp_inverse.proofs.CoverLaws.{has_useful_paths}
use Rattle.npp_bench_nodes.proofs.stages.told.Goals as goal

pub told_of_node-requires-clause-useful : goal.told_of_node-requires-clause-useful
told_of_node-requires-clause-useful g c = rw c.in_ok-table.ensures.paths (has_useful_paths c.args.instance.now c.args.covers.now c.requires.covers)

pub told_of_node-requires-clause-allowed : goal.told_of_node-requires-clause-allowed
told_of_node-requires-clause-allowed g c =
    rw (c.in_ok-allowed.ensures, c.in_ok-table.ensures.paths) (covers_allowed c.args.instance.now c.args.covers.now c.requires.covers)
