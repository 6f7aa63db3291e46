use Rattle.std.proofs.Common.{◌==◌, map}
use Rattle.std.specs.Int.{bit_at}
use Rattle.npp_cover.specs.PathValue.{path_value}
use Rattle.npp_cover.specs.Replaces.{path_at}
use Rattle.npp_check.proofs.ListLemmas.{AnyFrom}
use Rattle.npp_check.proofs.node_rows.is_used.Given as goal

-- the paths from here on are still to be looked at
abbrev pub invariant-loop-path : goal.invariant-loop-path
invariant-loop-path l = AnyFrom (λ p. bit_at (path_at (map path_value l.paths) p).tolls l.toll.0 == 1) l.part l.path-index
