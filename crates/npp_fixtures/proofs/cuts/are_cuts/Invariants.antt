use Rattle.std.proofs.Common.{take, All}
use Rattle.npp_net.specs.Network.{Network}
use Rattle.npp_rows.specs.Caps.{path_model}
use Rattle.npp_rows.specs.Cuts.{IsCut}
use Rattle.npp_rows.specs.Meaning.{cut_value}
use Rattle.npp_fixtures.proofs.cuts.are_cuts.Given as goal

abbrev pub invariant-loop-cut : goal.invariant-loop-cut
invariant-loop-cut g l = (net : Network) → All (λ c. IsCut (path_model net l.covers) (cut_value g.N.Exact.rational c)) (take l.cut-index l.cuts)
