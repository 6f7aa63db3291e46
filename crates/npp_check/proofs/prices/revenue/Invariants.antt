use Rattle.std.proofs.Common.{◌≡◌, Ok, map}
use Rattle.std.specs.Prelude.{slice_index_or}
use Rattle.npp_frac.specs.Fits.{limit_of}
use Rattle.npp_net.specs.Network.{no_commodity}
use Rattle.npp_tree.specs.Outcome.{path_line_value}
use Rattle.npp_check.specs.Prices.{no_path_line}
use Rattle.npp_check.specs.Rules.{counted_sum}
use Rattle.npp_check.proofs.prices.revenue.Given as goal

-- the sum over the commodities so far
abbrev pub invariant-loop-k : goal.invariant-loop-k
invariant-loop-k g l =
    counted_sum (limit_of g.N.Exact.WIDTH) l.k (λ k. (slice_index_or l.instance.commodities k no_commodity).demand)
    (λ k. (slice_index_or (map (path_line_value g.N.Exact.rational) l.lines) k no_path_line).paid) ≡ Ok (g.N.Exact.rational l.sum)
