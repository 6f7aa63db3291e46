use Rattle.std.proofs.Common.{arith}
use Rattle.npp_start.proofs.CoverShape.{same_total}
use Rattle.npp_bench_search.proofs.told.found.Goals as goal

pub search-requires-clause-few : goal.search-requires-clause-few
search-requires-clause-few g c = let same = same_total c.args.covers.now in omega (arith, same, c.requires.few)

pub search-requires-in-Depth-clause-few : goal.search-requires-in-Depth-clause-few
search-requires-in-Depth-clause-few g c = let same = same_total c.args.covers.now in omega (arith, same, c.requires.few)
