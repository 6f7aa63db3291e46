use Rattle.std.proofs.Common.{arith}
use Rattle.npp_start.proofs.CoverShape.{same_total}
use Rattle.npp_search_tests.proofs.found.accepted_outcome.Goals as goal

pub search-requires-clause-few : goal.search-requires-clause-few
search-requires-clause-few g c = let same = same_total c.args.covers.now in omega (arith, same, c.requires.few)
