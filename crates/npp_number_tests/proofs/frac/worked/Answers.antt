use Rattle.std.proofs.Common.{arith}
use Rattle.std.proofs.lemmas.Int.{ints}
use Rattle.npp_frac.specs.Sign.{nonzero_of_whole}
use Rattle.npp_number_tests.proofs.frac.worked.Goals as goal

pub div-requires : goal.div-requires
div-requires g c = nonzero_of_whole _ _ c.of_whole.ensures (λ e. omega (arith, ints, e))

pub div-requires-2 : goal.div-requires-2
div-requires-2 g c = nonzero_of_whole _ _ c.of_whole-2.ensures (λ e. omega (arith, ints, e))
