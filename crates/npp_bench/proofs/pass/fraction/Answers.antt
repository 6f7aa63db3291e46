use Rattle.std.proofs.Common.{ap, ◌∙◌, of_z}
use Rattle.std.specs.Int.{w128}
use Rattle.npp_frac.specs.Sign.{nonzero_of_num}
use Rattle.npp_bench.proofs.pass.fraction.Goals as goal

pub div-requires : goal.div-requires
div-requires g c = nonzero_of_num _ (λ e. c.if-num-eq0.false (ap (of_z w128) (c.num.ensures ∙ e)))
