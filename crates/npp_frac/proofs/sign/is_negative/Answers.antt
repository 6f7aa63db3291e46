use Rattle.std.proofs.Common.{rules, FitsSigned, to_z-of_z, ap, ◌∙◌, pos}
use Rattle.std.specs.Prelude.{int_lt}
use Rattle.std.specs.Int.{w128}
use Rattle.npp_frac.proofs.Signs.{negative_of_num}
use Rattle.npp_frac.proofs.sign.is_negative.Goals as goal

pub returns : goal.returns
returns g c =
    let fits : FitsSigned w128 c.num.result = search rules in
    ap (λ t. int_lt t (pos 0)) (to_z-of_z fits ∙ c.num.ensures) ∙ negative_of_num (g.N.Exact.rational c.args.number)
