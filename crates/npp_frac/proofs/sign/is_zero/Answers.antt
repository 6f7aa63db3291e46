use Rattle.std.proofs.Common.{rules, FitsSigned}
use Rattle.std.specs.Int.{w128}
use Rattle.npp_frac.proofs.Signs.{zero_test_rational}
use Rattle.npp_frac.proofs.sign.is_zero.Goals as goal

pub returns : goal.returns
returns g c =
    let fits : FitsSigned w128 c.num.result = search rules in
    zero_test_rational (g.N.Exact.rational c.args.number) c.num.result fits c.num.ensures
