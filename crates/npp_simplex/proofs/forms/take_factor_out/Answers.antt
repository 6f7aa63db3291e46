use Rattle.npp_simplex.proofs.CommonForms.{quotient_above}
use Rattle.npp_simplex.proofs.WordForms.{factor_out}
use Rattle.npp_simplex.proofs.forms.take_factor_out.Goals as goal

pub returns-clause-same : goal.returns-clause-same
returns-clause-same c =
    let d = c.args.denominator in
    let f = c.divisor_of-divisor.result.value in
    let h = c.divisor_of-divisor.ensures in
    factor_out d f c.args.numbers.now c.divide_each.new.numbers c.requires.positive h.above c.divide_each.auto.numbers h.of_numbers h.of_denominator c.divide_each.ensures (quotient_above d f c.requires.positive h.above h.of_denominator)
