use Rattle.std.proofs.Common.{rules, refl, ◌∙◌, ◌≡◌, pos, FitsSigned, to_z-of_z}
use Rattle.std.specs.Prelude.{cond, int_lt, neg_ℤ}
use Rattle.std.specs.Int.{w128}
use Rattle.npp_frac.specs.Wide.{value_of_wide}
use Rattle.npp_frac.proofs.text.signed.Goals as goal

pub returns-clause-num : goal.returns-clause-num
unfolding value_of_wide
returns-clause-num c =
    let fits : FitsSigned w128 c.with_sign.result = search rules in
    let is : c.with_sign.result ≡ cond (int_lt c.args.sign (pos 0)) (neg_ℤ (pos c.args.num)) (pos c.args.num) = search (rules, to_z-of_z) in
    to_z-of_z fits ∙ is

pub returns-clause-den : goal.returns-clause-den
unfolding value_of_wide
returns-clause-den c = refl
