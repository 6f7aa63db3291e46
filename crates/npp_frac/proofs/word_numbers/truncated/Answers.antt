use Rattle.std.proofs.Common.{rules, arith, ap, ap₂, ◌∙◌, ◌≡◌, ◌/◌, pos, nat_abs, FitsSigned, to_z, of_z, div-le_self, lt_of_le_of_lt, to_z-of_z}
use Rattle.std.specs.Prelude.{ℕ, ℤ, negsuc, int_div, int_lt, neg_ℤ, cond, refl}
use Rattle.std.specs.Int.{w64}
use Rattle.std.proofs.lemmas.Bool.{le-ltb}
use Rattle.npp_frac.proofs.word_numbers.truncated.Goals as goal
use Rattle.npp_frac.proofs.word_numbers.truncated.Goals.{After-divided, After-with_sign}

by_size : (a : ℤ) (by : ℕ) → cond (int_lt a (pos 0)) (neg_ℤ (pos (nat_abs a / by))) (pos (nat_abs a / by)) ≡ int_div a (pos by)
by_size (pos a) by = ap (λ t. cond t (neg_ℤ (pos (a / by))) (pos (a / by))) (le-ltb a 0 (omega arith))
by_size (negsuc a) by = refl

size_is : (c : After-divided) → c.divided.result ≡ nat_abs c.args.a / c.args.by
size_is c = let size : c.size.result ≡ nat_abs c.args.a = search (rules, to_z-of_z) in c.divided.ensures.exact ∙ ap (λ t. t / c.args.by) size

pub with_sign-requires : goal.with_sign-requires
with_sign-requires c = rw (size_is c) (lt_of_le_of_lt (div-le_self _ _) c.requires.size)

plain : (c : After-with_sign) → to_z w64 (of_z w64 c.with_sign.result) ≡ c.with_sign.result
plain c = let fits : FitsSigned w64 c.with_sign.result = search rules in to_z-of_z fits

pub returns-clause-exact : goal.returns-clause-exact
returns-clause-exact c =
    let a = (goal.at.returns-clause-exact c).After-with_sign in
    let fits : FitsSigned w64 c.args.a = c.ranges.a in
    plain a ∙ c.with_sign.ensures.exact
    ∙ ap₂ (λ s t. cond (int_lt s (pos 0)) (neg_ℤ (pos t)) (pos t)) (to_z-of_z fits) (size_is (goal.at.returns-clause-exact c).After-divided)
    ∙ by_size c.args.a c.args.by

pub returns-clause-size : goal.returns-clause-size
returns-clause-size c =
    ap nat_abs (plain (goal.at.returns-clause-size c).After-with_sign)
    ∙ c.with_sign.ensures.size ∙ size_is (goal.at.returns-clause-size c).After-divided
