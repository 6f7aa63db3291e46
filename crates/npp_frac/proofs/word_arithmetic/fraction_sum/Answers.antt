use Rattle.std.proofs.Common.{rules, arith, ap, ap₂, sym, ◌∙◌, ◌≡◌, ◌*◌, ◌/◌, ◌<◌, pos, nat_abs, FitsSigned, to_z, of_z, to_z-of_z, ◌+ℤ◌, ◌*ℤ◌}
use Rattle.std.proofs.Math.Nat.{div-mul_cancel}
use Rattle.std.specs.Int.{w64}
use Rattle.npp_frac.specs.Gcd.{gcd, IsGcd-gcd, gcd-quotients}
use Rattle.npp_frac.specs.Rational.{ratio}
use Rattle.npp_frac.specs.Reduction.{ratio-sum, quotient_pos_left}
use Rattle.npp_frac.specs.SumGcd.{gcd-sum}
use Rattle.npp_frac.specs.Value.{value_of_words}
use Rattle.npp_frac.proofs.word_arithmetic.fraction_sum.Goals as goal
use Rattle.npp_frac.proofs.word_arithmetic.fraction_sum.Goals.{In_ok-den}

a_is : (c : In_ok-den) → c.divided-a_den.result * c.word_gcd-g.result ≡ c.args.a.den
a_is c = ap (λ t. t * c.word_gcd-g.result) c.divided-a_den.ensures.exact ∙ div-mul_cancel _ (rw c.word_gcd-g.ensures.exact (IsGcd-gcd c.args.a.den c.args.b.den).0)

b_is : (c : In_ok-den) → c.divided-b_den.result * c.word_gcd-g.result ≡ c.args.b.den
b_is c = ap (λ t. t * c.word_gcd-g.result) c.divided-b_den.ensures.exact ∙ div-mul_cancel _ (rw c.word_gcd-g.ensures.exact (IsGcd-gcd c.args.a.den c.args.b.den).1)

coprime : (c : In_ok-den) → gcd c.divided-a_den.result c.divided-b_den.result ≡ 1
coprime c =
    rw (c.divided-a_den.ensures.exact, c.divided-b_den.ensures.exact, c.word_gcd-g.ensures.exact)
    (gcd-quotients c.args.a.den c.args.b.den c.args.b.positive)

total_is : (c : In_ok-den) → to_z w64 (of_z w64 c.in_ok-total.total) ≡ c.args.a.num *ℤ pos c.divided-b_den.result +ℤ c.args.b.num *ℤ pos c.divided-a_den.result
total_is c =
    let left : c.in_ok-left.left ≡ c.args.a.num *ℤ pos c.divided-b_den.result = search (rules, to_z-of_z) in
    let right : c.in_ok-right.right ≡ c.args.b.num *ℤ pos c.divided-a_den.result = search (rules, to_z-of_z) in
    let total : c.in_ok-total.total ≡ c.in_ok-left.left +ℤ c.in_ok-right.right = search (rules, to_z-of_z) in
    let fits : FitsSigned w64 c.in_ok-total.total = search rules in
    to_z-of_z fits ∙ total ∙ ap₂ ◌+ℤ◌ left right

den_is : (c : In_ok-den) → c.in_ok-den.den ≡ c.divided-a_den.result * c.args.b.den
den_is c = search rules

pub unsigned_product-requires : goal.unsigned_product-requires
unsigned_product-requires c =
    let quotient : 0 < c.args.a.den / c.word_gcd-g.result = rw c.word_gcd-g.ensures.exact (quotient_pos_left c.args.a.den c.args.b.den c.args.a.positive) in
    let above : 0 < c.divided-a_den.result = rw c.divided-a_den.ensures.exact quotient in
    record { positive = (omega arith, c.args.b.positive) }

pub reduced-requires-clause-divisor : goal.reduced-requires-clause-divisor
reduced-requires-clause-divisor c =
    let a = (goal.at.reduced-requires-clause-divisor c).In_ok-den in
    c.word_gcd.ensures.exact ∙ ap (λ t. gcd t c.word_gcd-g.result) (c.size.ensures ∙ ap nat_abs (total_is a))
    ∙ gcd-sum (value_of_words c.args.a) (value_of_words c.args.b) c.divided-a_den.result c.divided-b_den.result c.word_gcd-g.result (a_is a) (b_is a) (coprime a)
    ∙ sym (ap₂ gcd (ap nat_abs (total_is a)) (den_is a))

pub returns-clause-exact : goal.returns-clause-exact
returns-clause-exact c =
    let a = (goal.at.returns-clause-exact c).In_ok-den in
    c.reduced.ensures.exact ∙ ap₂ ratio (total_is a) (den_is a)
    ∙ ratio-sum (value_of_words c.args.a) (value_of_words c.args.b) c.divided-a_den.result c.divided-b_den.result c.word_gcd-g.result (a_is a) (b_is a)
