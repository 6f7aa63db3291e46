use Rattle.std.proofs.Common.{rules, ◌<◌, lt_of_lt_of_le, ap, ap₂, ◌∙◌, ◌≡◌, ◌*◌, ◌/◌, pos, nat_abs, FitsSigned, to_z, of_z, to_z-of_z, ◌*ℤ◌}
use Rattle.std.specs.Prelude.{int_div}
use Rattle.std.specs.Int.{w64}
use Rattle.npp_frac.specs.Gcd.{gcd}
use Rattle.npp_frac.specs.Reduction.{product_value, product_reduced, abs_product}
use Rattle.npp_frac.specs.Value.{value_of_words}
use Rattle.npp_frac.proofs.word_arithmetic.fraction_product.Goals as goal
use Rattle.npp_frac.proofs.word_arithmetic.fraction_product.Goals.{In_ok-den}

numerator : (c : In_ok-den) → to_z w64 (of_z w64 c.in_ok-num.num) ≡ int_div c.args.a.num (pos (gcd (nat_abs c.args.a.num) c.args.b.den)) *ℤ int_div c.args.b.num (pos (gcd (nat_abs c.args.b.num) c.args.a.den))
numerator c =
    let fits : FitsSigned w64 c.in_ok-num.num = search rules in
    let first : c.word_gcd-first.result ≡ gcd (nat_abs c.args.a.num) c.args.b.den = search (rules, to_z-of_z) in
    let second : c.word_gcd-second.result ≡ gcd (nat_abs c.args.b.num) c.args.a.den = search (rules, to_z-of_z) in
    let left : c.quotient-left.result ≡ int_div c.args.a.num (pos c.word_gcd-first.result) = search (rules, to_z-of_z) in
    let right : c.quotient-right.result ≡ int_div c.args.b.num (pos c.word_gcd-second.result) = search (rules, to_z-of_z) in
    let num : c.in_ok-num.num ≡ c.quotient-left.result *ℤ c.quotient-right.result = search (rules, to_z-of_z) in
    to_z-of_z fits ∙ num ∙ ap₂ ◌*ℤ◌ (left ∙ ap (λ t. int_div c.args.a.num (pos t)) first) (right ∙ ap (λ t. int_div c.args.b.num (pos t)) second)

denominator : (c : In_ok-den) → c.in_ok-den.den ≡ c.args.a.den / gcd (nat_abs c.args.b.num) c.args.a.den * (c.args.b.den / gcd (nat_abs c.args.a.num) c.args.b.den)
denominator c =
    let first : c.word_gcd-first.result ≡ gcd (nat_abs c.args.a.num) c.args.b.den = search (rules, to_z-of_z) in
    let second : c.word_gcd-second.result ≡ gcd (nat_abs c.args.b.num) c.args.a.den = search (rules, to_z-of_z) in
    let den : c.in_ok-den.den ≡ c.args.a.den / c.word_gcd-second.result * (c.args.b.den / c.word_gcd-first.result) = search rules in
    den ∙ ap₂ (λ s t. c.args.a.den / s * (c.args.b.den / t)) second first

pub invariant_of-result-clause-reduced : goal.invariant_of-result-clause-reduced
invariant_of-result-clause-reduced c =
    let size : nat_abs (to_z w64 (of_z w64 c.in_ok-num.num)) ≡ nat_abs c.args.a.num / gcd (nat_abs c.args.a.num) c.args.b.den * (nat_abs c.args.b.num / gcd (nat_abs c.args.b.num) c.args.a.den) =
    ap nat_abs (numerator c) ∙ abs_product c.args.a.num c.args.b.num (gcd (nat_abs c.args.a.num) c.args.b.den) (gcd (nat_abs c.args.b.num) c.args.a.den) in
    rw (size, denominator c) (product_reduced (value_of_words c.args.a) (value_of_words c.args.b))

pub returns-clause-exact : goal.returns-clause-exact
returns-clause-exact c =
    let a = (goal.at.returns-clause-exact c).In_ok-den in
    product_value _ (value_of_words c.args.a) (value_of_words c.args.b) (numerator a) (denominator a)

pub invariant_of-result-clause-num_below : goal.invariant_of-result-clause-num_below
invariant_of-result-clause-num_below c =
    let fits : FitsSigned w64 c.in_ok-num.num = search rules in
    let small : nat_abs c.in_ok-num.num < c.args.limit = rw c.in_ok-num.ensures.1 c.in_ok-num.ensures.0 in
    rw (to_z-of_z fits) (lt_of_lt_of_le small c.requires)
