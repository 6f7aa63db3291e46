use Rattle.std.proofs.Common.{ap₂, ◌≡◌, ◌<◌, ◌^◌, ◌*◌, nat_abs, FitsSigned, to_z, of_z, to_z-of_z, ◌*ℤ◌, lt_of_le_of_lt, lit<}
use Rattle.std.specs.Int.{w128}
use Rattle.std.proofs.Math.Nat.{mul-le-mul}
use Rattle.std.proofs.lemmas.Int.{unsigned_abs-mul, fits_signed_from_abs}
use Rattle.npp_frac.proofs.numbers.product_of_words.Goals as goal

fits : (c : goal.Start) → FitsSigned w128 (c.args.a *ℤ c.args.b)
fits c =
    let small : nat_abs c.args.a * nat_abs c.args.b < 2 ^ 127 = lt_of_le_of_lt (mul-le-mul c.requires.left c.requires.right) (lit< tt) in
    fits_signed_from_abs w128 (c.args.a *ℤ c.args.b) (rw (unsigned_abs-mul c.args.a c.args.b) small)

plain : (c : goal.Start) → to_z w128 (of_z w128 c.args.a) *ℤ to_z w128 (of_z w128 c.args.b) ≡ c.args.a *ℤ c.args.b
plain c =
    let left : FitsSigned w128 c.args.a = c.ranges.a in
    let right : FitsSigned w128 c.args.b = c.ranges.b in
    ap₂ ◌*ℤ◌ (to_z-of_z left) (to_z-of_z right)

pub overflow_mul-result : goal.overflow_mul-result
overflow_mul-result c = rw (plain c) (fits c)

pub returns-clause-fits : goal.returns-clause-fits
returns-clause-fits c = fits c

pub returns-clause-exact : goal.returns-clause-exact
returns-clause-exact c = rw (plain c) (to_z-of_z (fits c))
