use Rattle.std.proofs.Common.{rules, ap₂, ◌∙◌, ◌≡◌, ◌<◌, ◌^◌, ◌*◌, pos, nat_abs, FitsSigned, to_z, of_z, to_z-of_z, ◌*ℤ◌, lt_of_le_of_lt, le_of_lt, lit<}
use Rattle.std.specs.Int.{w64, w128}
use Rattle.std.proofs.Math.Nat.{mul-le-mul}
use Rattle.std.proofs.lemmas.Int.{unsigned_abs-mul, fits_signed_from_abs}
use Rattle.npp_frac.proofs.comparison.long_product.Goals as goal
use Rattle.npp_frac.proofs.comparison.long_product.Goals.{After-from-2}

plain : (c : After-from-2) → to_z w128 (of_z w128 c.from.result) *ℤ to_z w128 (of_z w128 c.from-2.result) ≡ c.args.a *ℤ pos c.args.b
plain c =
    let word : FitsSigned w64 c.args.a = c.ranges.a in
    let left : FitsSigned w128 c.from.result = search rules in
    let right : FitsSigned w128 c.from-2.result = search rules in
    ap₂ ◌*ℤ◌ (to_z-of_z left ∙ c.from.ensures ∙ to_z-of_z word) (to_z-of_z right ∙ c.from-2.ensures)

fits : (c : After-from-2) → FitsSigned w128 (c.args.a *ℤ pos c.args.b)
fits c =
    let small : nat_abs c.args.a * c.args.b < 2 ^ 127 = lt_of_le_of_lt (mul-le-mul (le_of_lt c.requires.a) (le_of_lt c.requires.b)) (lit< tt) in
    fits_signed_from_abs w128 (c.args.a *ℤ pos c.args.b) (rw (unsigned_abs-mul c.args.a (pos c.args.b)) small)

pub overflow_mul-result : goal.overflow_mul-result
overflow_mul-result c = rw (plain c) (fits c)

pub returns : goal.returns
returns c = rw (plain c) (to_z-of_z (fits c))
