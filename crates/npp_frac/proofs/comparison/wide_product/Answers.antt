use Rattle.std.proofs.Common.{arith, ap, ◌≡◌, ℕ, ◌+◌, ◌*◌}
use Rattle.std.proofs.Math.Nat.{div-add-mod'}
use Rattle.npp_frac.proofs.comparison.wide_product.Goals as goal

by_halves : (h a b a1 a0 b1 b0 f1 f0 s1 s0 l1 l0 m1 m0 : ℕ) → a1 * h + a0 ≡ a → b1 * h + b0 ≡ b → f1 * h + f0 ≡ a1 * b0 → s1 * h + s0 ≡ a0 * b1 → l1 * h + l0 ≡ a0 * b0 → m1 * h + m0 ≡ l1 + f0 + s0 → (a1 * b1 + f1 + s1 + m1) * (h * h) + (m0 * h + l0) ≡ a * b
by_halves h a b a1 a0 b1 b0 f1 f0 s1 s0 l1 l0 m1 m0 ea eb ef es el em =
    rw (← ea, ← eb) (omega (arith, ap (λ t. t * h) ef, ap (λ t. t * h) es, el, ap (λ t. t * h) em))

pub returns-clause-product : goal.returns-clause-product
returns-clause-product c =
    let h : ℕ = 18446744073709551616 in
    by_halves 18446744073709551616 c.args.a c.args.b _ _ _ _ _ _ _ _ _ _ _ _ (div-add-mod' c.args.a 18446744073709551616) (div-add-mod' c.args.b 18446744073709551616) (div-add-mod' _ 18446744073709551616) (div-add-mod' _ 18446744073709551616) (div-add-mod' _ 18446744073709551616) (div-add-mod' _ 18446744073709551616)
