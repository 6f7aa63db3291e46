-- Single numbers: their negatives and differences against 0.
use Rattle.std.proofs.Common.{◌≡◌, ◌≢◌, pos, arith, ap, sym, ◌∙◌, subst}
use Rattle.std.proofs.lemmas.Int.{ints}
use Rattle.npp_frac.specs.Rational.{Rational, zero_ℚ, one_ℚ, negative, Is-self, Is-le, le-Is, Is-lt, lt-Is, Is-add, Is-negative, Is-whole, ◌+ℚ◌, ◌-ℚ◌, ◌≤ℚ◌, ◌<ℚ◌}
use Rattle.npp_frac.specs.Ring.{zero-+ℚ, -ℚ-+ℚ}
use Rattle.npp_frac.specs.Order.{whole_injective, whole_mono}

pub one_nonneg : zero_ℚ ≤ℚ one_ℚ
one_nonneg = whole_mono {m = pos 0} {n = pos 1} (omega (arith, ints))

pub one_nonzero : one_ℚ ≢ zero_ℚ
one_nonzero same = let e : pos 1 ≡ pos 0 = whole_injective same in cc

-- two numbers without a difference
pub none_between : (q r : Rational) → q -ℚ r ≡ zero_ℚ → q ≡ r
none_between q r e = sym (-ℚ-+ℚ q r) ∙ ap (λ t. t +ℚ r) e ∙ zero-+ℚ r

pub at_most_negative : (q r : Rational) → (q +ℚ r) ≤ℚ zero_ℚ → q ≤ℚ negative r
at_most_negative q r h = Is-le (Is-self q) (Is-negative (Is-self r)) (omega (arith, le-Is (Is-add (Is-self q) (Is-self r)) (Is-whole (pos 0)) h))

pub negative_nonneg : (q : Rational) → q ≤ℚ zero_ℚ → zero_ℚ ≤ℚ negative q
negative_nonneg q h = at_most_negative zero_ℚ q (subst (λ z. z ≤ℚ zero_ℚ) (sym (zero-+ℚ q)) h)

pub negative_below : (q : Rational) → zero_ℚ <ℚ q → negative q <ℚ zero_ℚ
negative_below q h = Is-lt (Is-negative (Is-self q)) (Is-whole (pos 0)) (omega (arith, lt-Is (Is-whole (pos 0)) (Is-self q) h))
