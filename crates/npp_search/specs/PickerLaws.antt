-- Both orders of nodes are orders.
use Rattle.std.specs.Prelude.{refl}
use Rattle.std.proofs.Common.{inl, inr, sym, ◌∙◌, subst, arith}
use Rattle.npp_frac.specs.Rational.{Rational, ◌≤ℚ◌, ◌<ℚ◌}
use Rattle.npp_frac.specs.Order.{≤ℚ_of_<ℚ, ≤ℚ_of_≡, <ℚ_trans}
use Rattle.npp_frac.specs.Wide.{value_of_wide}
use Rattle.npp_search.specs.declared.picker.OpenNode.{OpenNode}
use Rattle.npp_search.specs.Picker.{IsBetterBound, IsDeeper}

pub better_refl : (n : OpenNode) → IsBetterBound n n
better_refl n = inr (refl, omega arith)

pub better_trans : (n m k : OpenNode) → IsBetterBound n m → IsBetterBound m k → IsBetterBound n k
better_trans n m k (inl a) (inl b) = inl (<ℚ_trans b a)
better_trans n m k (inl a) (inr b) = inl (subst (λ (q : Rational). q <ℚ value_of_wide n.bound) (sym b.0) a)
better_trans n m k (inr a) (inl b) = inl (subst (λ (q : Rational). value_of_wide k.bound <ℚ q) a.0 b)
better_trans n m k (inr a) (inr b) = inr (b.0 ∙ a.0, omega (arith, a.1, b.1))

pub deeper_refl : (n : OpenNode) → IsDeeper n n
deeper_refl n = inr (refl, better_refl n)

pub deeper_trans : (n m k : OpenNode) → IsDeeper n m → IsDeeper m k → IsDeeper n k
deeper_trans n m k (inl a) (inl b) = inl (omega (arith, a, b))
deeper_trans n m k (inl a) (inr b) = inl (omega (arith, a, b.0))
deeper_trans n m k (inr a) (inl b) = inl (omega (arith, a.0, b))
deeper_trans n m k (inr a) (inr b) = inr (b.0 ∙ a.0, better_trans n m k a.1 b.1)

-- a better bound is no less
pub better_bound : (n m : OpenNode) → IsBetterBound n m → value_of_wide m.bound ≤ℚ value_of_wide n.bound
better_bound n m (inl a) = ≤ℚ_of_<ℚ a
better_bound n m (inr a) = ≤ℚ_of_≡ a.0
