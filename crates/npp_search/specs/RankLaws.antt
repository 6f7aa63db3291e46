-- The order of nodes in a heap is a total order.
use Rattle.std.specs.Prelude.{◌≡◌, ◌*ℤ◌, pos, refl}
use Rattle.std.specs.Cmp.{IsTotalOrder, IsEquivalence, IsPartialEquivalence, IsPartialOrder, Agrees, on_total, then_total, back_total, nat_cmp_total, int_cmp_total, eq_by_cmp_equiv, partial_equiv_from_equiv, partial_order_from_total}
use Rattle.std.specs.Ordering.{MatchOrdering, eq_by_cmp, ordering_reverse}
use Rattle.std.proofs.Common.{Ordering, Less, Equal, Greater, sym, subst, ap}
use Rattle.npp_frac.specs.Rational.{Rational, rational_cmp, ◌<ℚ◌}
use Rattle.npp_frac.specs.Order.{rational_ranks, <ℚ_of_Less, ≡_of_Equal, <ℚ_trans, <ℚ_irrefl}
use Rattle.npp_frac.specs.Wide.{value_of_wide}
use Rattle.npp_search.specs.declared.ranked.Ranked.{Ranked}
use Rattle.npp_search.specs.Rank.{ranked_cmp, ranked_eq, ranked_partial_cmp}

reversed : (q r : Rational) → rational_cmp q r ≡ ordering_reverse (rational_cmp r q)
unfolding rational_cmp
reversed q r = int_cmp_total.antisymm (q.num *ℤ pos r.den) (r.num *ℤ pos q.den)

less_of : {q r : Rational} (o : Ordering) → q <ℚ r → MatchOrdering o (q <ℚ r) (q ≡ r) (r <ℚ q) → o ≡ Less
less_of Less h m = refl
less_of {q} {r} Equal h m = absurd (<ℚ_irrefl {q = r} (subst (λ (s : Rational). s <ℚ r) m h))
less_of {q} Greater h m = absurd (<ℚ_irrefl {q = q} (<ℚ_trans h m))

rational_total : IsTotalOrder rational_cmp
rational_total = record {
  antisymm = reversed;
  trans = λ q r s h k. less_of (rational_cmp q s) (<ℚ_trans (<ℚ_of_Less q r (sym h)) (<ℚ_of_Less r s (sym k))) (rational_ranks q s);
  congr = λ q r s e. ap (λ t. rational_cmp t s) (≡_of_Equal q r (sym e));
}

pub ranked_total : IsTotalOrder ranked_cmp
ranked_total =
    then_total (on_total (λ (r : Ranked). r.level) nat_cmp_total)
    (then_total (on_total (λ (r : Ranked). value_of_wide r.node.seen.bound) rational_total) (back_total (on_total (λ (r : Ranked). r.node.seen.number) nat_cmp_total)))

pub ranked_equiv : IsEquivalence ranked_eq
ranked_equiv = eq_by_cmp_equiv ranked_total

pub ranked_partial_equiv : IsPartialEquivalence ranked_eq
ranked_partial_equiv = partial_equiv_from_equiv ranked_equiv

pub ranked_partial_order : IsPartialOrder ranked_eq ranked_partial_cmp
ranked_partial_order = partial_order_from_total ranked_total

pub ranked_answers : Agrees ranked_partial_cmp ranked_cmp
ranked_answers x y = refl

pub ranked_ties : (x y : Ranked) → ranked_eq x y ≡ eq_by_cmp ranked_cmp x y
ranked_ties x y = refl
