-- The status of a search that ended, and the number that its tree has as bound.
use Rattle.std.proofs.Common.{◌≡◌, true, false, refl, subst}
use Rattle.npp_frac.specs.Rational.{Rational, is_less, ◌≤ℚ◌, ◌<ℚ◌}
use Rattle.npp_frac.specs.Order.{≤ℚ_antisymm, <ℚ_irrefl, is_less_yes, is_less_no}
use Rattle.npp_tree.specs.declared.outcome.Status.{Status}
use Rattle.npp_tree.specs.declared.outcome.Status.TheVariants.{Optimal, Budget, Overflow}
use Rattle.npp_tree.specs.Bounds.{BoundValue, Empty, IsWithin}
use Rattle.npp_search.specs.Ending.{IsStatusBy}

module _ (lower upper : Rational) (h : lower ≤ℚ upper) where
  equal_of : is_less lower upper ≡ false → lower ≡ upper
  equal_of e = ≤ℚ_antisymm h (is_less_no lower upper e)

  apart_of : is_less lower upper ≡ true → lower ≡ upper → ⊥
  apart_of e same = <ℚ_irrefl (subst (λ (q : Rational). q <ℚ upper) same (is_less_yes lower upper e))

  pub is_optimal : (Waits : Type 0) → is_less lower upper ≡ false → IsStatusBy lower upper Waits Optimal
  is_optimal Waits e = record {
    optimal = (λ _. equal_of e, λ _. refl);
    budget = (λ clash. absurd (let no : Optimal ≡ Budget = clash in cc), λ p. absurd (p.0 (equal_of e)));
  }

  pub is_budget : (Waits : Type 0) → is_less lower upper ≡ true → Waits → IsStatusBy lower upper Waits Budget
  is_budget Waits e waits = record {
    optimal = (λ clash. absurd (let no : Budget ≡ Optimal = clash in cc), λ same. absurd (apart_of e same));
    budget = (λ _. (apart_of e, waits), λ _. refl);
  }

  pub is_overflow : (Waits : Type 0) → is_less lower upper ≡ true → (Waits → ⊥) → IsStatusBy lower upper Waits Overflow
  is_overflow Waits e none = record {
    optimal = (λ clash. absurd (let no : Overflow ≡ Optimal = clash in cc), λ same. absurd (apart_of e same));
    budget = (λ clash. absurd (let no : Overflow ≡ Budget = clash in cc), λ p. absurd (none p.1));
  }

-- where a node waits in one sense exactly where it does in another
pub waits_as : (lower upper : Rational) (A B : Type 0) (s : Status) → (A → B) → (B → A) → IsStatusBy lower upper A s → IsStatusBy lower upper B s
waits_as lower upper A B s there back by = record {
  optimal = by.optimal;
  budget = (λ e. ((by.budget.0 e).0, there (by.budget.0 e).1), λ p. by.budget.1 (p.0, back p.1));
}

-- no number is within Empty
pub not_empty_bound : (q : Rational) (b : BoundValue) → IsWithin q b → b ≡ Empty → ⊥
not_empty_bound q b within e = subst (IsWithin q) e within
