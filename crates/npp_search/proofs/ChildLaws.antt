-- The children of a node that wait: those whose bound is above the lower value.
use Rattle.std.proofs.Common.{◌≡◌, ◌⊎◌, inl, inr, ℕ, ◌≤◌, Bool, true, false, cond, nat_eq, [], ◌∷◌, sym, subst, ap, arith, Contains}
use Rattle.std.proofs.lemmas.Bool.{cases_Bool}
use Rattle.std.proofs.lemmas.List.Sums.{sum_by-cons}
use Rattle.npp_frac.specs.Rational.{Rational, is_less, ◌<ℚ◌}
use Rattle.npp_frac.specs.Order.{is_less_yes, is_less_of_<ℚ}
use Rattle.npp_frac.specs.Wide.{value_of_wide}
use Rattle.npp_rows.specs.declared.allowed.Allowed.{Allowed}
use Rattle.npp_tree.specs.declared.bound.Bound.{Bound}
use Rattle.npp_tree.specs.declared.bound.Bound.TheVariants as bound
use Rattle.npp_tree.specs.Bounds.{BoundValue, bound_value, IsAbove}
use Rattle.npp_tree.specs.Tree.{Placed, was_opened}
use Rattle.npp_tree.specs.Keyed.{Held, without_key}
use Rattle.npp_tree.proofs.CountLaws.{in_head, in_cases}
use Rattle.npp_search.specs.declared.waiting.Waiting.{Waiting}
use Rattle.npp_search.specs.Grown.{IsLive}
use Rattle.npp_search.specs.Search.{StandsFor, waiting_count}
use Rattle.npp_search.specs.Steps.{child, waiting_at}

pub not_empty : (a : Waiting) → Contains [] a → ⊥
not_empty a c = let lt = c.1 in absurd (omega arith)

only_one : (w a : Waiting) → Contains (w ∷ []) a → w ≡ a
only_one w a c = elim (in_cases w a [] c) [ inl same ↦ same | inr none ↦ absurd (not_empty a none) ]

module _ (number key depth : ℕ) (allowed : Allowed) (lower : Rational) where
  -- it stands for this node, which was not opened
  module _ (c : Placed Held) (family : allowed.parts ≡ c.family) (same : key ≡ c.node.key) (closed : was_opened (without_key c) ≡ false) where
    pub child_live : (b : Bound) → bound_value b ≡ c.node.node.bound → (a : Waiting) → Contains (child number key depth allowed lower b) a
        → StandsFor a c × IsLive lower (without_key c)
    child_live bound.Empty is a in_child = absurd (not_empty a in_child)
    child_live (bound.At v) is a in_child = by (cases_Bool (is_less lower (value_of_wide v)))
      where
        yes_case : is_less lower (value_of_wide v) ≡ true → waiting_at number key depth allowed v ≡ a → StandsFor a c × IsLive lower (without_key c)
        yes_case e here = (
          subst (λ (x : Waiting). StandsFor x c) here (record { key = same; bound = is; family = family }),
          record { unopened = closed; above = subst (λ (x : BoundValue). IsAbove x lower) is (is_less_yes lower (value_of_wide v) e) },
        )

        by : (is_less lower (value_of_wide v) ≡ true) ⊎ (is_less lower (value_of_wide v) ≡ false) → StandsFor a c × IsLive lower (without_key c)
        by (inl e) = yes_case e (only_one (waiting_at number key depth allowed v) a (subst (λ (t : Bool). Contains (cond t (waiting_at number key depth allowed v ∷ []) []) a) e in_child))
        by (inr e) = absurd (not_empty a (subst (λ (t : Bool). Contains (cond t (waiting_at number key depth allowed v ∷ []) []) a) e in_child))

    pub child_all : (b : Bound) → bound_value b ≡ c.node.node.bound → IsLive lower (without_key c)
        → (a : Waiting) × Contains (child number key depth allowed lower b) a × StandsFor a c
    child_all bound.Empty is live = absurd (subst (λ (x : BoundValue). IsAbove x lower) (sym is) live.above)
    child_all (bound.At v) is live =
        let w : Waiting = waiting_at number key depth allowed v in
        let above : lower <ℚ value_of_wide v = subst (λ (x : BoundValue). IsAbove x lower) (sym is) live.above in (
          w,
          subst (λ (t : Bool). Contains (cond t (w ∷ []) []) w) (sym (is_less_of_<ℚ lower (value_of_wide v) above)) (in_head w []),
          record { key = same; bound = is; family = family },
        )

  -- it waits once, under its key
  pub child_count : (b : Bound) (k : ℕ) → waiting_count (child number key depth allowed lower b) k ≤ cond (nat_eq key k) 1 0
  child_count bound.Empty k = omega arith
  child_count (bound.At v) k = by (is_less lower (value_of_wide v))
    where
      by : (t : Bool) → waiting_count (cond t (waiting_at number key depth allowed v ∷ []) []) k ≤ cond (nat_eq key k) 1 0
      by true = omega (arith, sum_by-cons (λ (x : Waiting). cond (nat_eq x.key k) 1 0) (waiting_at number key depth allowed v) [])
      by false = omega arith

  pub child_depth : (b : Bound) (a : Waiting) → Contains (child number key depth allowed lower b) a → a.seen.depth ≡ depth
  child_depth bound.Empty a c = absurd (not_empty a c)
  child_depth (bound.At v) a c = by (is_less lower (value_of_wide v)) c
    where
      by : (t : Bool) → Contains (cond t (waiting_at number key depth allowed v ∷ []) []) a → a.seen.depth ≡ depth
      by true c = ap (λ (x : Waiting). x.seen.depth) (sym (only_one (waiting_at number key depth allowed v) a c))
      by false c = absurd (not_empty a c)
