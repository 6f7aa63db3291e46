-- A leaf is split by a rule, or stays a leaf.
use Rattle.std.proofs.Common.{◌≡◌, ℕ, ◌+◌, ◌<◌, true, false, List, [], ◌∷◌, ◌++◌, length, ◌∙◌, subst, ap, ap₂, arith, Contains}
use Rattle.std.specs.Prelude.{slice_index}
use Rattle.std.specs.List.{AllPairs}
use Rattle.std.proofs.lemmas.List.{append_assoc}
use Rattle.std.proofs.lemmas.List.Elements.{Contains-get_or}
use Rattle.npp_frac.specs.Rational.{Rational}
use Rattle.npp_frac.specs.Order.{is_less_yes, is_less_no}
use Rattle.npp_frac.specs.Wide.{value_of_wide}
use Rattle.npp_rows.specs.declared.allowed.Allowed.{Allowed}
use Rattle.npp_rows.specs.PathModel.{PathModel}
use Rattle.npp_rows.specs.Parts.{part_at}
use Rattle.npp_tree.specs.declared.bound.Bound.{Bound}
use Rattle.npp_tree.specs.Bounds.{BoundValue, Empty, At, bound_value, is_below, IsAbove, IsUpTo}
use Rattle.npp_tree.specs.Family.{Family, Division, Divides, first_of, second_of}
use Rattle.npp_tree.specs.Tree.{bound_before}
use Rattle.npp_tree.specs.Keyed.{AreFresh, split_at, unopened}
use Rattle.npp_search.specs.declared.waiting.Waiting.{Waiting}
use Rattle.npp_search.specs.declared.state.State.{State}
use Rattle.npp_search.specs.Rule.{IsByShares, IsByCount, division_by}
use Rattle.npp_search.specs.Scan.{AreSharesOf}
use Rattle.npp_search.specs.Steps.{child, Makes, Splits}
use Rattle.npp_search.proofs.RuleLaws.{one_divides}

-- ---- the rule divides

abbrev pub AreRising : Family → Type 0
AreRising family = (k : ℕ) → k < length family → AllPairs (λ p q. p < q) (part_at family k)

pub by_shares_divides : (family : Family) (shares : List (List Rational)) (k path : ℕ) → AreSharesOf family shares → AreRising family → IsByShares family shares (division_by k path)
    → Divides family (division_by k path)
by_shares_divides family shares k path are rising is =
    let lt : is.place < length (part_at family k) = omega (arith, is.greatest.in_range, are.each k is.several.in_range) in
    let part : path ∷ [] ≡ slice_index (part_at family k) is.place ∷ [] = is.part in
    let same : slice_index (part_at family k) is.place ≡ path = cc in
    one_divides family k path is.several (rising k is.several.in_range) (subst (λ (q : ℕ). Contains (part_at family k) q) same (Contains-get_or (part_at family k) is.place 0 lt))

pub by_count_divides : (family : Family) (k path : ℕ) → AreRising family → IsByCount family (division_by k path) → Divides family (division_by k path)
by_count_divides family k path rising is =
    let lt : 0 < length (part_at family k) = omega (arith, is.several.several) in
    let part : path ∷ [] ≡ slice_index (part_at family k) 0 ∷ [] = is.part in
    let same : slice_index (part_at family k) 0 ≡ path = cc in
    one_divides family k path is.several (rising k is.several.in_range) (subst (λ (q : ℕ). Contains (part_at family k) q) same (Contains-get_or (part_at family k) 0 0 lt))

-- ---- where a bound is above the lower value

pub up_to_of_not_below : (b : BoundValue) (q : Rational) → is_below (At q) b ≡ false → IsUpTo b q
up_to_of_not_below Empty q e = tt
up_to_of_not_below (At v) q e = is_less_no q v e

pub above_of_below : (b : BoundValue) (q : Rational) → is_below (At q) b ≡ true → IsAbove b q
above_of_below Empty q e = absurd (let clash : false ≡ true = e in cc)
above_of_below (At v) q e = is_less_yes q v e

-- ---- two children are made

module _ {N : Type 0} (m : PathModel) (s0 s1 s2 s3 : State N) (key depth : ℕ) (family : Family) (b : BoundValue) (d : Division) (one other : ℕ) (first second : Bound) (left right : Allowed)
    (tree : s1.tree ≡ split_at s0.tree key d (unopened one (bound_value first)) (unopened other (bound_value second))) (waiting : s1.waiting ≡ s0.waiting) (opened : s1.opened ≡ s0.opened)
    (made : s1.made ≡ s0.made) (lower : s1.lower ≡ s0.lower) (best : s1.best ≡ s0.best) (is_left : left.parts ≡ first_of family d) (is_right : right.parts ≡ second_of family d)
    (makes : Makes s1 s2 (child s1.made one (depth + 1) left (value_of_wide s1.lower) first)) (more : Makes s2 s3 (child s2.made other (depth + 1) right (value_of_wide s2.lower) second)) where
  first_waits : child s1.made one (depth + 1) left (value_of_wide s1.lower) first ≡ child s0.made one (depth + 1) (record { parts = first_of family d }) (value_of_wide s0.lower) first
  first_waits = λ i. child (made i) one (depth + 1) (record { parts = is_left i }) (value_of_wide (lower i)) first

  made_two : s2.made ≡ s0.made + 1
  made_two = makes.made ∙ ap (λ (n : ℕ). n + 1) made

  lower_two : s2.lower ≡ s0.lower
  lower_two = makes.lower ∙ lower

  second_waits : child s2.made other (depth + 1) right (value_of_wide s2.lower) second
      ≡ child (s0.made + 1) other (depth + 1) (record { parts = second_of family d }) (value_of_wide s0.lower) second
  second_waits = λ i. child (made_two i) other (depth + 1) (record { parts = is_right i }) (value_of_wide (lower_two i)) second

  all_wait : s3.waiting ≡ s0.waiting
      ++ (child s0.made one (depth + 1) (record { parts = first_of family d }) (value_of_wide s0.lower) first
      ++ child (s0.made + 1) other (depth + 1) (record { parts = second_of family d }) (value_of_wide s0.lower) second)
  all_wait =
      more.waiting
      ∙ (ap₂ (λ (xs ys : List Waiting). xs ++ ys) (makes.waiting ∙ ap₂ (λ (xs ys : List Waiting). xs ++ ys) waiting first_waits) second_waits
      ∙ append_assoc s0.waiting (child s0.made one (depth + 1) (record { parts = first_of family d }) (value_of_wide s0.lower) first)
      (child (s0.made + 1) other (depth + 1) (record { parts = second_of family d }) (value_of_wide s0.lower) second))

  pub splits_are : AreFresh s0.tree one other → bound_value first ≡ bound_before m (first_of family d) b → bound_value second ≡ bound_before m (second_of family d) b
      → Splits m s0 s3 key depth family b d
  splits_are fresh first_bound second_bound = record {
    one = one;
    other = other;
    first = first;
    second = second;
    fresh = fresh;
    first_bound = first_bound;
    second_bound = second_bound;
    tree = more.tree ∙ (makes.tree ∙ tree);
    waiting = all_wait;
    opened = more.opened ∙ (makes.opened ∙ opened);
    made = (let a = more.made in let c = made_two in omega (arith, a, c));
    lower = more.lower ∙ lower_two;
    best = more.best ∙ (makes.best ∙ best);
  }
