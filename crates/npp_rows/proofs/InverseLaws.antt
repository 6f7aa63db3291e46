-- Each outcome of the piece of a full choice meets its inverse program.
use Rattle.std.specs.Prelude.{◌≡◌, ℕ, zero, suc, ◌+◌, ◌<◌, pos, List, [], ◌∷◌, length, map, slice_index, sum_by as total, Bool, true, false, cond, ◌==◌, ◌&&◌, Option, Some, Contains, refl}
use Rattle.std.proofs.Common.{arith, sym, ap, ap₂, ◌∙◌, subst, eqb-true}
use Rattle.std.proofs.lemmas.List.Sums.{sum_by-cons}
use Rattle.npp_frac.specs.Rational.{Rational, zero_ℚ, whole, ◌+ℚ◌, ◌*ℚ◌, Is-same, Is-whole, Is-add, Is-ratio}
use Rattle.npp_frac.specs.Ring.{zero-*ℚ, *ℚ-zero, +ℚ-*ℚ}
use Rattle.npp_frac.specs.Sums.{sum_by, sum_by_same, sum_by-map, sum_by-+ℚ, sum_by-*ℚ}
use Rattle.npp_net.specs.Network.{Network}
use Rattle.npp_net.specs.Toll.{TollVector}
use Rattle.npp_net.specs.Outcome.{revenue}
use Rattle.npp_lp.specs.Programs.{goal_at}
use Rattle.npp_rows.specs.declared.names.ColumnName.TheVariants.{Toll}
use Rattle.npp_rows.specs.PathModel.{PathModel, tolls, commodities, uses, demand_at}
use Rattle.npp_rows.specs.Parts.{part_at, chosen, is_full, first_choice, IsAllowed}
use Rattle.npp_rows.specs.Named.{numbered, vector}
use Rattle.npp_rows.specs.Cuts.{Cut}
use Rattle.npp_rows.specs.Inverse.{inverse, payers, revenue_goal}
use Rattle.npp_rows.specs.Relax.{relaxation}
use Rattle.npp_rows.specs.NodeProgram.{node_program}
use Rattle.npp_rows.specs.Piece.{IsInPiece, toll_value, outcome_number, earned, walks_of, AreValidCuts}
use Rattle.npp_rows.specs.Promises.{IsModelOf, IsPointOf, InverseHolds}
use Rattle.npp_rows.proofs.RowLaws.{path_paid}
use Rattle.npp_rows.proofs.GoalLaws.{products_by_name, paid_goal_sum, goal_is, relaxation_holds}
use Rattle.npp_rows.proofs.ChoiceLaws.{choice_point}

-- ---- the choice of a full choice

both : (a b : Bool) → (a && b) ≡ true → (a ≡ true) × (b ≡ true)
both true b e = (refl, e)
both false b e = cc

one_in : (part : List ℕ) (q : ℕ) → length part ≡ 1 → Contains part q → slice_index part 0 ≡ q
one_in [] q e c = absurd (omega (arith, e))
one_in (x ∷ []) q e (zero, l, s) = s
one_in (x ∷ []) q e (suc i, l, s) = absurd (omega (arith, l))
one_in (x ∷ y ∷ part) q e c = absurd (omega (arith, e))

pub full_choice : (parts : List (List ℕ)) (choice : List ℕ) → length choice ≡ length parts → is_full parts ≡ true
    → ((k : ℕ) → k < length parts → Contains (part_at parts k) (chosen choice k)) → first_choice parts ≡ choice
full_choice [] [] size full each = refl
full_choice [] (q ∷ choice) size full each = absurd (omega (arith, size))
full_choice (part ∷ parts) [] size full each = absurd (omega (arith, size))
full_choice (part ∷ parts) (q ∷ choice) size full each =
    let tests = both (length part == 1) (is_full parts) full in
    ap₂ ◌∷◌ (one_in part q (eqb-true (length part) 1 tests.0) (each 0 (omega arith)))
    (full_choice parts choice (omega (arith, size)) tests.1 (λ k l. each (suc k) (omega (arith, l))))

-- ---- sums in either order

pub swapped : {X Y : Type 0} (f : X → Y → Rational) (xs : List X) (ys : List Y) → sum_by (λ x. sum_by (f x) ys) xs ≡ sum_by (λ y. sum_by (λ x. f x y) xs) ys
unfolding sum_by
swapped f [] ys = sym (nothing ys)
  where
    nothing : {Y : Type 0} (ys : List Y) → sum_by (λ y. zero_ℚ) ys ≡ zero_ℚ
    nothing [] = refl
    nothing (y ∷ ys) = ap (λ z. zero_ℚ +ℚ z) (nothing ys) ∙ Is-same (Is-add (Is-whole (pos 0)) (Is-whole (pos 0))) (Is-whole (pos 0)) (omega arith)
swapped f (x ∷ xs) ys = ap (λ z. sum_by (f x) ys +ℚ z) (swapped f xs ys) ∙ sym (sum_by-+ℚ (f x) (λ y. sum_by (λ x. f x y) xs) ys)

whole_sum : (a b : ℕ) → whole (pos (a + b)) ≡ whole (pos a) +ℚ whole (pos b)
whole_sum a b = Is-same (Is-whole (pos (a + b))) (Is-add (Is-whole (pos a)) (Is-whole (pos b))) (omega arith)

-- a total of whole numbers, times a number
pub total_times : (f : ℕ → ℕ) (q : Rational) (ks : List ℕ) → whole (pos (total f ks)) *ℚ q ≡ sum_by (λ k. whole (pos (f k)) *ℚ q) ks
unfolding sum_by
total_times f q [] = zero-*ℚ q
total_times f q (k ∷ ks) =
    ap (λ n. whole (pos n) *ℚ q) (sum_by-cons f k ks)
    ∙ ap (λ z. z *ℚ q) (whole_sum (f k) (total f ks))
    ∙ +ℚ-*ℚ (whole (pos (f k))) (whole (pos (total f ks))) q
    ∙ ap (λ z. whole (pos (f k)) *ℚ q +ℚ z) (total_times f q ks)

pub paid_if : (n : ℕ) (q : Rational) (b : Bool) → whole (pos (cond b n 0)) *ℚ q ≡ whole (pos n) *ℚ cond b q zero_ℚ
paid_if n q true = refl
paid_if n q false = zero-*ℚ q ∙ sym (*ℚ-zero (whole (pos n)))

-- ---- the goal

module _ (net : Network) (m : PathModel) (parts : List (List ℕ)) (t : TollVector) (choice : List ℕ) (model : IsModelOf net m) (allowed : IsAllowed m parts) (piece : IsInPiece net m parts t choice) where
  goal_by_paths : sum_by (λ a. whole (pos (payers m choice a)) *ℚ toll_value t a) (tolls m)
      ≡ sum_by (λ k. whole (pos (demand_at m k)) *ℚ path_paid net m parts t choice allowed piece k (chosen choice k)) (commodities m)
  goal_by_paths =
      sum_by_same (λ a. whole (pos (payers m choice a)) *ℚ toll_value t a) (λ a. sum_by (λ k. whole (pos (cond (uses m k (chosen choice k) a) (demand_at m k) 0)) *ℚ toll_value t a) (commodities m)) (tolls m)
      (λ a. total_times (λ k. cond (uses m k (chosen choice k) a) (demand_at m k) 0) (toll_value t a) (commodities m))
      ∙ swapped (λ a k. whole (pos (cond (uses m k (chosen choice k) a) (demand_at m k) 0)) *ℚ toll_value t a) (tolls m) (commodities m)
      ∙ sum_by_same (λ k. sum_by (λ a. whole (pos (cond (uses m k (chosen choice k) a) (demand_at m k) 0)) *ℚ toll_value t a) (tolls m)) (λ k. whole (pos (demand_at m k)) *ℚ path_paid net m parts t choice allowed piece k (chosen choice k)) (commodities m)
      (λ k. sum_by_same (λ a. whole (pos (cond (uses m k (chosen choice k) a) (demand_at m k) 0)) *ℚ toll_value t a) (λ a. whole (pos (demand_at m k)) *ℚ cond (uses m k (chosen choice k) a) (toll_value t a) zero_ℚ) (tolls m)
      (λ a. paid_if (demand_at m k) (toll_value t a) (uses m k (chosen choice k) a))
      ∙ sum_by-*ℚ (whole (pos (demand_at m k))) (λ a. cond (uses m k (chosen choice k) a) (toll_value t a) zero_ℚ) (tolls m))

  inverse_goal : goal_at (numbered (inverse m choice)) (vector (inverse m choice) (outcome_number m t choice)) ≡ earned net m t choice
  inverse_goal =
      products_by_name (revenue_goal m choice) (outcome_number m t choice) (map Toll (tolls m))
      ∙ sum_by-map (λ c. revenue_goal m choice c *ℚ outcome_number m t choice c) Toll (tolls m)
      ∙ goal_by_paths
      ∙ sym (paid_goal_sum net m parts [] t choice model allowed piece)
      ∙ Is-same (goal_is net m parts [] t choice model allowed piece) (Is-ratio (pos (revenue net.arcs t net.commodities (walks_of m choice))) t.denominator (omega (arith, piece.outcome.vector.positive))) (omega arith)

  some_is : (p q : ℕ) → (let o : Option ℕ = Some p in o ≡ Some q) → q ≡ p
  some_is p q e = cc

  pub inverse_point : IsPointOf net m (inverse m choice) t choice
  inverse_point = record {
    point = choice_point net m parts t choice model allowed piece (λ k. Some (chosen choice k)) (λ k p e. some_is (chosen choice k) p e) (revenue_goal m choice);
    goal = inverse_goal;
  }

pub inverse_holds : (net : Network) (m : PathModel) (parts : List (List ℕ)) → InverseHolds net m parts
inverse_holds net m parts model allowed full t choice piece =
    let same = full_choice parts choice (piece.allowed.size ∙ sym allowed.size) full (λ k l. piece.allowed.each k (omega (arith, l, allowed.size))) in
    subst (λ (c : List ℕ). IsPointOf net m (inverse m c) t choice) (sym same) (inverse_point net m parts t choice model allowed piece)

-- ---- the program of a node

by_kind : (net : Network) (m : PathModel) (parts : List (List ℕ)) (cuts : List Cut) → IsModelOf net m → IsAllowed m parts → AreValidCuts net m cuts
    → (t : TollVector) (choice : List ℕ) → IsInPiece net m parts t choice → (b : Bool) → is_full parts ≡ b
    → IsPointOf net m (cond b (inverse m (first_choice parts)) (relaxation m parts cuts)) t choice
by_kind net m parts cuts model allowed valid t choice piece true e = inverse_holds net m parts model allowed e t choice piece
by_kind net m parts cuts model allowed valid t choice piece false e = relaxation_holds net m parts cuts model allowed valid t choice piece

-- each outcome of a node's paths is a point of its program, with what it earns as goal
pub node_holds : (net : Network) (m : PathModel) (parts : List (List ℕ)) (cuts : List Cut) → IsModelOf net m → IsAllowed m parts → AreValidCuts net m cuts
    → (t : TollVector) (choice : List ℕ) → IsInPiece net m parts t choice → IsPointOf net m (node_program m cuts parts) t choice
node_holds net m parts cuts model allowed valid t choice piece = by_kind net m parts cuts model allowed valid t choice piece (is_full parts) refl
