-- The goal of the relaxation at an outcome is what the outcome earns.
use Rattle.std.specs.Prelude.{◌≡◌, ℕ, zero, suc, ◌+◌, ◌*◌, ◌<◌, pos, List, [], ◌∷◌, length, map, slice_index, slice_index_or, refl}
use Rattle.std.specs.List.{range_with_len}
use Rattle.std.proofs.Common.{arith, sym, ap, ap₂, ◌∙◌}
use Rattle.npp_frac.specs.Rational.{Rational, zero_ℚ, whole, ◌+ℚ◌, ◌*ℚ◌, Is, Is-same, Is-equal, Is-add, Is-mul, Is-whole, Is-ratio}
use Rattle.npp_frac.specs.Ring.{+ℚ-zero, zero-+ℚ, +ℚ_assoc}
use Rattle.npp_frac.specs.Sums.{sum_by, sum_by_same, sum_by-*ℚ, sum_to}
use Rattle.npp_lp.specs.Programs.{at, product_sum, goal_at}
use Rattle.npp_net.specs.declared.types.ArcId.{ArcId}
use Rattle.npp_net.specs.declared.types.NetArc.{NetArc}
use Rattle.npp_net.specs.declared.types.Commodity.{Commodity}
use Rattle.npp_net.specs.Network.{Network, no_commodity}
use Rattle.npp_net.specs.Toll.{TollVector, toll_paid}
use Rattle.npp_net.specs.Outcome.{revenue}
use Rattle.npp_rows.specs.declared.names.ColumnName.{ColumnName}
use Rattle.npp_rows.specs.declared.names.ColumnName.TheVariants.{Paid}
use Rattle.npp_rows.specs.PathModel.{PathModel, tolls, commodities, useful_path, demand_at}
use Rattle.npp_rows.specs.Parts.{chosen, IsAllowed}
use Rattle.npp_rows.specs.Named.{numbered, vector, value_over}
use Rattle.npp_rows.specs.Cuts.{Cut}
use Rattle.npp_rows.specs.Relax.{relaxation, relaxation_columns, paid_goal}
use Rattle.npp_rows.specs.Piece.{IsInPiece, outcome_number, earned, walks_of}
use Rattle.npp_rows.specs.Promises.{IsModelOf, RelaxationHolds}
use Rattle.npp_rows.proofs.ValueLaws.{outcome_value, paid_value_sum}
use Rattle.npp_rows.proofs.RowLaws.{toll_none, share_none, path_paid}
use Rattle.npp_rows.proofs.OutcomeLaws.{path_is, a_path, chosen_within, same_size}
use Rattle.npp_rows.proofs.RelaxationLaws.{relaxation_point}

-- ---- sums of products over two lists

pub sum_first : (n : ℕ) (f : ℕ → Rational) → sum_to (suc n) f ≡ f 0 +ℚ sum_to n (λ k. f (suc k))
unfolding sum_to
sum_first zero f = zero-+ℚ (f 0) ∙ sym (+ℚ-zero (f 0))
sum_first (suc n) f = ap (λ t. t +ℚ f (suc n)) (sum_first n f) ∙ +ℚ_assoc (f 0) (sum_to n (λ k. f (suc k))) (f (suc n))

pub products_by_name : (g x : ColumnName → Rational) (cs : List ColumnName) → product_sum (length cs) (at (map g cs)) (at (map x cs)) ≡ value_over cs g x
unfolding sum_by sum_to
products_by_name g x [] = refl
products_by_name g x (c ∷ cs) =
    sum_first (length cs) (λ i. at (g c ∷ map g cs) i *ℚ at (x c ∷ map x cs) i) ∙ ap (λ z. g c *ℚ x c +ℚ z) (products_by_name g x cs)

-- ---- the revenue

pub revenue_is : (arcs : List NetArc) (t : TollVector) (f : ℕ → List ArcId) (y : ℕ → Rational) (n : ℕ → ℕ) (positive : 0 < t.denominator) (ks : List Commodity) (a : ℕ)
    → ((k : ℕ) → k < length ks → n (a + k) ≡ (slice_index_or ks k no_commodity).demand)
    → ((k : ℕ) → k < length ks → Is (y (a + k)) (toll_paid arcs t (f (a + k))) 0 t.denominator)
    → Is (sum_by (λ k. whole (pos (n k)) *ℚ y k) (range_with_len a (length ks))) (revenue arcs t ks (map f (range_with_len a (length ks)))) 0 t.denominator
unfolding sum_by
revenue_is arcs t f y n positive [] a d p = Is-equal (Is-whole (pos 0)) positive (omega arith)
revenue_is arcs t f y n positive (k ∷ ks) a d p =
    let e : a + 0 ≡ a = omega arith in
    let first : n a ≡ k.demand = rw e at (d 0 (omega arith)) in
    let here : Is (y a) (toll_paid arcs t (f a)) 0 t.denominator = rw e at (p 0 (omega arith)) in
    let rest = revenue_is arcs t f y n positive ks (a + 1)
    (λ k l. let e : a + 1 + k ≡ a + suc k = omega arith in rw e (d (suc k) (omega (arith, l))))
    (λ k l. let e : a + 1 + k ≡ a + suc k = omega arith in rw e (p (suc k) (omega (arith, l)))) in
    Is-equal (Is-add (Is-mul (Is-whole (pos (n a))) here) rest) positive (omega (arith, ap (λ z. z * toll_paid arcs t (f a) * t.denominator * t.denominator) first))

demand_of : (ks : List Commodity) (k : ℕ) → k < length ks → slice_index (map (λ k. k.demand) ks) k ≡ (slice_index_or ks k no_commodity).demand
demand_of [] k h = absurd (omega (arith, h))
demand_of (c ∷ ks) zero h = refl
demand_of (c ∷ ks) (suc k) h = demand_of ks k (omega (arith, h))

module _ (net : Network) (m : PathModel) (parts : List (List ℕ)) (cuts : List Cut) (t : TollVector) (choice : List ℕ) (model : IsModelOf net m) (allowed : IsAllowed m parts) (piece : IsInPiece net m parts t choice) where
  pub demands : (k : ℕ) → k < length net.commodities → demand_at m k ≡ (slice_index_or net.commodities k no_commodity).demand
  demands k h = ap (λ z. slice_index z.demands k) model.same ∙ demand_of net.commodities k h

  pub paid_goal_sum : paid_value_sum m t choice (paid_goal m) ≡ sum_by (λ k. whole (pos (demand_at m k)) *ℚ path_paid net m parts t choice allowed piece k (chosen choice k)) (commodities m)
  paid_goal_sum =
      sum_by_same (λ k. sum_by (λ a. whole (pos (demand_at m k)) *ℚ outcome_number m t choice (Paid a k)) (tolls m)) (λ k. whole (pos (demand_at m k)) *ℚ path_paid net m parts t choice allowed piece k (chosen choice k)) (commodities m)
      (λ k. sum_by-*ℚ (whole (pos (demand_at m k))) (λ a. outcome_number m t choice (Paid a k)) (tolls m))

  path_pays : (k : ℕ) → k < length net.commodities → Is (path_paid net m parts t choice allowed piece k (chosen choice k)) (toll_paid net.arcs t (useful_path m k (chosen choice k)).arcs) 0 t.denominator
  path_pays k h =
      let u : k < length m.covers = omega (arith, h, same_size net m parts t choice model allowed piece) in
      let p = a_path net m parts t choice model allowed piece k u (chosen choice k) (chosen_within net m parts t choice model allowed piece k u) in
      rw (p.pays t) (path_is net m parts t choice model allowed piece k u (chosen choice k))

  pub goal_is : Is (paid_value_sum m t choice (paid_goal m)) (revenue net.arcs t net.commodities (walks_of m choice)) 0 t.denominator
  goal_is =
      let all = revenue_is net.arcs t (λ k. (useful_path m k (chosen choice k)).arcs) (λ k. path_paid net m parts t choice allowed piece k (chosen choice k)) (demand_at m) (omega (arith, piece.outcome.vector.positive)) net.commodities 0
      (λ k l. let e : 0 + k ≡ k = omega arith in rw e (demands k l))
      (λ k l. let e : 0 + k ≡ k = omega arith in rw e (path_pays k l)) in
      rw paid_goal_sum (rw (same_size net m parts t choice model allowed piece) at all)

  pub relaxation_goal : goal_at (numbered (relaxation m parts cuts)) (vector (relaxation m parts cuts) (outcome_number m t choice)) ≡ earned net m t choice
  relaxation_goal =
      products_by_name (paid_goal m) (outcome_number m t choice) (relaxation_columns m parts)
      ∙ outcome_value m parts t choice allowed piece.allowed (paid_goal m)
      ∙ ap₂ ◌+ℚ◌ (ap₂ ◌+ℚ◌ (toll_none m t choice (paid_goal m) (λ b. refl)) (share_none m t choice (paid_goal m) (λ k p. refl))) refl
      ∙ ap (λ z. z +ℚ paid_value_sum m t choice (paid_goal m)) (zero-+ℚ zero_ℚ)
      ∙ zero-+ℚ (paid_value_sum m t choice (paid_goal m))
      ∙ Is-same goal_is (Is-ratio (pos (revenue net.arcs t net.commodities (walks_of m choice))) t.denominator (omega (arith, piece.outcome.vector.positive))) (omega arith)

-- each outcome of the piece is a point of the relaxation, and its goal there is what the outcome earns
pub relaxation_holds : (net : Network) (m : PathModel) (parts : List (List ℕ)) (cuts : List Cut) → RelaxationHolds net m parts cuts
relaxation_holds net m parts cuts model allowed valid t choice piece = record {
  point = relaxation_point net m parts cuts t choice model allowed piece valid;
  goal = relaxation_goal net m parts cuts t choice model allowed piece;
}
